-- Summaries and the work area. Document 01, "Questions", on fewest. In the field's terms: the distances between the external nodes of
-- each rule.
use Rattle.std.specs.Prelude.{ℕ, suc, ◌+◌, ◌*◌, ◌-◌, length, replicate}
use mathlib.Core.List.{List, ◌++◌, map, flat_map}
use Rattle.model.specs.Choice.{if_lt}
use Rattle.model.specs.Limits.{summary_size, summary_width, work_size, no_chain}
use Rattle.model.specs.Blocks.{Link, Block, joins_of, total}
use Rattle.model.specs.Unfolding.{links}
use Rattle.model.specs.Lists.{range, overwrite}
use Rattle.model.specs.Chains.{Distance, Far, Unreachable, fewest}

-- "that block's own unfolding": its links when it stands alone. Its own cues and those of its uses have the numbers 1 to its total,
-- and its joins, which nothing outside meets, the numbers after that.
unfoldable pub block_links : List Block → ℕ → List Link
block_links bs k = links bs k 0 (range (suc (total bs k)) (joins_of bs k))

unfoldable pub or_none : Distance → ℕ
or_none (Far n) = n
or_none Unreachable = no_chain

-- What finds the fewest follow-ons: of some links, among so many cues, from s to t. Where the numbers stand does not depend on it.
abbrev pub Search : Type 0
Search = List Link → ℕ → ℕ → ℕ → Distance

-- "for block k, join i to join j (both from 1) .. the fewest follow-ons inside that block's own unfolding. It is 4,294,967,295 where
-- the block lacks either join or has no chain, and 0 from a join it has to itself."
unfoldable pub summary_by : Search → List Block → ℕ → ℕ → ℕ → ℕ
summary_by find bs k i j =
    if_lt (joins_of bs k) i no_chain
    (if_lt (joins_of bs k) j no_chain
    (or_none (find (block_links bs k) (total bs k + joins_of bs k) (total bs k + i) (total bs k + j))))

-- "at place 64 × k + 8 × (i − 1) + (j − 1), counted from 0": block k's numbers.
unfoldable pub summary_of_by : Search → List Block → ℕ → List ℕ
summary_of_by find bs k = flat_map (λ i. map (λ j. summary_by find bs k i j) (range 1 summary_width)) (range 1 summary_width)

-- "its first 64 × blocks numbers hold the summaries".
unfoldable pub summaries_by : Search → List Block → List ℕ
summaries_by find bs = flat_map (λ k. summary_of_by find bs k) (range 0 (length bs))

-- "The others up to 16,384 are 0; beyond that nothing changes."
unfoldable pub work_by : Search → List Block → List ℕ → List ℕ
work_by find bs work = overwrite (summaries_by find bs ++ replicate (work_size - summary_size * length bs) 0) work

-- The four of the fewest question.
abbrev pub summary : List Block → ℕ → ℕ → ℕ → ℕ
summary = summary_by fewest

abbrev pub summary_of : List Block → ℕ → List ℕ
summary_of = summary_of_by fewest

abbrev pub summaries : List Block → List ℕ
summaries = summaries_by fewest

abbrev pub work_after : List Block → List ℕ → List ℕ
work_after = work_by fewest
