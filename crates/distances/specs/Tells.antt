-- What leads from cue to cue of a block, what a number tells of the walks between two cues, and the summaries of the first blocks.
use Rattle.std.specs.Prelude.{ℕ, ◌+◌, ◌*◌, ◌-◌, ◌≤◌, ◌<◌, ◌≡◌, get_or}
use mathlib.Core.List.{List, flat_map, Memᴰ}
use Rattle.model.specs.Choice.{if_lt}
use Rattle.model.specs.Limits.{no_chain, summary_size, summary_width}
use Rattle.model.specs.Blocks.{Link, Use, Block, joins_of, total}
use Rattle.model.specs.Lists.{range}
use Rattle.model.specs.Chains.{Distance, Far, Unreachable, fewest}
use Rattle.model.specs.Summaries.{Search, block_links, summary_of_by}
use Rattle.distances.specs.Walks.{Walk, Price, Linked}

-- i is one of the joins of block k, from 1.
abbrev pub Join : List Block → ℕ → ℕ → Type 0
Join bs k i = (1 ≤ i) × (i ≤ joins_of bs k)

-- The cue that join i of a use's copy meets, in the numbering of the block that has the use.
abbrev pub met_by : Use → ℕ → ℕ
met_by u i = get_or u.at (i - 1) 0

-- What leads from cue to cue of a block: its links, and its uses from join to join by a table of the lower blocks.
pub data Local (price : Price) (table : ℕ → ℕ → ℕ → ℕ → Type 0) (bs : List Block) (b : Block) : ℕ → ℕ → ℕ → Type 0 where
  by-link : {u v w : ℕ} (l : Link) → Memᴰ l b.links → l.from ≡ u → l.to ≡ v → price l.label w → Local price table bs b u v w
  by-use : {u v w : ℕ} (q : Use) → Memᴰ q b.uses → (i j : ℕ) → Join bs q.block i → Join bs q.block j
      → table q.block i j w → met_by q i ≡ u → met_by q j ≡ v → Local price table bs b u v w

-- Estimates that begin, at the cues that a part's joins meet, with what was found inside the part.
abbrev pub FromPart : List Block → Use → (ℕ → ℕ) → ℕ → ℕ → Type 0
FromPart bs u e a x = (i : ℕ) × Join bs u.block i × (met_by u i ≡ a) × (x ≡ e i)

-- Numbers for joins, read as a table: from inf on a number says nothing.
abbrev pub InTable : ℕ → (ℕ → ℕ → ℕ → ℕ) → ℕ → ℕ → ℕ → ℕ → Type 0
InTable inf tab k i j w = (tab k i j ≡ w) × (w < inf)

-- A walk of weight w from join i to join j of block k alone.
abbrev pub JoinWalk : Price → List Block → ℕ → ℕ → ℕ → ℕ → Type 0
JoinWalk price bs k i j w = Walk (Linked price (block_links bs k)) (total bs k + j) (total bs k + i) w

-- A table that knows the least weight between any two joins of the blocks below limit: nothing in it is wrong, and no row is lighter.
pub record ExactTable (price : Price) (bs : List Block) (limit : ℕ) (table : ℕ → ℕ → ℕ → ℕ → Type 0) : Type 0 where
  pub sound : (k i j w : ℕ) → k < limit → Join bs k i → Join bs k j → table k i j w → JoinWalk price bs k i j w
  pub covers : (k i j w : ℕ) → k < limit → Join bs k i → Join bs k j → JoinWalk price bs k i j w → (x : ℕ) × table k i j x × (x ≤ w)

-- x is the least weight of a walk from s to t, if that is below inf; else no walk is lighter than x.
pub record Tells (price : Price) (E : List Link) (inf s t x : ℕ) : Type 0 where
  pub reached : x < inf → Walk (Linked price E) t s x
  pub least : (n : ℕ) → Walk (Linked price E) t s n → x ≤ n

-- tab tells the least weights between the joins of the blocks below limit, inside each block's own unfolding.
abbrev pub Knows : Price → ℕ → List Block → (ℕ → ℕ → ℕ → ℕ) → ℕ → Type 0
Knows price inf bs tab limit =
    (k i j : ℕ) → k < limit → Join bs k i → Join bs k j → Tells price (block_links bs k) inf (total bs k + i) (total bs k + j) (tab k i j)

-- What an estimate says: a number, or none from inf on.
unfoldable pub told : ℕ → ℕ → Distance
told inf x = if_lt x inf (Far x) Unreachable

-- What an estimate of follow-ons says.
abbrev pub distance : ℕ → Distance
distance x = told no_chain x

-- Where block k's number for joins i and j stands in the work area.
abbrev pub summary_place : ℕ → ℕ → ℕ → ℕ
summary_place k i j = summary_size * k + summary_width * (i - 1) + (j - 1)

-- The summaries of the first n blocks: none at first, and one block's numbers more behind them.
unfoldable pub summaries_to_by : Search → List Block → ℕ → List ℕ
summaries_to_by find bs n = flat_map (λ k. summary_of_by find bs k) (range 0 n)

abbrev pub summaries_to : List Block → ℕ → List ℕ
summaries_to = summaries_to_by fewest
