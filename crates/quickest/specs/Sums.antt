-- The work area as it is filled with the sums of waits between joins.
use Rattle.std.specs.Prelude.{ℕ, ◌+◌, ◌≤◌, ◌≡◌, List, length}
use Rattle.model.specs.Limits.{work_size}
use Rattle.model.specs.Blocks.{blocks_of, total}
use Rattle.model.specs.Summaries.{block_links}
use Rattle.shows.specs.Waits.{AreWaits}
use Rattle.distances.specs.Tells.{Join, Tells, Knows}
use Rattle.distances.specs.Quickest.{priced, no_sum}
use Rattle.blocks.specs.Loaded.{Loaded, IsBlock}
use Rattle.searches.specs.Edges.{numbers}
use Rattle.searches.specs.Knowing.{HasTable}

-- What filling block k's part of the work area asks for.
pub record MaySum (xs t waits : List ℕ) (k : ℕ) (work : List ℕ) : Type 0 where
  pub loaded : Loaded xs t
  pub waited : AreWaits waits
  pub block : IsBlock xs k
  pub area : length work ≡ work_size

-- The work area tells the smallest sums between the joins of the blocks below k, and those from the first i joins of block k.
pub record SumsTo (xs waits : List ℕ) (k i : ℕ) (work : List ℕ) : Type 0 where
  pub below : Knows (priced waits) no_sum (blocks_of xs) (numbers work) k
  pub rows : (a j : ℕ) → a ≤ i → Join (blocks_of xs) k a → Join (blocks_of xs) k j
      → Tells (priced waits) (block_links (blocks_of xs) k) no_sum (total (blocks_of xs) k + a) (total (blocks_of xs) k + j) (numbers work k a j)

-- A loaded show, and the smallest sums between the joins of all its blocks in the work area.
abbrev pub HasSums : List ℕ → List ℕ → List ℕ → List ℕ → Type 0
HasSums xs t waits work = HasTable no_sum (λ d. d) (priced waits) xs t work
