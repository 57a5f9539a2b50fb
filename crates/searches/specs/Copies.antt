-- What estimates tell of distances in the copies that rows of uses lead to.
use Rattle.std.specs.Prelude.{ℕ, ◌+◌, ◌*◌, ◌-◌, ◌≤◌, ◌<◌, ◌≡◌, ◌≢◌, List, get_or}
use Rattle.model.specs.Limits.{max_blocks, summary_width}
use Rattle.model.specs.Blocks.{block_at, blocks_of}
use Rattle.shows.specs.WellFormed.{Cue}
use Rattle.shows.specs.Copies.{Copy, number, all-links, InCopy, show_copy}
use Rattle.distances.specs.Walks.{Price}
use Rattle.distances.specs.Tells.{Tells, FromPart}
use Rattle.verdicts.specs.Index.{use_at}
use Rattle.blocks.specs.Places.{block_on}
use Rattle.blocks.specs.declared.Place.{Place}
use Rattle.searches.specs.Starts.{Beginnings, Cell}
use Rattle.copies.specs.ByRows.{copy_on}
use Rattle.searches.specs.Joins.{AtJoins, passed}

-- Estimates of copy y tell the distances from s inside the copy; in the whole show.
abbrev pub TellsInside : ℕ → Price → Copy → ℕ → List ℕ → Type 0
TellsInside inf price y s d = (c : ℕ) → Cue y.block c → Tells price (all-links y) inf s (number y c) (get_or d c 0)

abbrev pub TellsWhole : ℕ → Price → List ℕ → Copy → ℕ → List ℕ → Type 0
TellsWhole inf price xs y s d = (c : ℕ) → Cue y.block c → Tells price (all-links (show_copy (blocks_of xs))) inf s (number y c) (get_or d c 0)

-- Eight estimates are kept for each of as many levels as there may be blocks: the one for join i at level l.
abbrev pub kept_size : ℕ
kept_size = summary_width * max_blocks

abbrev pub kept_at : List ℕ → ℕ → ℕ → ℕ
kept_at kept l i = get_or kept (summary_width * l + (i - 1)) 0

-- What is kept for level l tells the distances from s inside copy y at its joins; for each level
-- from l on.
abbrev pub TellsJoins : ℕ → Price → Copy → ℕ → List ℕ → ℕ → Type 0
TellsJoins inf price y s kept l =
    (i : ℕ) → 1 ≤ i → i ≤ y.block.joins → Tells price (all-links y) inf s (number y (y.block.own + i)) (kept_at kept l i)

abbrev pub KeptFrom : ℕ → Price → List ℕ → List ℕ → List ℕ → Place → List ℕ → ℕ → Type 0
KeptFrom inf price xs t rows q kept l = (j : ℕ) → l ≤ j → j ≤ q.depth → TellsJoins inf price (copy_on xs t rows j) q.cue kept j

-- Estimates of the cue of a place, from its own level up to level l, and what was kept on the way.
pub record Risen (inf : ℕ) (price : Price) (xs t rows : List ℕ) (q : Place) (l : ℕ) (kept d : List ℕ) : Type 0 where
  pub inside : TellsInside inf price (copy_on xs t rows l) q.cue d
  pub levels : KeptFrom inf price xs t rows q kept l

-- What estimates at level l begin with on the way up: what was kept for level l + 1, at the cues of
-- the use that leads there. And on the way down, at level l + 1: at the joins, what the cues that
-- they meet have of the estimates d at level l.
abbrev pub FromKept : List ℕ → List ℕ → ℕ → List ℕ → Beginnings
FromKept xs rows l kept = FromPart (blocks_of xs) (use_at xs (blocks_of xs) (get_or rows l 0)) (kept_at kept (l + 1))

abbrev pub FromAbove : List ℕ → List ℕ → ℕ → List ℕ → Beginnings
FromAbove xs rows l d = AtJoins (block_at (blocks_of xs) (block_on xs rows (l + 1))) (passed (use_at xs (blocks_of xs) (get_or rows l 0)) d)

-- What estimates at level l of a place begin with on account of its cue: what was kept at the use
-- that leads on, or 0 at the cue itself.
pub data Source (xs rows : List ℕ) (q : Place) (l : ℕ) (kept : List ℕ) : ℕ → ℕ → Type 0 where
  inner : {a x : ℕ} → l < q.depth → FromKept xs rows l kept a x → Source xs rows q l kept a x
  here : {a x : ℕ} → q.depth ≤ l → Cell q.own 0 a x → Source xs rows q l kept a x

-- The first r of n and of m rows are the same, and no more of them.
pub record Common (a : List ℕ) (n : ℕ) (b : List ℕ) (m r : ℕ) : Type 0 where
  pub first : r ≤ n
  pub second : r ≤ m
  pub same : (j : ℕ) → j < r → get_or a j 0 ≡ get_or b j 0
  pub differ : r < n → r < m → get_or a r 0 ≢ get_or b r 0

-- From level l down to level m: whatever cue s the estimates tell the distances from, unless it is
-- one of the copy just below level l.
abbrev pub Sunk : ℕ → Price → List ℕ → List ℕ → List ℕ → ℕ → ℕ → List ℕ → List ℕ → Type 0
Sunk inf price xs t rows l m d e =
    (s : ℕ) → TellsWhole inf price xs (copy_on xs t rows l) s d → (l < m → InCopy (copy_on xs t rows (l + 1)) s → ⊥)
    → TellsWhole inf price xs (copy_on xs t rows m) s e
