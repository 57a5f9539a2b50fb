-- The way from the copy where it begins down to the copy with the best row.
use Rattle.std.specs.Prelude.{ℕ, ◌+◌, ◌≤◌, ◌<◌, ◌≡◌, ◌≢◌, Bool, List, length, get_or, Option, MatchOption}
use Rattle.model.specs.Choice.{if_true}
use Rattle.model.specs.Limits.{max_depth}
use Rattle.model.specs.Blocks.{block_at, blocks_of}
use Rattle.model.specs.Behind.{traced, opening_row, origins, Stands, Missing, best, behind}
use Rattle.shows.specs.WellFormed.{Cue}
use Rattle.shows.specs.Copies.{number, copy_of, Sound}
use Rattle.shows.specs.Origins.{into_all}
use Rattle.blocks.specs.Loaded.{uses_begin}
use Rattle.blocks.specs.Places.{block_on, Along}
use Rattle.copies.specs.Copies.{framed}
use Rattle.copies.specs.declared.Frame.{Frame}
use Rattle.behind.specs.declared.Pair.{Pair}
use Rattle.behind.specs.declared.RowAt.{RowAt}
use Rattle.behind.specs.Leads.{MayLead}

-- Number v is that of cue c in a copy, or, where c is 0, of none of its cues.
pub record SeenAs (xs : List ℕ) (z : Frame) (v c : ℕ) : Type 0 where
  pub seen : c ≢ 0 → Cue (block_at (blocks_of xs) z.block) c × (number (framed (blocks_of xs) z) c ≡ v)
  pub unseen : c ≡ 0 → (d : ℕ) → Cue (block_at (blocks_of xs) z.block) d → number (framed (blocks_of xs) z) d ≡ v → ⊥

-- The rows lead along a path, and none of them stands before the first use of its block.
pub record Leading (xs t rows path : List ℕ) : Type 0 where
  pub along : Along xs t rows path
  pub begin : (l : ℕ) → l < length path → uses_begin t (block_on xs rows l) ≤ get_or rows l 0

-- The first d rows lead from the show to a copy of a block in which s and v are the two cues, and the best link from s to v is the best one below that
-- copy.
pub record Reaches (xs t rows : List ℕ) (s v d : ℕ) (c : Pair) : Type 0 where
  pub path : List ℕ
  pub depth : length path ≡ d
  pub leading : Leading xs t rows path
  pub block : c.block ≡ block_on xs rows d
  pub base : ℕ
  pub met : List ℕ
  pub sound : Sound (copy_of (blocks_of xs) c.block base met)
  pub from : number (copy_of (blocks_of xs) c.block base met) c.from ≡ s
  pub to : number (copy_of (blocks_of xs) c.block base met) c.to ≡ v
  pub rest : behind xs s v ≡ into_all path (best (origins s v (traced (opening_row xs) (blocks_of xs) c.block base met)))

-- The row behind the follow-on from s to v, and the rows of the uses that lead to its copy.
pub record StandsAt (xs t rows : List ℕ) (s v row depth : ℕ) : Type 0 where
  pub path : List ℕ
  pub is : behind xs s v ≡ Stands (record { path = path; row = row })
  pub deep : depth ≡ length path
  pub few : depth ≤ max_depth
  pub leading : Leading xs t rows path

abbrev pub RowBehind : List ℕ → List ℕ → List ℕ → ℕ → ℕ → Option RowAt → Type 0
RowBehind xs t rows s v r = MatchOption r (behind xs s v ≡ Missing) (λ a. (a.row ≢ 0) × StandsAt xs t rows s v a.row a.depth)

-- What a walk may begin with: there is room for the rows to come.
pub record MayWalk (xs m rows : List ℕ) (d : ℕ) (c : Pair) : Type 0 where
  pub lead : MayLead xs m c
  pub room : max_depth ≤ length rows
  pub short : d + c.block ≤ max_depth

-- It leads to the row behind the follow-on from s to v, whatever these are, if it begins in a copy that sees them.
abbrev pub Walked : List ℕ → List ℕ → List ℕ → ℕ → Pair → List ℕ → Option RowAt → Type 0
Walked xs t rows d c after r = (s v : ℕ) → Reaches xs t rows s v d c → RowBehind xs t after s v r

-- The link leads from cue v to the cue w, or from w to v.
unfoldable pub source_of : Bool → ℕ → ℕ → ℕ
source_of inward w v = if_true inward v w

unfoldable pub target_of : Bool → ℕ → ℕ → ℕ
target_of inward w v = if_true inward w v
