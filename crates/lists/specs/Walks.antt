-- What the walk of a copy gives to the page.
use Rattle.std.specs.Prelude.{ℕ, zero, suc, ◌+◌, ◌-◌, ◌≤◌, ◌<◌, ◌≡◌, List, [], ◌∷◌, ◌++◌, length, Some, None}
use Rattle.std.specs.declared.option.Option.{Option}
use Rattle.model.specs.Choice.{if_lt, if_eq}
use Rattle.model.specs.Limits.{max_total}
use Rattle.model.specs.Blocks.{joins_of, own_of, total, blocks_of}
use Rattle.model.specs.Unfolding.{links}
use Rattle.shows.specs.Copies.{number, copy_of, Sound, IsPart}
use Rattle.verdicts.specs.Index.{use_at}
use Rattle.blocks.specs.Loaded.{IsBlock, column_at}
use Rattle.neighbours.specs.declared.Ask.{Ask}
use Rattle.neighbours.specs.Picks.{wanted}
use Rattle.neighbours.specs.Records.{own_bit}
use Rattle.lists.specs.declared.Visit.{Visit}
use Rattle.lists.specs.declared.Inner.{Inner}
use Rattle.lists.specs.Pages.{HasRoom, Gives}
use Rattle.copies.specs.Copies.{inner_base}

-- A cue that is marked and high enough, and the own cues of a copy that are.
unfoldable pub step_list : Ask → ℕ → ℕ → List ℕ
step_list q flag u = if_eq flag 1 (if_lt q.after u (u ∷ []) []) []

unfoldable pub own_list : Ask → List ℕ → ℕ → ℕ → ℕ → List ℕ
own_list q s at base zero = []
own_list q s at base (suc d) = own_list q s at base d ++ step_list q (own_bit s at (suc d)) (base + suc d)

-- The cues asked for that cue c of the copy of block k is linked to, among the size numbers behind
-- from.
abbrev pub copy_list : Ask → List ℕ → ℕ → ℕ → List ℕ → ℕ → ℕ → ℕ → List ℕ
copy_list q xs k base met c from size = wanted q (links (blocks_of xs) k base met) (number (copy_of (blocks_of xs) k base met) c) from size

-- The block that an inner copy is a copy of.
abbrev pub used_by : List ℕ → Inner → ℕ
used_by xs y = (use_at xs (blocks_of xs) y.row).block

-- What may be asked of a walk: a cue of the block, numbers that fit, and room that the page has.
pub record MayVisit (q : Ask) (xs : List ℕ) (y : Visit) (page : List ℕ) (w : ℕ) : Type 0 where
  pub known : IsBlock xs y.block
  pub low : 1 ≤ y.cue
  pub high : y.cue ≤ own_of (blocks_of xs) y.block + joins_of (blocks_of xs) y.block
  pub small : y.base + total (blocks_of xs) y.block ≤ max_total
  pub room : HasRoom q page w

pub record MayEnter (q : Ask) (xs : List ℕ) (y : Inner) (w : ℕ) : Type 0 where
  pub low : 1 ≤ y.cue
  pub high : y.cue ≤ own_of (blocks_of xs) y.block + joins_of (blocks_of xs) y.block
  pub small : y.base + total (blocks_of xs) (used_by xs y) ≤ max_total
  pub fits : q.room ≤ max_total
  pub bound : w ≤ q.room + 1

-- After the walk of the size numbers behind from in a copy, whatever its joins meet.
pub record Walked (q : Ask) (xs : List ℕ) (y : Visit) (from : ℕ) (page : List ℕ) (w size : ℕ) (after : List ℕ) (g : ℕ) : Type 0 where
  pub long : length after ≡ length page
  pub bound : g ≤ q.room + 1
  pub gives : (met : List ℕ) → Sound (copy_of (blocks_of xs) y.block y.base met)
      → Gives q.room page w (copy_list q xs y.block y.base met y.cue from size) after g

-- After the walk of its uses: where its own cues were walked before, it is walked as a whole.
pub record UsesWalked (q : Ask) (xs : List ℕ) (y : Visit) (page : List ℕ) (w : ℕ) (after : List ℕ) (g : ℕ) : Type 0 where
  pub long : length after ≡ length page
  pub bound : g ≤ q.room + 1
  pub whole : (first : List ℕ) (v : ℕ) → Walked q xs y y.base first v (own_of (blocks_of xs) y.block) page w
      → Walked q xs y y.base first v (total (blocks_of xs) y.block) after g

-- After the copy of a use, whatever copy it is in.
pub record Entered (q : Ask) (xs : List ℕ) (y : Inner) (page : List ℕ) (w : ℕ) (after : List ℕ) (g : ℕ) : Type 0 where
  pub long : length after ≡ length page
  pub bound : g ≤ q.room + 1
  pub gives : (base : ℕ) (met : List ℕ) → Sound (copy_of (blocks_of xs) y.block base met)
      → IsPart (copy_of (blocks_of xs) y.block base met) (record { of = use_at xs (blocks_of xs) y.row; base = y.base })
      → Gives q.room page w (copy_list q xs y.block base met y.cue y.base (total (blocks_of xs) (used_by xs y))) after g

-- The join of the used block from which the walk goes on in the copy of a use: none where there is nothing to give.
pub record Door (q : Ask) (xs : List ℕ) (y : Inner) (w : ℕ) (r : Option ℕ) : Type 0 where
  pub shut : r ≡ None → (page : List ℕ) → Entered q xs y page w page w
  pub within : (i : ℕ) → r ≡ Some i → i < joins_of (blocks_of xs) (used_by xs y)
  pub meets : (i : ℕ) → r ≡ Some i → column_at xs y.row i ≡ y.cue

-- Where the walk of the uses of a copy has come to: those before row r are done, and the copy of
-- row r begins after b.
pub record UsesGoing (q : Ask) (xs t : List ℕ) (y : Visit) (page : List ℕ) (w r b : ℕ) (after : List ℕ) (g : ℕ) : Type 0 where
  pub at : b ≡ inner_base xs t y.block y.base r
  pub walked : Walked q xs y (y.base + own_of (blocks_of xs) y.block) page w (b - (y.base + own_of (blocks_of xs) y.block)) after g
