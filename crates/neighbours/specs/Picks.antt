-- The links that a question picks, and the cues that they join to a cue.
use Rattle.std.specs.Prelude.{ℕ, suc, ◌≡◌, Bool, true, false}
use mathlib.Core.List.{List, [], ◌∷◌, Memᴰ}
use Rattle.model.specs.Choice.{if_lt, if_eq, if_true}
use Rattle.model.specs.Blocks.{Link}
use Rattle.model.specs.Lists.{range, keep}
use Rattle.neighbours.specs.declared.Ask.{Ask}

-- The end of a link at the cue that is asked about, and the other one.
unfoldable pub near_end : Ask → ℕ → ℕ → ℕ
near_end q from to = if_true q.inward to from

abbrev pub here : Ask → Link → ℕ
here q l = near_end q l.from l.to

abbrev pub there : Ask → Link → ℕ
there q l = near_end q l.to l.from

-- The label lies in the range that is asked for.
unfoldable pub fits : Ask → ℕ → Bool
fits q label = if_lt label q.lo false (if_lt q.hi label false true)

-- Some link with such a label joins v to u.
unfoldable pub picks : Ask → List Link → ℕ → ℕ → Bool
picks q [] v u = false
picks q (l ∷ E) v u =
    if_true (fits q l.label) (if_eq (here q l) v (if_eq (there q l) u true (picks q E v u)) (picks q E v u)) (picks q E v u)

-- One link with such a label does.
pub record IsLink (q : Ask) (l : Link) (v u : ℕ) : Type 0 where
  pub label : fits q l.label ≡ true
  pub from : here q l ≡ v
  pub to : there q l ≡ u

pub record Picked (q : Ask) (E : List Link) (v u : ℕ) : Type 0 where
  pub link : Link
  pub member : Memᴰ link E
  pub label : fits q link.label ≡ true
  pub from : here q link ≡ v
  pub to : there q link ≡ u

-- And u is greater than the number after which cues are asked for.
unfoldable pub wants : Ask → List Link → ℕ → ℕ → Bool
wants q E v u = if_lt q.after u (picks q E v u) false

-- The cues asked for among size numbers behind base.
unfoldable pub wanted : Ask → List Link → ℕ → ℕ → ℕ → List ℕ
wanted q E v base size = keep (wants q E v) (range (suc base) size)
