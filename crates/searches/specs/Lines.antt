-- Estimates that are lowered several at a time, as many as a width says, by lines of weights that stand as in the work area.
use Rattle.std.specs.Prelude.{ℕ, ◌+◌, ◌*◌, ◌≤◌, ◌<◌, ◌≡◌, Bool, false, ◌⊎◌, List, get_or}
use Rattle.model.specs.Limits.{summary_width}

-- r is the smaller of an estimate y and the sum of an estimate x and a weight w; a sum from
-- inf on is no estimate.
pub record Least (inf y x w r : ℕ) : Type 0 where
  pub old : r ≤ y
  pub new : r ≤ x + w
  pub from : (r ≡ y) ⊎ ((r ≡ x + w) × (r < inf))

-- The first n of the estimates d became those of e, by the weights from place q on and an estimate
-- x; the others are the same.
pub record Line (inf : ℕ) (work : List ℕ) (q x : ℕ) (d : List ℕ) (n : ℕ) (e : List ℕ) : Type 0 where
  pub at : (j : ℕ) → j < n → Least inf (get_or d j 0) x (get_or work (q + j) 0) (get_or e j 0)
  pub else : (j : ℕ) → n ≤ j → get_or e j 0 ≡ get_or d j 0

-- The first width of the estimates d became those of e, by the weights of n lines from place q on and the first n of the
-- estimates g.
pub record Lines (inf width : ℕ) (work : List ℕ) (q : ℕ) (g d : List ℕ) (n : ℕ) (e : List ℕ) : Type 0 where
  pub old : (j : ℕ) → j < width → get_or e j 0 ≤ get_or d j 0
  pub new : (i j : ℕ) → i < n → j < width → get_or e j 0 ≤ get_or g i 0 + get_or work (q + summary_width * i + j) 0
  pub from : (j : ℕ) → j < width
      → (get_or e j 0 ≡ get_or d j 0) ⊎ ((i : ℕ) × (i < n) × (get_or e j 0 ≡ get_or g i 0 + get_or work (q + summary_width * i + j) 0) × (get_or e j 0 < inf))

-- Unless a test says that they differ, the first n of two lists are the same.
pub record Alike (differ : Bool) (a b : List ℕ) (n : ℕ) : Type 0 where
  pub same : differ ≡ false → (j : ℕ) → j < n → get_or a j 0 ≡ get_or b j 0

-- Unless a test says that one of them is not x, the first n of a list are.
pub record Even (differ : Bool) (x : ℕ) (a : List ℕ) (n : ℕ) : Type 0 where
  pub same : differ ≡ false → (j : ℕ) → j < n → get_or a j 0 ≡ x
