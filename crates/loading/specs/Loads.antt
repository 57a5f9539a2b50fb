-- What loading a file promises.
use Rattle.std.specs.Prelude.{ℕ, ◌≡◌, List, length, take, Result, Ok, Err}
use Rattle.model.specs.Verdicts.{Verdict, Accepted}
use Rattle.model.specs.Desk.{with_desk, check_own}
use Rattle.model.specs.declared.Refusal.{Refusal}
use Rattle.desk.specs.Own.{own_numbers}
use Rattle.blocks.specs.Loaded.{Loaded}

-- What a file comes to: so many numbers, the rows of a loaded show, or the refusal.
abbrev pub Loading : Type 0
Loading = Result ℕ Refusal

-- The verdict v is that a file is accepted; its rows xs, n numbers, stand first in the lent numbers ys, and t is the index of their blocks.
pub record HasLoaded (v : Verdict) (xs : List ℕ) (n : ℕ) (ys t : List ℕ) : Type 0 where
  pub accepted : v ≡ Accepted
  pub size : n ≡ length xs
  pub first : take (length xs) ys ≡ xs
  pub loaded : Loaded xs t

-- A file on which the verdict is v, and that has the rows xs, was loaded with this answer.
unfoldable pub Loads : Verdict → List ℕ → Loading → List ℕ → List ℕ → Type 0
Loads v xs (Ok n) ys t = HasLoaded v xs n ys t
Loads v xs (Err f) ys t = v ≡ Err f

-- Numbers that begin with the built-in table, and behind it are not too few and not too many.
pub record BehindTable (ys : List ℕ) : Type 0 where
  pub all : ys ≡ with_desk (own_numbers ys)
  pub own : check_own (own_numbers ys) ≡ Accepted
