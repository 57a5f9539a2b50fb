-- Every number of a list has a property: by its place, and in lists that are laid one behind the other.
use Prim.Native.Nat.{ℕ, zero, suc}
use mathlib.Core.List.{List, [], ◌∷◌, ◌++◌}
use lib.ListN.{get_or}
use Rattle.basics.specs.Members.{Each}

module _ (P : ℕ → Type 0) where
  pub at_each : (xs : List ℕ) → ((i : ℕ) → P (get_or xs i 0)) → Each P xs
  at_each [] h = tt
  at_each (x ∷ xs) h = (h 0, at_each xs (λ i. h (suc i)))

  pub each_at : (xs : List ℕ) → P 0 → Each P xs → (i : ℕ) → P (get_or xs i 0)
  each_at [] z h i = z
  each_at (x ∷ xs) z h zero = h.0
  each_at (x ∷ xs) z h (suc i) = each_at xs z h.1 i

  pub each_append : (xs ys : List ℕ) → Each P xs → Each P ys → Each P (xs ++ ys)
  each_append [] ys h g = g
  each_append (x ∷ xs) ys h g = (h.0, each_append xs ys h.1 g)

  pub each-parts : (xs ys : List ℕ) → Each P (xs ++ ys) → Each P xs × Each P ys
  each-parts [] ys h = (tt, h)
  each-parts (x ∷ xs) ys h = let (p, q) = each-parts xs ys h.1 in ((h.0, p), q)
