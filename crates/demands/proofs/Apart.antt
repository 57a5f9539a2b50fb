-- Lists told apart by computing: what is no member of a list, and what is no rearrangement of another. The refutations of wrong models rest on these
-- (wrong_models); no law does.
use Prim.Native.Nat.{ℕ, ◌+◌}
use native.Mathlib.Omega.{arith}
use mathlib.Core.Path.{◌≡◌, refl, ap, ap₂}
use mathlib.Core.Bool.{Bool, true, false, false≢true}
use mathlib.Core.Logic.{◌⊎◌, inl, inr}
use mathlib.Core.List.Memᴰ
use mathlib.Core.List.{List, [], ◌∷◌, Memᴰ, Permᴰ}
use Rattle.model.specs.Choice.{if_true}

module _ {A : Type 0} where
  -- Something in a list passes a test.
  unfoldable pub is-in : (A → Bool) → List A → Bool
  is-in test [] = false
  is-in test (x ∷ xs) = if_true (test x) true (is-in test xs)

  passes : (test : A → Bool) (x y : A) (xs : List A) → test x ≡ true → (x ≡ y) ⊎ (is-in test xs ≡ true) → is-in test (y ∷ xs) ≡ true
  unfolding is-in if_true
  passes test x y xs t (inl e) = rw (rw e at t) refl
  passes test x y xs t (inr h) = go (test y)
    where
      go : (b : Bool) → if_true b true (is-in test xs) ≡ true
      go true = refl
      go false = h

  member : (test : A → Bool) (x : A) (xs : List A) → test x ≡ true → Memᴰ x xs → is-in test xs ≡ true
  member test x [] t i = absurd (Memᴰ.not-nil i)
  member test x (y ∷ xs) t i = passes test x y xs t (go (member test x xs t) (Memᴰ.cases_cons i))
    where
      go : (Memᴰ x xs → is-in test xs ≡ true) → (x ≡ y) ⊎ Memᴰ x xs → (x ≡ y) ⊎ (is-in test xs ≡ true)
      go below (inl e) = inl e
      go below (inr j) = inr (below j)

  pub not_in : (test : A → Bool) (x : A) (xs : List A) → test x ≡ true → is-in test xs ≡ false → Memᴰ x xs → ⊥
  not_in test x xs t n i = false≢true (rw n at (member test x xs t i))

  -- The weight of a list, by that of each of its members: rearrangements have the same.
  unfoldable pub weight : (A → ℕ) → List A → ℕ
  weight f [] = 0
  weight f (x ∷ xs) = f x + weight f xs

  pub same-weight : (f : A → ℕ) {xs ys : List A} → Permᴰ xs ys → weight f xs ≡ weight f ys
  unfolding weight
  same-weight f Permᴰ.nil = refl
  same-weight f (Permᴰ.cons e d) = ap₂ ◌+◌ (ap f e) (same-weight f d)
  same-weight f (Permᴰ.swap e k) = omega (arith, ap f e, ap f k)
  same-weight f (Permᴰ.trans d e) = omega (arith, same-weight f d, same-weight f e)
