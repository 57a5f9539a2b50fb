-- Lists made of lists, and ranges in two parts.
use Prim.Native.Nat.{ℕ, zero, suc, ◌+◌}
use native.Mathlib.Omega.{arith}
use mathlib.Core.Path.{◌≡◌, refl, ◌∙◌, ap}
use mathlib.Core.Bool.{Bool, true, false}
use mathlib.Core.List.{List, [], ◌∷◌, ◌++◌, map, flat_map}
use Rattle.model.specs.Choice.{if_true}
use Rattle.model.specs.Lists.{range, keep}
use Rattle.basics.proofs.Members.{flat_append}

module _ {A B : Type 0} (f : A → List B) where
  pub flat_same : (g : A → List B) → ((x : A) → f x ≡ g x) → (xs : List A) → flat_map f xs ≡ flat_map g xs
  unfolding flat_map
  flat_same g h [] = refl
  flat_same g h (x ∷ xs) = rw (h x, flat_same g h xs)

  module _ {C : Type 0} where
    pub flat-map : (g : C → A) (xs : List C) → flat_map f (map g xs) ≡ flat_map (λ (x : C). f (g x)) xs
    unfolding flat_map
    flat-map g [] = refl
    flat-map g (x ∷ xs) = ap (λ (w : List B). f (g x) ++ w) (flat-map g xs)

    pub flat_flat : (g : C → List A) (xs : List C) → flat_map f (flat_map g xs) ≡ flat_map (λ (x : C). flat_map f (g x)) xs
    unfolding flat_map
    flat_flat g [] = refl
    flat_flat g (x ∷ xs) = flat_append f (g x) (flat_map g xs) ∙ ap (λ (w : List B). flat_map f (g x) ++ w) (flat_flat g xs)

-- What is kept of a list, from its first number on; and of two lists in a row.
pub flat_keep : {B : Type 0} (f : ℕ → List B) (test : ℕ → Bool) (x : ℕ) (xs : List ℕ)
    → flat_map f (keep test (x ∷ xs)) ≡ if_true (test x) (f x) [] ++ flat_map f (keep test xs)
unfolding keep if_true flat_map
flat_keep {B} f test x xs = go (test x)
  where
    go : (t : Bool) → flat_map f (if_true t (x ∷ keep test xs) (keep test xs)) ≡ if_true t (f x) [] ++ flat_map f (keep test xs)
    go true = refl
    go false = refl

keep_append : (test : ℕ → Bool) (xs ys : List ℕ) → keep test (xs ++ ys) ≡ keep test xs ++ keep test ys
unfolding keep if_true
keep_append test [] ys = refl
keep_append test (x ∷ xs) ys = go (keep_append test xs ys) (test x)
  where
    go : keep test (xs ++ ys) ≡ keep test xs ++ keep test ys → (t : Bool)
        → if_true t (x ∷ keep test (xs ++ ys)) (keep test (xs ++ ys)) ≡ if_true t (x ∷ keep test xs) (keep test xs) ++ keep test ys
    go e true = ap (λ (w : List ℕ). x ∷ w) e
    go e false = e

-- A range, from its first number on; and in two parts.
pub range-first : (a k : ℕ) → range a (suc k) ≡ a ∷ range (suc a) k
unfolding range
range-first a k = refl

range-append : (a j k : ℕ) → range a (j + k) ≡ range a j ++ range (a + j) k
unfolding range
range-append a zero k = let e : a + 0 ≡ a = omega arith in let z : 0 + k ≡ k = omega arith in rw (e, z)
range-append a (suc j) k =
    let e : suc j + k ≡ suc (j + k) = omega arith in
    let s : a + suc j ≡ suc a + j = omega arith in
    rw (e, s) (ap (λ (w : List ℕ). a ∷ w) (range-append (suc a) j k))

-- So is what is kept of it.
pub flat_parts : {B : Type 0} (f : ℕ → List B) (test : ℕ → Bool) (a j k : ℕ)
    → flat_map f (keep test (range a (j + k))) ≡ flat_map f (keep test (range a j)) ++ flat_map f (keep test (range (a + j) k))
flat_parts f test a j k =
    ap (λ (xs : List ℕ). flat_map f (keep test xs)) (range-append a j k)
    ∙ ap (flat_map f) (keep_append test (range a j) (range (a + j) k))
    ∙ flat_append f (keep test (range a j)) (keep test (range (a + j) k))
