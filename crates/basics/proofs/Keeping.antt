-- What a test keeps of some numbers, and of those of a range.
use Prim.Native.Nat.{ℕ, zero, suc, ◌+◌, ◌≤◌, ◌<◌}
use native.Mathlib.Omega.{arith}
use mathlib.Core.Path.{◌≡◌, refl, sym, ◌∙◌, ap, ap₂}
use mathlib.Core.Logic.{◌↔◌, ◌⊎◌, inl, inr}
use mathlib.Core.Bool.{Bool, true, false}
use mathlib.Core.List.Memᴰ
use mathlib.Core.List.{List, [], ◌∷◌, ◌++◌, Memᴰ}
use lib.ListN.{length}
use Rattle.model.specs.Choice.{if_true}
use Rattle.model.specs.Lists.{range, keep}

module _ (test : ℕ → Bool) where
  -- A number that passes, and one that does not.
  pub keep-yes : (x : ℕ) (xs : List ℕ) → test x ≡ true → keep test (x ∷ xs) ≡ x ∷ keep test xs
  unfolding keep if_true
  keep-yes x xs e = rw e

  pub keep-no : (x : ℕ) (xs : List ℕ) → test x ≡ false → keep test (x ∷ xs) ≡ keep test xs
  unfolding keep if_true
  keep-no x xs e = rw e

  -- What passes is kept, and what is kept was there and passes.
  pub kept : (xs : List ℕ) (t : ℕ) → Memᴰ t (keep test xs) ↔ (Memᴰ t xs × (test t ≡ true))
  unfolding keep
  kept [] t = (λ i. absurd (Memᴰ.not-nil i), λ p. p.0)
  kept (x ∷ xs) t = go (kept xs t) (test x) refl
    where
      tail : Memᴰ t xs × (test t ≡ true) → Memᴰ t (x ∷ xs) × (test t ≡ true)
      tail (i, h) = (Memᴰ.tail i, h)

      go : Memᴰ t (keep test xs) ↔ (Memᴰ t xs × (test t ≡ true)) → (b : Bool) → test x ≡ b
          → Memᴰ t (keep test (x ∷ xs)) ↔ (Memᴰ t (x ∷ xs) × (test t ≡ true))
      go below true e = rw (keep-yes x xs e) (λ i. to (Memᴰ.cases_cons i), λ p. from p.1 (Memᴰ.cases_cons p.0))
        where
          to : (t ≡ x) ⊎ Memᴰ t (keep test xs) → Memᴰ t (x ∷ xs) × (test t ≡ true)
          to (inl p) = (Memᴰ.head p, ap test p ∙ e)
          to (inr j) = tail (below.0 j)

          from : test t ≡ true → (t ≡ x) ⊎ Memᴰ t xs → Memᴰ t (x ∷ keep test xs)
          from h (inl p) = Memᴰ.head p
          from h (inr j) = Memᴰ.tail (below.1 (j, h))
      go below false e = rw (keep-no x xs e) (λ i. tail (below.0 i), λ p. from p.1 (Memᴰ.cases_cons p.0))
        where
          from : test t ≡ true → (t ≡ x) ⊎ Memᴰ t xs → Memᴰ t (keep test xs)
          from h (inl p) = absurd (let z : ◌≡◌ {A = ℕ} 0 1 = cc (sym h ∙ ap test p ∙ e) in omega arith)
          from h (inr j) = below.1 (j, h)

  pub keep_append : (xs ys : List ℕ) → keep test (xs ++ ys) ≡ keep test xs ++ keep test ys
  unfolding keep
  keep_append [] ys = refl
  keep_append (x ∷ xs) ys = go (keep_append xs ys) (test x) refl
    where
      go : keep test (xs ++ ys) ≡ keep test xs ++ keep test ys → (b : Bool) → test x ≡ b → keep test ((x ∷ xs) ++ ys) ≡ keep test (x ∷ xs) ++ keep test ys
      go below true e = keep-yes x (xs ++ ys) e ∙ ap (λ zs. x ∷ zs) below ∙ sym (ap (λ zs. zs ++ keep test ys) (keep-yes x xs e))
      go below false e = keep-no x (xs ++ ys) e ∙ below ∙ sym (ap (λ zs. zs ++ keep test ys) (keep-no x xs e))

  pub keep-none : (a many : ℕ) → ((u : ℕ) → a ≤ u → u < a + many → test u ≡ false) → keep test (range a many) ≡ []
  unfolding keep range
  keep-none a zero h = refl
  keep-none a (suc many) h = keep-no a (range (suc a) many) (h a (omega arith) (omega arith)) ∙ keep-none (suc a) many (λ u x y. h u (omega arith) (omega arith))

  -- How long it is at most.
  pub keep-short : (xs : List ℕ) → length (keep test xs) ≤ length xs
  unfolding keep if_true
  keep-short [] = omega arith
  keep-short (x ∷ xs) = go (keep-short xs) (test x) refl
    where
      go : length (keep test xs) ≤ length xs → (b : Bool) → test x ≡ b → length (keep test (x ∷ xs)) ≤ suc (length xs)
      go h true e = rw (e, keep) (omega arith)
      go h false e = rw (e, keep) (omega arith)

pub keep_same : (f g : ℕ → Bool) (a many : ℕ) → ((u : ℕ) → a ≤ u → u < a + many → f u ≡ g u) → keep f (range a many) ≡ keep g (range a many)
unfolding keep range
keep_same f g a zero h = refl
keep_same f g a (suc many) h = ap₂ (λ t zs. if_true t (a ∷ zs) zs) (h a (omega arith) (omega arith)) (keep_same f g (suc a) many (λ u x y. h u (omega arith) (omega arith)))

pub range-append : (a m n : ℕ) → range a (m + n) ≡ range a m ++ range (a + m) n
unfolding range
range-append a zero n = let e : a + 0 ≡ a = omega arith in let f : 0 + n ≡ n = omega arith in rw (e, f) refl
range-append a (suc m) n =
    let e : a + suc m ≡ suc a + m = omega arith in
    let f : suc m + n ≡ suc (m + n) = omega arith in
    rw (e, f) (ap (λ zs. a ∷ zs) (range-append (suc a) m n))
