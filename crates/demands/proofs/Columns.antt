-- The tests of lists of numbers, each with its sentence about the places. Places of columns are counted from 1.
use Prim.Native.Nat.{ℕ, zero, suc, ◌+◌, ◌-◌, ◌≤◌, ◌<◌}
use native.Mathlib.Omega.{arith}
use native.Mathlib.Decide.{dec_lt}
use mathlib.Core.Path.{◌≡◌, refl}
use mathlib.Core.Bool.{Bool, true, false}
use mathlib.Core.Logic.{◌⊎◌, inl, inr, ◌≢◌}
use mathlib.Core.List.{List, [], ◌∷◌}
use lib.ListN.{length, get_or, take, drop, length-drop}
use lib.Seq.{get_or-take, get_or-drop, length-take-le}
use Rattle.model.specs.Choice.{if_lt, if_eq}
use Rattle.model.specs.Rules.{every, differs, distinct, is_below}
use Rattle.basics.proofs.Choices.{lt_then, lt_else}
use Rattle.demands.specs.Acceptance.{Below, here, later}
use Rattle.demands.proofs.Tests.{Says, never, in_words, not_equal, both, equal-then}

-- The place of a column in its list.
less_one : (n : ℕ) → suc n - 1 ≡ n
less_one n = omega arith

-- Every number of a list passes a test.
module _ (test : ℕ → Bool) (P : ℕ → Type 0) (says : (x : ℕ) → Says (test x) (P x)) where
  every-place : (xs : List ℕ) → Says (every test xs) ((i : ℕ) → i < length xs → P (get_or xs i 0))
  unfolding every
  every-place [] = (λ e i h. absurd (omega arith), λ h. refl)
  every-place (x ∷ xs) =
      in_words (both (test x) (says x) (λ h. every-place xs)) (λ h. to h) (λ h. (h 0 (omega arith), λ i l. h (suc i) (omega arith)))
    where
      to : P x × ((i : ℕ) → i < length xs → P (get_or xs i 0)) → (i : ℕ) → i < length (x ∷ xs) → P (get_or (x ∷ xs) i 0)
      to h zero l = h.0
      to h (suc i) l = h.1 i (omega arith)

  -- The first n columns, and those behind them.
  pub first-columns : (n : ℕ) (xs : List ℕ) → n ≤ length xs
      → Says (every test (take n xs)) ((j : ℕ) → 1 ≤ j → j ≤ n → P (get_or xs (j - 1) 0))
  first-columns n xs m =
      let e : length (take n xs) ≡ n = length-take-le n xs m in
      in_words (every-place (take n xs))
      (λ h j a b. rw (get_or-take n xs (j - 1) 0 (omega arith)) at (h (j - 1) (omega arith)))
      (λ h i l. rw (get_or-take n xs i 0 (omega arith)) (rw (less_one i) at (h (suc i) (omega arith) (omega arith))))

  pub columns-behind : (n : ℕ) (xs : List ℕ) → Says (every test (drop n xs)) ((j : ℕ) → n < j → j ≤ length xs → P (get_or xs (j - 1) 0))
  columns-behind n xs =
      let e : length (drop n xs) ≡ length xs - n = length-drop n xs in
      in_words (every-place (drop n xs))
      (λ h j a b. let f : n + (j - 1 - n) ≡ j - 1 = omega arith in rw (get_or-drop n xs (j - 1 - n) 0, f) at (h (j - 1 - n) (omega arith)))
      (λ h i l. rw (get_or-drop n xs i 0) (rw (less_one (n + i)) at (h (suc (n + i)) (omega arith) (omega arith))))

-- No number of a list stands in it twice.
distinct-places : (xs : List ℕ) → Says (distinct xs) ((i j : ℕ) → i < j → j < length xs → get_or xs i 0 ≢ get_or xs j 0)
unfolding distinct differs
distinct-places [] = (λ e i j a b. absurd (omega arith), λ h. refl)
distinct-places (x ∷ xs) =
    in_words (both (every (differs x) xs) (every-place (differs x) (λ y. x ≢ y) (λ y. not_equal x y) xs) (λ h. distinct-places xs))
    (λ h. to h)
    (λ h. (λ i l. h 0 (suc i) (omega arith) (omega arith), λ i j a b. h (suc i) (suc j) (omega arith) (omega arith)))
  where
    to : ((i : ℕ) → i < length xs → x ≢ get_or xs i 0) × ((i j : ℕ) → i < j → j < length xs → get_or xs i 0 ≢ get_or xs j 0)
        → (i j : ℕ) → i < j → j < length (x ∷ xs) → get_or (x ∷ xs) i 0 ≢ get_or (x ∷ xs) j 0
    to h i zero a b = absurd (omega arith)
    to h zero (suc j) a b = h.0 j (omega arith)
    to h (suc i) (suc j) a b = h.1 i j (omega arith) (omega arith)

-- Nor among the first n columns.
pub distinct-columns : (n : ℕ) (xs : List ℕ) → n ≤ length xs
    → Says (distinct (take n xs)) ((i j : ℕ) → 1 ≤ i → i < j → j ≤ n → get_or xs (i - 1) 0 ≢ get_or xs (j - 1) 0)
distinct-columns n xs m =
    let e : length (take n xs) ≡ n = length-take-le n xs m in
    in_words (distinct-places (take n xs))
    (λ h i j a b c.
    rw (get_or-take n xs (i - 1) 0 (omega arith), get_or-take n xs (j - 1) 0 (omega arith)) at (h (i - 1) (j - 1) (omega arith) (omega arith)))
    (λ h i j a b.
    rw (get_or-take n xs i 0 (omega arith), get_or-take n xs j 0 (omega arith))
    (rw (less_one i, less_one j) at (h (suc i) (suc j) (omega arith) (omega arith) (omega arith))))

-- How one list comes before another.
below-cases : {k l : ℕ} {ks ls : List ℕ} → Below (k ∷ ks) (l ∷ ls) → (k < l) ⊎ ((k ≡ l) × Below ks ls)
below-cases (here h) = inl h
below-cases (later e b) = inr (e, b)

-- One list comes before another.
pub below-places : (ks ls : List ℕ) → Says (is_below ks ls) (Below ks ls)
unfolding is_below
below-places [] ls = never (λ h. elim h [ ])
below-places (k ∷ ks) [] = never (λ h. elim h [ ])
below-places (k ∷ ks) (l ∷ ls) = go (below-places ks ls) (dec_lt k l)
  where
    tail : (k < l → ⊥) → (k < l) ⊎ ((k ≡ l) × Below ks ls) → (k ≡ l) × Below ks ls
    tail n (inl h) = absurd (n h)
    tail n (inr b) = b

    go : Says (is_below ks ls) (Below ks ls) → Dec (k < l)
        → Says (if_lt k l true (if_eq k l (is_below ks ls) false)) (Below (k ∷ ks) (l ∷ ls))
    go s (yes h) = (λ e. here h, λ b. lt_then k l _ _ h)
    go s (no n) =
        rw (lt_else k l true (if_eq k l (is_below ks ls) false) (omega arith))
        (in_words (equal-then k l s) (λ h. later h.0 h.1) (λ b. tail n (below-cases b)))
