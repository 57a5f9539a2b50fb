-- A test and the sentence that it is for: the test comes out true exactly if the sentence holds. One law for each way in which the
-- checks are put together.
use Prim.Native.Nat.{ℕ, ◌≤◌, ◌<◌}
use native.Mathlib.Decide.{ℕ_discrete}
use mathlib.Core.Path.{◌≡◌, refl, ◌∙◌}
use mathlib.Core.Bool.{Bool, true, false, not, false≢true}
use mathlib.Core.Logic.{◌⊎◌, inl, inr, ◌↔◌, ◌≢◌}
use Rattle.model.specs.Choice.{if_lt, if_eq, if_true}
use Rattle.basics.proofs.Choices.{true_then, lt_then, lt_else, eq_then, eq_else, passed, passed-lt, passed-not_lt, passed-eq, passed-not_eq}

-- The sentence of a test.
abbrev pub Says : Bool → Type 0 → Type 0
Says t P = (t ≡ true) ↔ P

-- No test, and one that nothing passes.
pub no_test : Says true (Unit {0})
no_test = (λ e. tt, λ h. refl)

pub never : {P : Type 0} → (P → ⊥) → Says false P
never n = (λ e. absurd (false≢true e), λ h. absurd (n h))

-- The same sentence in other words.
pub in_words : {t : Bool} {P Q : Type 0} → Says t P → (P → Q) → (Q → P) → Says t Q
in_words s f g = (λ e. f (s.0 e), λ h. s.1 (g h))

-- Comparisons.
pub less : (a b : ℕ) → Says (if_lt a b true false) (a < b)
less a b = (λ e. (passed-lt a b true e).0, λ h. lt_then a b true false h)

pub not-less : (a b : ℕ) → Says (if_lt a b false true) (b ≤ a)
not-less a b = (λ e. (passed-not_lt a b true e).0, λ h. lt_else a b false true h)

pub equal : (a b : ℕ) → Says (if_eq a b true false) (a ≡ b)
equal a b = (λ e. (passed-eq a b true e).0, λ h. eq_then a b true false h)

pub not_equal : (a b : ℕ) → Says (if_eq a b false true) (a ≢ b)
not_equal a b = (λ e. (passed-not_eq a b true e).0, λ h. eq_else a b false true h)

-- Two tests, one after the other.
module _ {x : Bool} {P : Type 0} where
  pub both : {Q : Type 0} (t : Bool) → Says t Q → (Q → Says x P) → Says (if_true t x false) (Q × P)
  both t s r = (
    λ e. let (a, b) = passed t x e in (s.0 a, (r (s.0 a)).0 b),
    λ h. true_then t x false (s.1 h.0) ∙ (r h.0).1 h.1,
  )

  pub equal-then : (a b : ℕ) → Says x P → Says (if_eq a b x false) ((a ≡ b) × P)
  equal-then a b s = (
    λ e. let (h, f) = passed-eq a b x e in (h, s.0 f),
    λ h. eq_then a b x false h.0 ∙ s.1 h.1,
  )

  pub not-less_then : (a b : ℕ) → Says x P → Says (if_lt a b false x) ((b ≤ a) × P)
  not-less_then a b s = (
    λ e. let (h, f) = passed-not_lt a b x e in (h, s.0 f),
    λ h. lt_else a b false x h.0 ∙ s.1 h.1,
  )

  -- A choice of tests.
  pub first-case : (a b : ℕ) (y : Bool) → a ≡ b → Says x P → Says (if_eq a b x y) P
  first-case a b y h s = rw (eq_then a b x y h) s

  pub second-case : (a b : ℕ) (y : Bool) → a ≢ b → Says x P → Says (if_eq a b y x) P
  second-case a b y h s = rw (eq_else a b y x h) s

  -- A test that counts only where two numbers are equal.
  pub only_if : (a b : ℕ) → (a ≡ b → Says x P) → (a ≢ b → P) → Says (if_eq a b x true) P
  only_if a b s f = go (ℕ_discrete a b)
    where
      go : Dec (a ≡ b) → Says (if_eq a b x true) P
      go (yes e) = first-case a b true e (s e)
      go (no n) = (λ e. f n, λ h. eq_else a b x true n)

-- The other way round.
pub opposite : (t : Bool) {P : Type 0} → Says t P → Says (not t) (P → ⊥)
opposite true s = (λ e. absurd (false≢true e), λ n. absurd (n (s.0 refl)))
opposite false s = (λ e h. false≢true (s.1 h), λ n. refl)

-- A test decides its sentence.
pub decided : (t : Bool) {P : Type 0} → Says t P → ((t ≡ true) × P) ⊎ ((t ≡ false) × (P → ⊥))
decided true s = inl (refl, s.0 refl)
decided false s = inr (refl, λ h. false≢true (s.1 h))
