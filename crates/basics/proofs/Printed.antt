-- What is printed, case by case: the digits of a number, and the test that finds a triple.
use Prim.Native.Nat.{ℕ, zero, suc, ◌+◌, ◌*◌, ◌/◌, ◌%◌, ◌≤◌, ◌<◌}
use native.Mathlib.Decide.{ℕ_discrete}
use mathlib.Core.Path.{◌≡◌, ◌∙◌}
use mathlib.Core.Bool.{true}
use mathlib.Core.List.{List, [], ◌∷◌, ◌++◌}
use borrow.Author.Tests.{lt-ltb, le-ltb}
use Rattle.model.specs.Blocks.{Link}
use Rattle.model.specs.Printed.{is_triple, number_text}
use Rattle.basics.proofs.Choices.{eq_then, eq_else}

-- Ten to the power k.
unfoldable pub ten_to : ℕ → ℕ
ten_to zero = 1
ten_to (suc k) = 10 * ten_to k

-- A number is one digit, or the digits of its tenth and the last one.
pub number-one : (d n : ℕ) → n < 10 → number_text (suc d) n ≡ (48 + n) ∷ []
unfolding number_text
number-one d n h = rw (lt-ltb n 10 h, number_text)

pub number_more : (d n : ℕ) → 10 ≤ n → number_text (suc d) n ≡ number_text d (n / 10) ++ ((48 + n % 10) ∷ [])
unfolding number_text
number_more d n h = rw (le-ltb n 10 h, number_text)

-- The first link is the triple, or the others decide.
module _ (u v label : ℕ) (l : Link) (E : List Link) where
  pub triple-hit : l.from ≡ u → l.to ≡ v → l.label ≡ label → is_triple (l ∷ E) u v label ≡ true
  unfolding is_triple
  triple-hit a b c = eq_then _ _ _ _ a ∙ eq_then _ _ _ _ b ∙ eq_then _ _ _ _ c

  pub triple-miss : (l.from ≡ u → l.to ≡ v → l.label ≡ label → ⊥) → is_triple (l ∷ E) u v label ≡ is_triple E u v label
  unfolding is_triple
  triple-miss n = go (ℕ_discrete l.from u) (ℕ_discrete l.to v) (ℕ_discrete l.label label)
    where
      go : Dec (l.from ≡ u) → Dec (l.to ≡ v) → Dec (l.label ≡ label) → is_triple (l ∷ E) u v label ≡ is_triple E u v label
      go (yes a) (yes b) (yes c) = absurd (n a b c)
      go (yes a) (yes b) (no c) = eq_then _ _ _ _ a ∙ eq_then _ _ _ _ b ∙ eq_else _ _ _ _ c
      go (yes a) (no b) d = eq_then _ _ _ _ a ∙ eq_else _ _ _ _ b
      go (no a) d e = eq_else _ _ _ _ a
