-- The marked places of a table, one after another.
use Prim.Native.Nat.{ℕ, suc, ◌+◌, ◌-◌, ◌≤◌, ◌<◌}
use native.Mathlib.Omega.{arith}
use mathlib.Core.Path.{◌≡◌, ◌∙◌}
use mathlib.Core.Bool.{true, false}
use mathlib.Core.List.{List, [], ◌∷◌}
use lib.ListN.{get_or}
use Rattle.model.specs.Choice.{if_true}
use Rattle.model.specs.Lists.{range, keep}
use Rattle.basics.proofs.Choices.{eq_then, eq_else, true_then, true_else}
use Rattle.printing.specs.Stream.{marked, marks_from}

module _ (m : List ℕ) where
  -- A place that is marked, and one that is not.
  pub is-marked : (i : ℕ) → get_or m i 0 ≡ 1 → marked m i ≡ true
  unfolding marked
  is-marked i h = eq_then _ _ _ _ h

  pub not-marked : (i : ℕ) → (get_or m i 0 ≡ 1 → ⊥) → marked m i ≡ false
  unfolding marked
  not-marked i h = eq_else _ _ _ _ h

  module _ (i e : ℕ) where
    marks-step : i < e → marks_from m i e ≡ if_true (marked m i) (i ∷ marks_from m (suc i) e) (marks_from m (suc i) e)
    unfolding marks_from keep range
    marks-step h = let q : e - i ≡ suc (e - suc i) = omega arith in rw q

    -- Past a place that is not marked nothing is left out, and one that is comes first.
    pub marks-skip : i < e → (get_or m i 0 ≡ 1 → ⊥) → marks_from m i e ≡ marks_from m (suc i) e
    marks-skip h n = marks-step h ∙ true_else _ _ _ (not-marked i n)

    pub marks-hit : i < e → get_or m i 0 ≡ 1 → marks_from m i e ≡ i ∷ marks_from m (suc i) e
    marks-hit h n = marks-step h ∙ true_then _ _ _ (is-marked i n)
