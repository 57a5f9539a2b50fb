-- What an answer with values says of the checks that were passed.
use Prim.Native.Nat.{ℕ, ◌≤◌}
use native.Mathlib.Omega.{arith}
use mathlib.Core.Path.{◌≡◌, refl, sym, ap}
use mathlib.Core.List.{List, ◌∷◌}
use lib.ListN.{length}
use Rattle.std.specs.Prelude.{Ok, Err}
use Rattle.model.specs.Verdicts.{refusal, Verdict, Accepted}
use Rattle.model.specs.Answers.{given, returned}
use Rattle.model.specs.Questions.{Outcome, outcome, refuse, on_accepted, with_room}
use Rattle.model.specs.declared.Refusal.{Refusal}
use Rattle.basics.proofs.Choices.{lt_second}

-- A refusal has no values.
refused-not : (r : Refusal) (x : ℕ) (xs after lent : List ℕ) → refuse r lent ≡ outcome (given (x ∷ xs)) after → ⊥
unfolding refuse given returned
refused-not r x xs after lent e = let k = ap (λ (o : Outcome). length o.answer.values) e in omega arith

-- So an answer with values is about accepted rows, and has had room enough.
module _ (x : ℕ) (xs after lent : List ℕ) (o : Outcome) where
  pub was_accepted : (v : Verdict) → outcome (given (x ∷ xs)) after ≡ on_accepted v (λ r. refuse r lent) o
      → (v ≡ Accepted) × (outcome (given (x ∷ xs)) after ≡ o)
  unfolding on_accepted
  was_accepted (Ok _) e = (refl, e)
  was_accepted (Err r) e = absurd (refused-not r x xs after lent (sym e))

  pub had_room : (need : ℕ) → outcome (given (x ∷ xs)) after ≡ with_room need lent o
      → (need ≤ length lent) × (o ≡ outcome (given (x ∷ xs)) after)
  unfolding with_room
  had_room need e = lt_second _ _ _ _ _ (refused-not (refusal 11 0) x xs after lent) (sym e)
