-- Reading a file, either way: what is answered to a file that was loaded, on which the verdict is v and which has the rows xs.
use Prim.Native.Nat.{ℕ, ◌-◌}
use mathlib.Core.Path.{◌≡◌, refl}
use mathlib.Core.List.{List}
use lib.ListN.{take, drop}
use Rattle.std.specs.Prelude.{Err, Ok}
use Rattle.model.specs.Verdicts.{Verdict}
use Rattle.model.specs.Answers.{of_read}
use Rattle.model.specs.Questions.{Outcome, outcome, refuse, on_accepted, read_into}
use Rattle.model.specs.declared.Refusal.{Refusal}
use Rattle.loading.specs.Loads.{Loads, Loading}
use Rattle.loading.proofs.Outcomes.{loaded-yes, loaded-no}

module _ (v : Verdict) (xs ys t out : List ℕ) (r : Loading) (l : Loads v xs r ys t) where
  pub read-loaded : (n : ℕ) (o : Outcome) → r ≡ Ok n → o ≡ read_into (take (n - 0) (drop 0 ys)) out
      → o ≡ on_accepted v (λ f. refuse f out) (read_into xs out)
  read-loaded n o e h = loaded-yes v xs ys t r l n e (λ f. refuse f out) (λ zs. read_into zs out) o h

  pub read-unloaded : (f : Refusal) → r ≡ Err f → outcome (of_read (Err f)) out ≡ on_accepted v (λ f. refuse f out) (read_into xs out)
  unfolding of_read refuse
  read-unloaded f e = loaded-no v xs ys t r l (λ f. refuse f out) (read_into xs out) _ f e refl
