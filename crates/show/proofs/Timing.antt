-- The quickest question's refusals of rows: their place is given in 64 bits.
use Prim.Native.Nat.{ℕ}
use mathlib.Core.Path.{◌≡◌}
use mathlib.Core.List.{List}
use Rattle.std.specs.Prelude.{Err}
use Rattle.model.specs.Verdicts.{refusal, Verdict}
use Rattle.model.specs.Answers.{returned, of_quickest, line_refusal}
use Rattle.model.specs.Questions.{outcome, refuse, quickest_asked}
use Rattle.model.specs.declared.Refusal.{Refusal}
use Rattle.verdicts.specs.Passing.{IsChecked}
use Rattle.loading.proofs.Checked.{asked_no}

pub quickest-no : (xs table : List ℕ) (v : Verdict) (c : IsChecked xs table v) (s t : ℕ) (file work : List ℕ) (f : Refusal) (p : ℕ) → v ≡ Err f
    → p ≡ f.place → outcome (of_quickest (Err (line_refusal f.number p))) work ≡ quickest_asked xs s t file work
unfolding of_quickest quickest_asked refuse returned refusal
quickest-no xs table v c s t file work f p e h = asked_no xs table v c _ _ _ f e (rw h)
