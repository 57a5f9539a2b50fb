-- `answers::is_cue` meets its contract.
use mathlib.Core.Path.{refl}
use native.Mathlib.Omega.{arith}
use Rattle.basics.proofs.Choices.{lt_yes, lt_no}
use Rattle.model.specs.Rules.{is_cue}
use Rattle.answers.proofs.is_cue.Goals as goal

pub returns-then-v-lt1 : goal.returns-then-v-lt1
unfolding is_cue
returns-then-v-lt1 c = lt_yes _ _ _ _ _ (omega arith) refl

pub returns-then-cues-v : goal.returns-then-cues-v
unfolding is_cue
returns-then-cues-v c = lt_no _ _ _ _ _ (omega arith) (lt_yes _ _ _ _ _ (omega arith) refl)

pub returns : goal.returns
unfolding is_cue
returns c = lt_no _ _ _ _ _ (omega arith) (lt_no _ _ _ _ _ (omega arith) refl)
