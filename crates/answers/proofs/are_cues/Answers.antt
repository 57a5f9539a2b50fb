-- `answers::are_cues` meets its contract: each return is a branch of the definition.
use mathlib.Core.Path.{refl}
use Rattle.basics.proofs.Choices.{true_yes, true_no}
use Rattle.answers.specs.Asked.{are_cues}
use Rattle.answers.proofs.are_cues.Goals as goal

pub returns-then-not-starts : goal.returns-then-not-starts
unfolding are_cues
returns-then-not-starts c = true_no _ _ _ _ _ c.is_cue-starts.ensures c.if-not-starts.true refl

pub returns : goal.returns
unfolding are_cues
returns c = true_yes _ _ _ _ _ c.is_cue-starts.ensures c.if-not-starts.false c.is_cue.ensures
