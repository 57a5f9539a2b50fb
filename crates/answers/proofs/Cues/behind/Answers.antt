-- `behind`: the larger cue's place is found, and the other cue is not above it.
use borrow.Author.Rules.{rules}
use Rattle.model.specs.Choice.{if_true}
use Rattle.behind.specs.Ways.{source_of, target_of}
use Rattle.answers.proofs.Cues.behind.Goals as goal

pub returns-then-s-t : goal.returns-then-s-t
unfolding source_of target_of if_true
returns-then-s-t c = (rw c.find-place.ensures.0 at c.behind.ensures, search rules)

pub returns : goal.returns
unfolding source_of target_of if_true
returns c = (rw c.find-place-2.ensures.0 at c.behind-2.ensures, search rules)
