-- A label or a wait is outside its range.
use borrow.Author.Rules.{rules}
use Rattle.model.specs.Waits.{is_outside}
use Rattle.basics.proofs.Choices.{ifs}
use Rattle.waits.proofs.is_outside.Goals as goal

pub returns-then-label-gt-MAX_FOLLOWED : goal.returns-then-label-gt-MAX_FOLLOWED
unfolding is_outside
returns-then-label-gt-MAX_FOLLOWED c = search (ifs, rules) depth 8

pub returns-else-label-gt-MAX_FOLLOWED : goal.returns-else-label-gt-MAX_FOLLOWED
unfolding is_outside
returns-else-label-gt-MAX_FOLLOWED c = search (ifs, rules) depth 8
