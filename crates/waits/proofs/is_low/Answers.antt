-- A label isn't above the one before.
use borrow.Author.Rules.{rules}
use Rattle.basics.proofs.Choices.{ifs}
use Rattle.waits.specs.Passing.{is_low}
use Rattle.waits.proofs.is_low.Goals as goal

pub returns : goal.returns
unfolding is_low
returns c = search (ifs, rules) depth 8
