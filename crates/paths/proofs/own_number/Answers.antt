-- `own_number`: each test is the definition's.
use Rattle.model.specs.Paths.{own_number}
use Rattle.basics.proofs.Choices.{ifs}
use borrow.Author.Rules.{rules}
use Rattle.paths.proofs.own_number.Goals as goal

pub returns-then-c-lt1 : goal.returns-then-c-lt1
unfolding own_number
returns-then-c-lt1 c = search (ifs, rules)

pub returns-then-own-c : goal.returns-then-own-c
unfolding own_number
returns-then-own-c c = search (ifs, rules)

pub returns : goal.returns
unfolding own_number
returns c = search (ifs, rules)
