-- A number behind the first ones: each answer is a case of the definition.
use borrow.Author.Rules.{rules}
use Rattle.basics.proofs.Choices.{ifs}
use Rattle.rules.proofs.left_over.Goals as goal

pub returns-then-i-many : goal.returns-then-i-many
returns-then-i-many c = search (ifs, rules)

pub returns : goal.returns
returns c = search (ifs, rules)
