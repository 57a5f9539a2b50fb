-- `loading::by_line` meets its contract: each return is a branch of the definition.
use borrow.Author.Rules.{rules}
use Rattle.basics.proofs.Choices.{ifs}
use Rattle.model.specs.Verdicts.{by_line, refusal}
use Rattle.loading.proofs.by_line.Goals as goal

pub returns-then-number-lt5 : goal.returns-then-number-lt5
unfolding by_line refusal
returns-then-number-lt5 c = search (ifs, rules) depth 14

pub returns : goal.returns
unfolding by_line refusal
returns c = search (ifs, rules) depth 14
