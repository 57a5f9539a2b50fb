-- `stands` meets its contract.
use borrow.Author.Rules.{rules}
use Rattle.basics.proofs.Choices.{ifs}
use Rattle.verdicts.specs.Passing.{stands_at}
use Rattle.verdicts.proofs.Steps.{eq-yes', eq-no', some_bool}
use Rattle.verdicts.proofs.Blocks.stands.Goals as goal

pub returns-then-k-self : goal.returns-then-k-self
unfolding stands_at
returns-then-k-self c = search (ifs, eq-yes', eq-no', some_bool, rules) depth 14

pub returns-then-joins-ne0 : goal.returns-then-joins-ne0
unfolding stands_at
returns-then-joins-ne0 c = search (ifs, eq-yes', eq-no', some_bool, rules) depth 14

pub returns : goal.returns
unfolding stands_at
returns c = search (ifs, eq-yes', eq-no', some_bool, rules) depth 14
