-- `desk::opens_first` meets its contract: the two tests are those of the definition.
use borrow.Author.Rules.{rules}
use Rattle.basics.proofs.Choices.{ifs}
use Rattle.model.specs.Rows.{cell, row_at}
use Rattle.desk.specs.Own.{opens_first}
use Rattle.desk.proofs.opens_first.Goals as goal

pub returns-then-numbers-eq0 : goal.returns-then-numbers-eq0
unfolding opens_first row_at cell
returns-then-numbers-eq0 c = search (ifs, rules) depth 8

pub returns-else-numbers-eq0 : goal.returns-else-numbers-eq0
unfolding opens_first row_at cell
returns-else-numbers-eq0 c = search (ifs, rules) depth 8
