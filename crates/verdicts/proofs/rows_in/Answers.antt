-- `verdicts::rows_in` meets its contract.
use borrow.Author.Rules.{rules}
use Rattle.basics.proofs.Choices.{ifs}
use Rattle.verdicts.specs.Passing.{rows_in}
use Rattle.verdicts.proofs.rows_in.Goals as goal

pub returns-then-xs-ne0 : goal.returns-then-xs-ne0
unfolding rows_in
returns-then-xs-ne0 c = search (ifs, rules) depth 14

pub returns-then-xs-gt-MAX_ROWS : goal.returns-then-xs-gt-MAX_ROWS
unfolding rows_in
returns-then-xs-gt-MAX_ROWS c = search (ifs, rules) depth 14

pub returns : goal.returns
unfolding rows_in
returns c = search (ifs, rules) depth 14
