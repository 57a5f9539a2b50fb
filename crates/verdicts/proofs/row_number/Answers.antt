-- `verdicts::row_number` meets its contract.
use borrow.Author.Rules.{rules}
use Rattle.basics.proofs.Choices.{ifs}
use Rattle.verdicts.specs.Passing.{row_number_of}
use Rattle.verdicts.proofs.row_number.Goals as goal

pub returns-then-r-lt-MAX_ROWS_32-clause-number : goal.returns-then-r-lt-MAX_ROWS_32-clause-number
unfolding row_number_of
returns-then-r-lt-MAX_ROWS_32-clause-number c = search (ifs, rules) depth 14

pub returns-else-r-lt-MAX_ROWS_32-clause-number : goal.returns-else-r-lt-MAX_ROWS_32-clause-number
unfolding row_number_of
returns-else-r-lt-MAX_ROWS_32-clause-number c = search (ifs, rules) depth 14
