-- `desk::fits` meets its contract: the two tests are those of the definition.
use borrow.Author.Rules.{rules}
use Rattle.basics.proofs.Choices.{ifs}
use Rattle.desk.specs.Own.{own_rows_fit}
use Rattle.desk.proofs.fits.Goals as goal

pub returns-then-many-ge1 : goal.returns-then-many-ge1
unfolding own_rows_fit
returns-then-many-ge1 c = search (ifs, rules) depth 8

pub returns-else-many-ge1 : goal.returns-else-many-ge1
unfolding own_rows_fit
returns-else-many-ge1 c = search (ifs, rules) depth 8
