-- A row is copied to its part of the list.
use borrow.Author.Rules.{rules}
use Rattle.rows.proofs.Copying.{row-set}
use Rattle.rows.proofs.set_row.Goals as goal

pub returns : goal.returns
returns c = search (row-set, rules)
