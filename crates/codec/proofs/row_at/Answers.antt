-- A line to its row: the row is a part of the rows, or a spare one.
use borrow.Author.Rules.{rules}
use Rattle.codec.proofs.RowScan.{row-stored, row-spare}
use Rattle.codec.proofs.row_at.Goals as goal

pub returns-then-r-rows : goal.returns-then-r-rows
returns-then-r-rows c = row-stored _ _ _ _ _ _ _ c.line_at.ensures (search rules) (search rules)

pub returns : goal.returns
returns c = search (row-spare, rules)
