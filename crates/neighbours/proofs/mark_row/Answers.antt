-- `mark_row`: the loop marks by one column more each turn.
use borrow.Author.Rules.{rules}
use Rattle.neighbours.proofs.Marks.{row-begin, row_done}
use Rattle.neighbours.proofs.mark_row.Goals as goal

pub loop-j-init : goal.loop-j-init
loop-j-init c = search (row-begin, rules)

pub returns : goal.returns
returns c = search (row_done, rules)
