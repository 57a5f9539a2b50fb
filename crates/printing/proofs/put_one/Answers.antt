-- `printing::put_one` meets its contract: a line of one value.
use borrow.Author.Rules.{rules}
use Rattle.printing.proofs.Lines.{puts-value}
use Rattle.printing.proofs.put_one.Goals as goal

pub returns : goal.returns
returns c = search (puts-value, rules)
