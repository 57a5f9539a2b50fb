-- The step from a reader's place: over a line, to the file's end, or a line that is none.
use borrow.Author.Rules.{rules}
use Rattle.codec.proofs.RowScan.{step_end, step-bad, step-on}
use Rattle.codec.proofs.Reader.next_row.Goals as goal

pub returns-then-self-clause-step : goal.returns-then-self-clause-step
returns-then-self-clause-step c = search (step_end, rules)

pub returns-in_default-clause-step : goal.returns-in_default-clause-step
returns-in_default-clause-step c = search (step-bad, rules)

pub returns-clause-step : goal.returns-clause-step
returns-clause-step c = search (step-on, rules)
