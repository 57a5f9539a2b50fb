-- A line at a place. The loop's invariant: the line is the values in the row so far, and what is read for the ends that are left.
use borrow.Author.Rules.{rules}
use Rattle.lines.proofs.LineScan.{line_begin, line_turn, line_bad, line_end}
use Rattle.lines.proofs.line_at.Goals as goal

pub loop-c-init : goal.loop-c-init
loop-c-init c = search (line_begin, rules)

pub returns-in_err-v : goal.returns-in_err-v
returns-in_err-v c = search (line_bad, rules)

pub loop-c-preserved : goal.loop-c-preserved
loop-c-preserved c = (search rules, search (line_turn, rules))

pub returns : goal.returns
returns c = search (line_end, rules)
