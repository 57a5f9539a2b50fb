-- `mark_row`: the loop marks by one column more each turn.
use Rattle.neighbours.specs.Near.{ByRow}
use Rattle.neighbours.specs.Records.{Added}
use Rattle.neighbours.proofs.mark_row.Given as goal

abbrev pub invariant-loop-j : goal.invariant-loop-j
invariant-loop-j l = Added l.y.own (ByRow l.rows l.flags l.r 0 l.j) l.initial.s l.s
