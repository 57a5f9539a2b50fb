-- `meet`: the loop reads one column more each turn.
use Rattle.copies.specs.Copies.{MeetIs}
use Rattle.copies.proofs.meet.Given as goal

abbrev pub invariant-loop-j : goal.invariant-loop-j
invariant-loop-j l = MeetIs l.rows l.r l.j l.own l.z l.out
