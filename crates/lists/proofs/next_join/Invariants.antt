-- `next_join`: x is the least one of the joins so far.
use Rattle.lists.specs.Joins.{Next}
use Rattle.lists.proofs.next_join.Given as goal

abbrev pub invariant-loop-j : goal.invariant-loop-j
invariant-loop-j l = Next l.flags l.j l.met l.last l.x
