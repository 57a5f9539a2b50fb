-- `distance::common` meets its contract. The invariant: the rows passed are the same.
use Rattle.searches.proofs.Joins.{SameRows}
use Rattle.distance.proofs.common.Given as goal

abbrev pub invariant-loop-i : goal.invariant-loop-i
invariant-loop-i l = SameRows l.a l.b l.i
