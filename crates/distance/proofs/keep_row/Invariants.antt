-- `distance::keep_row` meets its contract. The invariant: the estimates passed are kept.
use Rattle.searches.specs.Joins.{RowKept}
use Rattle.distance.proofs.keep_row.Given as goal

abbrev pub invariant-loop-j : goal.invariant-loop-j
invariant-loop-j g l = let m = g.N.Number in RowKept (m.values l.initial.v) l.i (m.values l.e) 0 l.j (m.values l.v)
