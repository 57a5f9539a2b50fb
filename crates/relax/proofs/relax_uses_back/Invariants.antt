-- `relax::relax_uses_back` meets its contract. The invariant: a round over the use rows passed, which are the last ones.
use Rattle.std.proofs.Common.{◌≤◌}
use Rattle.searches.proofs.Edges.{UsesOver}
use Rattle.relax.proofs.relax_uses_back.Given as goal

abbrev pub invariant-loop-r : goal.invariant-loop-r
invariant-loop-r g l =
    let m = g.N.Number in
    (l.r-start ≤ l.r) × UsesOver l.show.rows.now (m.values l.work) l.r l.initial.r (m.values l.initial.d) l.changed (m.values l.d)
