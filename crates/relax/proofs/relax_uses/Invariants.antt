-- `relax::relax_uses` meets its contract. The invariant: a round over the use rows passed.
use Rattle.searches.proofs.Edges.{UsesOver}
use Rattle.relax.proofs.relax_uses.Given as goal

abbrev pub invariant-loop-r : goal.invariant-loop-r
invariant-loop-r g l =
    let m = g.N.Number in
    UsesOver l.show.rows.now (m.values l.work) l.initial.r l.r (m.values l.initial.d) l.changed (m.values l.d)
