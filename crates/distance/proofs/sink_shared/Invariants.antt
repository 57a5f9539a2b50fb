-- `distance::sink_shared` meets its contract. The invariant: the estimates tell the least in the whole show at level l.
use Rattle.searches.proofs.Ways.{Sharing}
use Rattle.distance.proofs.sink_shared.Given as goal

abbrev pub invariant-loop-l : goal.invariant-loop-l
invariant-loop-l g l =
    let m = g.N.Number in
    Sharing m.inf (g.P.Prices.price l.prices) l.show.rows.now l.show.index.now (m.values l.work) l.rows l.from l.shared (m.values l.kept) l.l (m.values l.d)
