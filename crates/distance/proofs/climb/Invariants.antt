-- `distance::climb` meets its contract. The invariant: whatever place the estimates are of at its own level, they are its at level l.
use Rattle.searches.proofs.Ways.{Climbing}
use Rattle.distance.proofs.climb.Given as goal

abbrev pub invariant-loop-l : goal.invariant-loop-l
invariant-loop-l g l =
    let m = g.N.Number in
    Climbing m.inf (g.P.Prices.price l.prices) l.show.rows.now l.show.index.now (m.values l.work) l.rows l.initial.l (m.values l.initial.kept) (m.values l.initial.d) l.l
    (m.values l.kept) (m.values l.d)
