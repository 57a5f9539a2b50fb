-- `distance::sink_alone` meets its contract. The invariant: the estimates tell the least at level l too, whatever cue they are about that no copy below the first level has.
use Rattle.searches.proofs.Ways.{Sinking}
use Rattle.distance.proofs.sink_alone.Given as goal

abbrev pub invariant-loop-l : goal.invariant-loop-l
invariant-loop-l g l =
    let m = g.N.Number in
    Sinking m.inf (g.P.Prices.price l.prices) l.show.rows.now l.show.index.now (m.values l.work) l.rows l.fn.to l.initial.l l.l (m.values l.initial.d) (m.values l.d)
