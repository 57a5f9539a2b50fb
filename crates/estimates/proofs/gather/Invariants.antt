-- `estimates::gather` meets its contract. The invariant: the numbers passed are the estimates of their cues, and unless one was
-- found that is not, all are x.
use Rattle.searches.specs.Starts.{Gathered}
use Rattle.searches.specs.Lines.{Even}
use Rattle.estimates.proofs.gather.Given as goal

abbrev pub invariant-loop-i : goal.invariant-loop-i
invariant-loop-i g l =
    let m = g.N.Number in
    Gathered l.xs l.r (m.values l.d) l.i (m.values l.initial.e) (m.values l.e) × Even l.uneven (m.value l.x) (m.values l.e) l.i
