-- `estimates::put_met` meets its contract. The invariant: the estimates of the cues passed are put in.
use Rattle.searches.specs.Rounds.{Fell}
use Rattle.searches.specs.Starts.{MetAt, Merged}
use Rattle.estimates.proofs.put_met.Given as goal

abbrev pub invariant-loop-i : goal.invariant-loop-i
invariant-loop-i g l =
    let m = g.N.Number in
    Merged (MetAt l.xs l.r (m.values l.kept) 0 l.i) (m.values l.initial.d) (m.values l.d) × Fell (m.values l.initial.d) l.fell (m.values l.d)
