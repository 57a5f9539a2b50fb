-- `relax::lower_line` meets its contract. The invariant: the estimates passed are lowered.
use Rattle.searches.specs.Lines.{Line}
use Rattle.relax.proofs.lower_line.Given as goal

abbrev pub invariant-loop-j : goal.invariant-loop-j
invariant-loop-j g l =
    let m = g.N.Number in
    Line m.inf (m.values l.weights) 0 (m.value l.x) (m.values l.initial.e) l.j (m.values l.e)
