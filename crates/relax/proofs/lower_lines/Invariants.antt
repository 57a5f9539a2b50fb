-- `relax::lower_lines` meets its contract. The invariant: the estimates are lowered by the lines passed.
use Rattle.model.specs.Limits.{summary_width}
use Rattle.searches.specs.Lines.{Lines}
use Rattle.relax.proofs.lower_lines.Given as goal

abbrev pub invariant-loop-i : goal.invariant-loop-i
invariant-loop-i g l =
    let m = g.N.Number in
    Lines m.inf summary_width (m.values l.weights) 0 (m.values l.g) (m.values l.initial.e) l.i (m.values l.e)
