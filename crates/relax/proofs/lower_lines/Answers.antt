-- `relax::lower_lines` meets its contract. The invariant: the estimates are lowered by the lines passed.
use Rattle.std.proofs.Common.{rules, arith, ◌/◌, length}
use Rattle.searches.proofs.Parts.{chunk_is}
use Rattle.searches.proofs.Lines.{lines-begin, lines-on}
use Rattle.estimates.proofs.Numbers.{held, lent}
use Rattle.relax.proofs.lower_lines.Goals as goal

pub loop-i-init : goal.loop-i-init
loop-i-init g c = lines-begin _ _ _ _ _ _

pub loop-i-preserved : goal.loop-i-preserved
loop-i-preserved g c =
    let m = g.met.N.Number.each in
    let weights = c.args.weights.now in
    let is = chunk_is 8 (length weights / 8) c.loop-i.i weights c.index-lines-i.result c.index-lines-i.is c.as_chunks.ensures.front (omega arith) in
    let line = rw (is, lent m _ _ weights) at c.lower_by.ensures in
    lines-on _ _ _ _ _ _ _ _ _ _ c.loop-i.invariant line (held m c.args.g.now _ _ (search rules)) (omega arith) (omega arith)
