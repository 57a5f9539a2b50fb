-- `relax::lower_line` meets its contract. The invariant: the estimates passed are lowered.
use Rattle.std.proofs.Common.{rules, arith, ◌<◌, length}
use Rattle.searches.proofs.Lines.{line_begin, line_on}
use Rattle.estimates.proofs.Numbers.{count, held, stored}
use Rattle.relax.proofs.lower_line.Goals as goal

pub loop-j-init : goal.loop-j-init
loop-j-init g c = line_begin _ _ _ _ _

pub loop-j-preserved : goal.loop-j-preserved
loop-j-preserved g c =
    let m = g.met.N.Number.each in
    let here : c.loop-j.j < length (g.N.Number.values c.loop-j.e) = omega (arith, count m c.loop-j.e) in
    rw (stored m c.loop-j.e c.loop-j.j c.lowered_in_line.result)
    (line_on _ _ _ _ _ _ _ _ _ c.loop-j.invariant c.lowered_in_line.ensures (held m c.loop-j.e _ _ (search rules))
    (held m c.args.weights.now _ _ (search rules)) here)
