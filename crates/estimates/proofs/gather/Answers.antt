-- `estimates::gather` meets its contract. The invariant: the numbers passed are the estimates of their cues, and unless one was
-- found that is not, all are x.
use Rattle.std.proofs.Common.{rules, arith, refl, ◌<◌, length}
use Rattle.searches.proofs.Starts.{gathered_begin, gathered_on}
use Rattle.searches.proofs.Lines.{even_begin, even_on}
use Rattle.estimates.proofs.Numbers.{count, read, stored}
use Rattle.estimates.proofs.gather.Goals as goal

pub loop-i-init : goal.loop-i-init
loop-i-init g c = (gathered_begin _ _ _ _, even_begin _ _ _)

pub loop-i-preserved : goal.loop-i-preserved
loop-i-preserved g c =
    let m = g.met.N.Number.each in
    let y = read m c.args.d.now _ c.index-d-wide.result c.index-d-wide.is (search rules) in
    let here : c.loop-i.i < length (g.N.Number.values c.loop-i.e) = omega (arith, count m c.loop-i.e) in
    rw (stored m c.loop-i.e c.loop-i.i c.index-d-wide.result) (
      rw (← y) at (gathered_on c.loop-i.i c.loop-i.invariant.0 c.wide.ensures.0 c.column.ensures here),
      even_on c.loop-i.uneven c.loop-i.invariant.1 c.unlike-uneven.ensures refl here,
    )
