-- `distance::keep_row` meets its contract. The invariant: the estimates passed are kept.
use Rattle.std.proofs.Common.{arith, ◌+◌, ◌*◌, ◌<◌, length}
use Rattle.model.specs.Limits.{summary_width}
use Rattle.searches.proofs.Joins.{row-begin, row_on}
use Rattle.estimates.proofs.Numbers.{count, read, stored}
use Rattle.distance.proofs.keep_row.Goals as goal

pub loop-j-init : goal.loop-j-init
loop-j-init g c = row-begin _ _ _ _

pub loop-j-preserved : goal.loop-j-preserved
loop-j-preserved g c =
    let m = g.met.N.Number.each in
    let here : summary_width * c.args.i + c.loop-j.j < length (g.N.Number.values c.loop-j.v) = omega (arith, count m c.loop-j.v) in
    let y = read m c.args.e.now c.loop-j.j c.index-e-j.result c.index-e-j.is (omega arith) in
    rw (stored m c.loop-j.v _ c.index-e-j.result, y) (row_on c.args.i c.loop-j.j here c.loop-j.invariant)
