-- `distance::put_joins` meets its contract. The invariant: the estimates passed are put in.
use Rattle.std.proofs.Common.{rules, arith}
use Rattle.searches.proofs.Joins.{joins-begin, joins-on}
use Rattle.estimates.proofs.Numbers.{read}
use Rattle.distance.proofs.put_joins.Goals as goal

pub loop-i-init : goal.loop-i-init
loop-i-init g c = joins-begin _ _ _

pub loop-i-preserved : goal.loop-i-preserved
loop-i-preserved g c =
    let e = read g.met.N.Number.each c.args.e.now c.loop-i.i c.index-e-i.result c.index-e-i.is (search rules) in
    joins-on _ _ _ c.loop-i.invariant (rw e at c.put.ensures.0) (omega arith)
