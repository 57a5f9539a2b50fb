-- `relax::relax_between` meets its contract.
use Rattle.std.proofs.Common.{rules, arith, refl}
use Rattle.searches.proofs.Edges.{between-both}
use Rattle.estimates.proofs.Numbers.{held}
use Rattle.relax.proofs.relax_between.Goals as goal

pub returns : goal.returns
returns g c =
    let m = g.met.N.Number.each in
    between-both _ _ _ _ _ _ c.improve-c.ensures c.improve-e.ensures refl c.wide-a.ensures.0 c.column.ensures c.wide-b.ensures.0 c.column-2.ensures
    (held m c.args.weights.now _ _ (search rules)) (held m c.args.weights.now _ _ (search rules))
    (omega arith) (omega arith)
