-- `distance::keep_joins` meets its contract.
use Rattle.std.proofs.Common.{arith, ◌+◌}
use Rattle.searches.proofs.Parts.{part_size}
use Rattle.searches.proofs.Joins.{row_lent, joins-kept}
use Rattle.estimates.proofs.Numbers.{lent}
use Rattle.distance.proofs.keep_joins.Goals as goal

pub returns : goal.returns
returns g c =
    let d = c.args.d.now in
    let kept = rw (lent g.met.N.Number.each _ _ d, part_size d (c.wide-first.result + 1) c.joins.result (omega arith)) at c.keep_row.ensures in
    joins-kept _ _ (row_lent _ _ _ kept) c.wide-first.ensures.0 c.own.ensures.0 c.joins.ensures.0
