-- `relax::relax_link` meets its contract.
use Rattle.std.proofs.Common.{arith}
use Rattle.searches.proofs.Edges.{link-note, link-taken}
use Rattle.relax.proofs.relax_link.Goals as goal

pub returns-then-not-followed : goal.returns-then-not-followed
returns-then-not-followed g c = link-note _ _ _ c.label-label.ensures (omega arith) (g.met.P.Prices.followed _)

pub returns : goal.returns
returns g c =
    link-taken _ _ c.improve.ensures c.wide-u.ensures.0 c.from.ensures c.wide-v.ensures.0 c.to.ensures c.label-label.ensures c.of.ensures c.weight.ensures
