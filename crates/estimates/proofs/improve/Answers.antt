-- `estimates::improve` meets its contract.
use Rattle.std.proofs.Common.{rules}
use Rattle.searches.proofs.Lowering.{round_least}
use Rattle.estimates.proofs.Numbers.{read, stored}
use Rattle.estimates.proofs.improve.Goals as goal

pub returns : goal.returns
returns g c =
    let m = g.met.N.Number.each in
    rw (stored m c.args.d.now c.args.v c.lowered-z.result)
    (round_least _ _ _ _ _ _ _ _ _ (read m _ _ _ c.index-d-u.is (search rules)) (read m _ _ _ c.index-d-v.is (search rules)) c.lowered-z.ensures c.falls.ensures)
