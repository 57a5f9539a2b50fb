-- `estimates::put` meets its contract.
use Rattle.std.proofs.Common.{rules}
use Rattle.searches.proofs.Starts.{merged_both}
use Rattle.searches.proofs.Lowering.{fell_both}
use Rattle.estimates.proofs.Numbers.{read, stored}
use Rattle.estimates.proofs.put.Goals as goal

pub returns : goal.returns
returns g c =
    let m = g.met.N.Number.each in
    let y = read m _ _ _ c.index-d-v.is (search rules) in
    rw (stored m c.args.d.now c.args.v c.lesser.result)
    (merged_both _ _ _ _ _ y c.lesser.ensures, fell_both _ _ _ _ _ _ y c.lesser.ensures c.falls.ensures)
