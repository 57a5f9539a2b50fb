-- `estimates::clear` meets its contract.
use Rattle.std.proofs.Common.{arith, ◌≡◌, ◌+◌, length, take}
use lib.Seq.{length-take-le}
use Rattle.searches.proofs.Starts.{started_blank}
use Rattle.estimates.proofs.Numbers.{filled}
use Rattle.estimates.proofs.clear.Goals as goal

pub returns : goal.returns
returns g c =
    let m = g.met.N.Number in
    let n = c.args.n + 1 in
    let size : length (take n c.args.d.now) ≡ n = length-take-le n c.args.d.now (omega arith) in
    rw (c.fill.ensures.after (m.copied _).1, size, c.NONE.ensures, filled m.each n _ _, m.none) (started_blank _ _ n _ (omega arith))
