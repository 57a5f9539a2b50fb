-- `relax::differ` meets its contract. The invariant: unless a difference was found, the estimates passed are the same.
use Rattle.std.proofs.Common.{rules, refl}
use Rattle.searches.proofs.Lines.{alike_begin, alike_on}
use Rattle.estimates.proofs.Numbers.{held}
use Rattle.relax.proofs.differ.Goals as goal

pub loop-i-init : goal.loop-i-init
loop-i-init g c = alike_begin _ _ _

pub loop-i-preserved : goal.loop-i-preserved
loop-i-preserved g c =
    let m = g.met.N.Number.each in
    alike_on _ _ _ _ _ _ _ _ c.loop-i.invariant refl c.unlike-found.ensures (held m c.args.a.now _ _ (search rules))
    (held m c.args.b.now _ _ (search rules))
