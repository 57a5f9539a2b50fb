-- `levels`: the loop makes one block more each turn.
use native.Mathlib.Omega.{arith}
use mathlib.Core.Path.{◌≡◌}
use Rattle.levels.proofs.Making.{none_made}
use Rattle.levels.proofs.levels.Goals as goal

pub loop-k-init : goal.loop-k-init
loop-k-init c = none_made c.requires.1

pub make-requires : goal.make-requires
make-requires c =
    let inv = c.loop-k.invariant in
    (omega (arith, c.requires.0, c.loop-k-test.true), inv.0, inv.1)

pub loop-k-preserved : goal.loop-k-preserved
loop-k-preserved c = c.make.ensures

pub returns : goal.returns
returns c =
    let e : c.loop-k.k ≡ c.args.end = omega (arith, c.loop-k.auto.k-end, c.loop-k-test.false) in rw e at c.loop-k.invariant.0
