-- `give_own`: the loop gives one own cue more each turn, or passes a byte without bits.
use borrow.Author.Rules.{rules}
use native.Mathlib.Omega.{arith}
use mathlib.Core.Path.{refl}
use Rattle.lists.proofs.Filled.{own-begin, own_on, own-skip, own-done}
use Rattle.lists.proofs.give_own.Goals as goal

pub loop-d-init : goal.loop-d-init
loop-d-init c = search (own-begin, rules)

pub loop-d-preserved-then-b-eq0 : goal.loop-d-preserved-then-b-eq0
loop-d-preserved-then-b-eq0 c =
    let inv = c.loop-d.invariant in
    let n = c.next_byte-d.ensures in (
      omega (arith, n.0, inv.0),
      n.1,
      inv.2,
      inv.3,
      own-skip _ _ _ _ _ _ _ _ _ _ _ _ _ inv.0 c.loop-d-test.true refl refl c.if-b-eq0.true n.0 n.1 n.2 inv.4,
    )

pub loop-d-preserved : goal.loop-d-preserved
loop-d-preserved c = search (own_on, rules) fits 20000

pub returns : goal.returns
returns c = search (own-done, rules)
