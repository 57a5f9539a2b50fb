-- Each number is compared with those before it.
use native.Mathlib.Omega.{arith}
use Rattle.rules.proofs.Tests.{distinct-one, distinct-stop, distinct-on, distinct-done}
use Rattle.rules.proofs.all_distinct.Goals as goal

pub loop-i-init : goal.loop-i-init
loop-i-init c = distinct-one _

pub returns-then-contains : goal.returns-then-contains
returns-then-contains c = distinct-stop _ _ _ (omega arith) c.contains.ensures.value c.if-contains.true

pub loop-i-preserved : goal.loop-i-preserved
loop-i-preserved c = distinct-on _ _ _ c.loop-i.invariant (omega arith) c.contains.ensures.value c.if-contains.false

pub returns : goal.returns
returns c = distinct-done _ _ (omega arith) c.loop-i.invariant
