-- `rules::is_below` meets its contract.
use native.Mathlib.Omega.{arith}
use Rattle.rules.proofs.Tests.{key_found, key_on, key_done}
use Rattle.rules.proofs.is_below.Goals as goal

pub returns-then-x-i : goal.returns-then-x-i
returns-then-x-i c = key_found _ _ _ _ c.requires c.loop-i.i c.loop-i.invariant (omega arith) c.if-x-i.true

pub loop-i-preserved : goal.loop-i-preserved
loop-i-preserved c = key_on _ _ _ _ c.requires c.loop-i.i c.loop-i.invariant (omega arith) c.if-x-i.false

pub returns : goal.returns
returns c = key_done _ _ _ _ c.requires c.loop-i.i c.loop-i.invariant (omega arith)
