-- All columns are read.
use native.Mathlib.Omega.{arith}
use Rattle.rules.proofs.Tests.{zeros_begin, zeros_on, zeros_done}
use Rattle.rules.proofs.every_zero.Goals as goal

pub loop-i-init : goal.loop-i-init
loop-i-init c = zeros_begin c.args.columns.now c.args.many

pub loop-i-preserved : goal.loop-i-preserved
loop-i-preserved c = zeros_on c.args.columns.now c.args.many _ _ _ c.loop-i.invariant (omega arith) c.left_over-all.ensures

pub returns : goal.returns
returns c = zeros_done c.args.columns.now c.args.many _ _ c.loop-i.invariant (omega arith) (omega arith)
