-- `descend`: the loop goes one level down each turn.
use mathlib.Core.Path.{refl}
use Rattle.copies.proofs.Copies.{copy_at_begin, may_step_on, copy_at_on, copy_at_done}
use Rattle.copies.proofs.descend.Goals as goal

pub loop-l-init : goal.loop-l-init
loop-l-init c = let last = c.last.ensures in copy_at_begin _ _ _ c.args.show.now.loaded last.0 last.1 refl

pub step-z-requires : goal.step-z-requires
step-z-requires c = may_step_on _ _ _ _ c.loop-l-test.true c.loop-l.invariant refl c.wide.ensures.0 c.args.show.now.loaded c.requires

pub loop-l-preserved : goal.loop-l-preserved
loop-l-preserved c = copy_at_on c.args.place _ _ _ c.loop-l-test.true c.loop-l.invariant refl c.wide.ensures.0 _ c.step-z.ensures

pub returns : goal.returns
returns c = copy_at_done _ _ c.loop-l.invariant c.loop-l.auto.l-end c.loop-l-test.false
