-- `Table::unlinked`: the loop joins one level more each turn.
use mathlib.Core.Path.{refl}
use Rattle.levels.proofs.Lifting.{none-begin, none-on, none_done}
use Rattle.levels.proofs.Table.unlinked.Goals as goal

pub loop-j-init : goal.loop-j-init
loop-j-init c = none-begin _ _

pub loop-j-preserved : goal.loop-j-preserved
loop-j-preserved c = none-on _ _ _ _ _ c.loop-j.invariant refl

pub returns : goal.returns
returns c = none_done _ c.args.k c.args.i _ _ _ _ c.loop-j.invariant c.loop-j-test.false refl refl
