-- `Table::lift_pair`: the level is put in one higher, or there is none.
use native.Mathlib.Omega.{arith}
use mathlib.Core.Path.{refl}
use Rattle.levels.proofs.Lifting.{level-few, pair_lifted, pair_none}
use Rattle.levels.proofs.Table.lift_pair.Goals as goal

pub overflow_add-n : goal.overflow_add-n
overflow_add-n c =
    let pre = c.requires in
    omega (arith, level-few pre.0 _ _ _ _ c.used.ensures.0 pre.1 pre.2 c.level_at-n.ensures)

pub returns-then-n-gt0 : goal.returns-then-n-gt0
returns-then-n-gt0 c =
    let pre = c.requires in
    pair_lifted pre.0 _ _ _ _ pre.1 pre.2 c.column.ensures c.column-then-n-gt0.ensures _ _ _
    c.used.ensures.0 c.level_at-n.ensures c.if-n-gt0.true refl c.put.ensures

pub returns-else-n-gt0 : goal.returns-else-n-gt0
returns-else-n-gt0 c =
    let pre = c.requires in
    pair_none pre.0 _ _ _ _ _ pre.1 pre.2 c.used.ensures.0 c.level_at-n.ensures c.if-n-gt0.false
