-- `Table::lift_join`: the loop lifts one level more each turn, if there is any.
use native.Mathlib.Omega.{arith}
use Rattle.levels.proofs.Lifting.{may_on, join_begin, join_on, join_done, join_unlinked, join_own}
use Rattle.levels.proofs.Table.lift_join.Goals as goal

pub used-requires : goal.used-requires
used-requires c = c.requires.0.row.there

pub unlinked-requires : goal.unlinked-requires
unlinked-requires c =
    let pre = c.requires in
    (omega (arith, pre.0.room, pre.0.row.lower, c.used.ensures.0), omega (arith, pre.0.few, pre.1, pre.2))

pub returns-then-unlinked : goal.returns-then-unlinked
returns-then-unlinked c =
    let pre = c.requires in
    join_unlinked _ _ pre.0 _ _ (omega (arith, pre.1, pre.2)) c.used.ensures.0 c.unlinked.ensures c.if-unlinked.true

pub column-requires : goal.column-requires
column-requires c =
    let pre = c.requires in
    (pre.0.row.there, omega (arith, pre.0.few, pre.1, pre.2))

pub returns-then-column-at : goal.returns-then-column-at
returns-then-column-at c =
    let pre = c.requires in
    join_own _ _ pre.0 _ (omega (arith, pre.1, pre.2)) c.column.ensures c.if-column-at.true

pub loop-j-init : goal.loop-j-init
loop-j-init c = join_begin _ _ c.requires.0

pub lift_pair-requires : goal.lift_pair-requires
lift_pair-requires c =
    let pre = c.requires in
    (may_on pre.0 c.loop-j.invariant, omega (arith, pre.1, pre.2), omega (arith, pre.1))

pub loop-j-preserved : goal.loop-j-preserved
loop-j-preserved c =
    let pre = c.requires in
    join_on _ _ pre.0 _ _ c.loop-j.invariant c.lift_pair.ensures

pub returns : goal.returns
returns c =
    let pre = c.requires in
    join_done _ _ pre.0 _ c.loop-j.invariant (omega (arith, pre.1))
