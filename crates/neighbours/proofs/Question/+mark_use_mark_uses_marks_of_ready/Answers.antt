-- The record of a join is made from those of the joins below that meet it: the four functions call
-- each other, and the block number falls.
use mathlib.Core.List.{[]}
use mathlib.Core.Path.{refl}
use Rattle.blocks.proofs.Loaded.{use_row, used_block}
use Rattle.neighbours.proofs.Marks.{part_few, row_part, use_inside, use_quiet}
use Rattle.neighbours.proofs.Tables.{use_step_made, use_step_none, uses_step_begin, uses_step_on, uses_step_done, marks_step_done, join_few, record_copied, record_made_now, written-long}
use native.Mathlib.Omega.{arith}
use Rattle.neighbours.proofs.Question.+mark_use_mark_uses_marks_of_ready.Goals as goal

pub mark_use-joins-joins-requires : goal.mark_use-joins-joins-requires
mark_use-joins-joins-requires t c = used_block _ c.requires.0 c.used-j.ensures.0

pub mark_use-ready-requires : goal.mark_use-ready-requires
mark_use-ready-requires t c =
    let pre = c.requires in
    let y = c.used-j.ensures.0 in
    let joins = c.joins-joins.ensures in
    let h = c.in-Some.ensures.some in (
      omega (arith, c.decreases, y, pre.0.lower),
      (
        used_block _ pre.0 y,
        omega (arith, y, pre.0.lower, pre.1),
        omega (arith, joins.0, h),
        pre.2,
      ),
    )

pub mark_use-mark_row-requires : goal.mark_use-mark_row-requires
mark_use-mark_row-requires t c =
    let pre = c.requires in
    let joins = c.joins-joins.ensures in
    (pre.0.there, part_few _ _ _ (omega arith) joins.1)

pub mark_use-bounds-m-at : goal.mark_use-bounds-m-at
mark_use-bounds-m-at t c =
    let pre = c.requires in
    omega (arith, c.in-Some.ensures.some, c.joins-joins.ensures.1, c.used-j.ensures.0, pre.0.lower, pre.1, c.ready.auto)

pub mark_use-returns-then-flag-eq1 : goal.mark_use-returns-then-flag-eq1
mark_use-returns-then-flag-eq1 t c =
    let pre = c.requires in
    let y = c.used-j.ensures.0 in
    let joins = c.joins-joins.ensures in
    let meets = c.in-Some.ensures.value in
    let h = c.in-Some.ensures.some in
    use_step_made _ _ _ _ _ _ _ _ _ _ _ pre.0 y joins.0 joins.1 meets _ _ h c.ready.ensures
    (use_inside _ _ _ _ _ _ _ pre.0 y joins.0 meets _ _ _ _ c.told-s h
    (row_part _ _ _ _ _ _ _ _ _ _ (omega arith) (omega (arith, h, joins.1, y, pre.0.lower, pre.1, c.ready.auto)) refl c.mark_row.ensures))

pub mark_use-returns-else-flag-eq1 : goal.mark_use-returns-else-flag-eq1
mark_use-returns-else-flag-eq1 t c =
    let pre = c.requires in
    let y = c.used-j.ensures.0 in
    let joins = c.joins-joins.ensures in
    let meets = c.in-Some.ensures.value in
    use_step_made _ _ _ _ _ _ _ _ _ _ _ pre.0 y joins.0 joins.1 meets _ _ c.in-Some.ensures.some c.ready.ensures
    (use_quiet _ _ _ _ _ _ _ pre.0 y joins.0 meets _ _ _ _ c.in-Some.ensures.some
    (row_part _ _ _ _ _ _ _ _ _ _ (omega arith) (omega (arith, c.in-Some.ensures.some, joins.1, y, pre.0.lower, pre.1, c.ready.auto)) refl c.mark_row.ensures) c.if-flag-eq1.false)

pub mark_use-returns-in_default : goal.mark_use-returns-in_default
mark_use-returns-in_default t c =
    let pre = c.requires in
    let joins = c.joins-joins.ensures in
    use_step_none _ _ [] _ _ _ _ _ _ _ _ pre.0 c.used-j.ensures.0 joins.0 joins.1 c.in_default.ensures.value _ pre.2 (omega arith)

pub mark_uses-loop-r-init : goal.mark_uses-loop-r-init
mark_uses-loop-r-init t c = uses_step_begin _ _ _ _ _ _ _ c.requires.2

pub mark_uses-mark_use-requires : goal.mark_uses-mark_use-requires
mark_uses-mark_use-requires t c =
    let pre = c.requires in
    let loop = c.loop-r in (
      omega (arith, c.decreases),
      (
        use_row c.args.self.now.show.loaded _ pre.0 _ c.use_rows-rows.ensures loop.auto.r c.loop-r-test.true,
        omega (arith, loop.auto.m, pre.1),
        loop.invariant.table,
      ),
    )

pub mark_uses-loop-r-preserved : goal.mark_uses-loop-r-preserved
mark_uses-loop-r-preserved t c =
    let loop = c.loop-r in
    uses_step_on _ _ _ _ _ _ _ _ _ _ _ _ loop.auto.r loop.invariant c.mark_use.ensures

pub mark_uses-returns : goal.mark_uses-returns
mark_uses-returns t c =
    let loop = c.loop-r in
    let rows = c.use_rows-rows.ensures in
    uses_step_done _ _ _ _ _ _ _ _ _ _ _ _ _ rows (loop.auto.r-end rows.order) c.loop-r-test.false loop.invariant

pub marks_of-mark_links-requires : goal.marks_of-mark_links-requires
marks_of-mark_links-requires t c = let rows = c.link_rows.ensures in (rows.order, rows.there)

pub marks_of-mark_uses-requires : goal.marks_of-mark_uses-requires
marks_of-mark_uses-requires t c = let pre = c.requires in (omega (arith, c.decreases), (pre.0, pre.1, pre.2))

pub marks_of-returns : goal.marks_of-returns
marks_of-returns t c =
    let own = c.own-own.ensures in
    marks_step_done _ _ _ _ _ _ _ _ _ _ _ _ c.requires.3 c.link_rows.ensures own.0 own.1 c.mark_links.ensures c.mark_uses.ensures

pub ready-overflow_mul-at-2 : goal.ready-overflow_mul-at-2
ready-overflow_mul-at-2 t c =
    let pre = c.requires in
    omega (arith, pre.1, join_few _ _ c.args.self.now.show.loaded _ _ pre.0 pre.2)

pub ready-overflow_add-at : goal.ready-overflow_add-at
ready-overflow_add-at t c =
    let pre = c.requires in
    omega (arith, pre.1, join_few _ _ c.args.self.now.show.loaded _ _ pre.0 pre.2)

pub ready-overflow_add-known : goal.ready-overflow_add-known
ready-overflow_add-known t c =
    let pre = c.requires in
    omega (arith, pre.1, join_few _ _ c.args.self.now.show.loaded _ _ pre.0 pre.2)

pub ready-bounds-m-at : goal.ready-bounds-m-at
ready-bounds-m-at t c =
    let pre = c.requires in
    omega (arith, pre.1, join_few _ _ c.args.self.now.show.loaded _ _ pre.0 pre.2)

pub ready-overflow_cast-c : goal.ready-overflow_cast-c
ready-overflow_cast-c t c =
    let pre = c.requires in
    omega (arith, pre.1, join_few _ _ c.args.self.now.show.loaded _ _ pre.0 pre.2)

pub ready-overflow_add-c-2 : goal.ready-overflow_add-c-2
ready-overflow_add-c-2 t c =
    let pre = c.requires in
    omega (arith, pre.1, join_few _ _ c.args.self.now.show.loaded _ _ pre.0 pre.2, c.own-own.ensures)

pub ready-overflow_add-at-2 : goal.ready-overflow_add-at-2
ready-overflow_add-at-2 t c =
    let pre = c.requires in
    omega (arith, pre.1, join_few _ _ c.args.self.now.show.loaded _ _ pre.0 pre.2, c.marks_of.auto, c.requires.1)

pub ready-slice_bounds-copy_from_slice-end : goal.ready-slice_bounds-copy_from_slice-end
ready-slice_bounds-copy_from_slice-end t c =
    let pre = c.requires in
    omega (arith, pre.1, join_few _ _ c.args.self.now.show.loaded _ _ pre.0 pre.2, c.marks_of.auto, c.requires.1)

pub ready-marks_of-requires : goal.ready-marks_of-requires
ready-marks_of-requires t c =
    let pre = c.requires in
    (omega (arith, c.decreases), (pre.0, pre.1, pre.3, refl))

pub ready-bounds-m-at-2 : goal.ready-bounds-m-at-2
ready-bounds-m-at-2 t c =
    let pre = c.requires in
    let few = join_few _ _ c.args.self.now.show.loaded _ _ pre.0 pre.2 in
    let there = record_copied _ _ c.marks_of.new.m c.args.k c.args.i _ c.copy_from_slice.ensures.after refl c.marks_of.ensures.marks.long (omega (arith, pre.1, c.marks_of.auto)) few in
    omega (arith, pre.1, few, c.marks_of.auto, there.long)

pub ready-shape_of-m : goal.ready-shape_of-m
ready-shape_of-m t c =
    let pre = c.requires in
    let few = join_few _ _ c.args.self.now.show.loaded _ _ pre.0 pre.2 in
    let there = record_copied _ _ c.marks_of.new.m c.args.k c.args.i _ c.copy_from_slice.ensures.after refl c.marks_of.ensures.marks.long (omega (arith, pre.1, c.marks_of.auto)) few in
    written-long _ _ _ _ c.args.m.now _ _ there (omega (arith, c.marks_of.auto))

pub ready-returns : goal.ready-returns
ready-returns t c =
    let pre = c.requires in
    let own = c.own-own in
    let marks = c.marks_of in
    let few = join_few _ _ c.args.self.now.show.loaded _ _ pre.0 pre.2 in
    let there = record_copied _ _ c.marks_of.new.m c.args.k c.args.i _ c.copy_from_slice.ensures.after refl c.marks_of.ensures.marks.long (omega (arith, pre.1, c.marks_of.auto)) few in
    record_made_now _ _ c.args.self.now.show.loaded _ _ _ _ own.result _ _ _ _ _ _ pre.2 refl (omega arith) own.ensures.0 own.ensures.1 (omega arith)
    marks.ensures there c.settled.ensures (omega (arith, pre.1, marks.auto))
