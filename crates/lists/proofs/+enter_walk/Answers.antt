-- The walk of a copy and that of a use call each other; the block number falls.
use Prim.Native.Nat.{◌+◌, ◌*◌, ◌-◌}
use mathlib.Core.Path.{refl}
use Rattle.blocks.proofs.Loaded.{block-few, own-few, use_row, used_block}
use Rattle.neighbours.proofs.Near.{known_own_part, part_long}
use Rattle.lists.proofs.Walks.{
  door_small,
  known_own_enter,
  may_visit_enter,
  records_ready_enter,
  entered-walk,
  walked-leaf,
  own-fits,
  may_enter_on,
  next_small,
  uses_going_begin,
  uses_going_on,
  uses_going_done,
}
use native.Mathlib.Omega.{arith}
use Rattle.lists.proofs.+enter_walk.Goals as goal

pub enter-returns-in_default : goal.enter-returns-in_default
enter-returns-in_default t c = c.door.ensures.shut c.in_default.is _

pub enter-overflow_mul-at-2 : goal.enter-overflow_mul-at-2
enter-overflow_mul-at-2 t c = omega (arith, door_small _ c.args.question.now.show.loaded _ _ _ c.requires.0 c.in-Some.ensures)

pub enter-overflow_add-at : goal.enter-overflow_add-at
enter-overflow_add-at t c =
    let pre = c.requires in
    let g = c.args.question.now.show.loaded in
    omega (arith, door_small _ g _ _ _ pre.0 c.in-Some.ensures, block-few g _ (used_block _ pre.0 c.used-j.ensures.0))

pub enter-own-requires : goal.enter-own-requires
enter-own-requires t c = used_block _ c.requires.0 c.used-j.ensures.0

pub enter-overflow_cast-inside : goal.enter-overflow_cast-inside
enter-overflow_cast-inside t c = omega (arith, door_small _ c.args.question.now.show.loaded _ _ _ c.requires.0 c.in-Some.ensures)

pub enter-overflow_add-inside-2 : goal.enter-overflow_add-inside-2
enter-overflow_add-inside-2 t c = omega (arith, door_small _ c.args.question.now.show.loaded _ _ _ c.requires.0 c.in-Some.ensures, c.own.ensures)

pub enter-give_block-g-requires : goal.enter-give_block-g-requires
enter-give_block-g-requires t c =
    let pre = c.requires in
    let g = c.args.question.now.show.loaded in
    let door = c.in-Some.ensures in
    let e = c.used-j.ensures.0 in
    let own = c.own.ensures.0 in
    let at = 328 * c.used-j.result + 41 * c.in-Some.i in (
      known_own_part _ _ _ _ _ _ _ _ refl (omega arith) (own-few g _ (used_block _ pre.0 e)) (known_own_enter _ g _ _ _ pre.0 door _ _ _ e own refl _ pre.2),
      part_long c.args.m.now at (at + 41 - at) (omega arith) (omega (arith, door_small _ g _ _ _ pre.0 door, e, pre.0.lower, pre.1)),
      may_visit_enter _ g _ _ _ pre.0 door _ _ _ e own refl _ _ pre.3 pre.4 pre.3.bound,
    )

pub enter-use_rows-rows-requires : goal.enter-use_rows-rows-requires
enter-use_rows-rows-requires t c = used_block _ c.requires.0 c.used-j.ensures.0

pub enter-returns-then-rows : goal.enter-returns-then-rows
enter-returns-then-rows t c =
    let pre = c.requires in
    let g = c.args.question.now.show.loaded in
    entered-walk _ g _ _ _ pre.0 c.in-Some.ensures _ _ _ c.used-j.ensures.0 c.own.ensures.0 refl _ _ _
    (walked-leaf _ g _ c.use_rows-rows.ensures _ _ _ _ c.if-rows.true c.give_block-g.ensures)

pub enter-walk-requires : goal.enter-walk-requires
enter-walk-requires t c =
    let pre = c.requires in
    let g = c.args.question.now.show.loaded in
    let door = c.in-Some.ensures in
    let e = c.used-j.ensures.0 in
    let own = c.own.ensures.0 in
    let given = c.give_block-g.ensures in (
      omega (arith, c.decreases, e, pre.0.lower),
      (
        records_ready_enter _ g _ _ _ pre.0 door _ _ _ e own refl _ pre.2,
        omega (arith, e, pre.0.lower, pre.1),
        may_visit_enter _ g _ _ _ pre.0 door _ _ _ e own refl _ _ pre.3 (omega (arith, given.long, pre.4)) given.bound,
      ),
    )

pub enter-returns : goal.enter-returns
enter-returns t c =
    let pre = c.requires in
    entered-walk _ c.args.question.now.show.loaded _ _ _ pre.0 c.in-Some.ensures _ _ _ c.used-j.ensures.0 c.own.ensures.0 refl _ _ _
    (c.walk.ensures.whole _ _ c.give_block-g.ensures)

pub walk-overflow_add-b : goal.walk-overflow_add-b
walk-overflow_add-b t c = omega (arith, own-fits _ _ _ _ _ _ _ _ c.args.question.now.show.loaded c.requires.2 c.own.ensures.0 refl)

pub walk-loop-r-init : goal.walk-loop-r-init
walk-loop-r-init t c =
    let pre = c.requires in
    uses_going_begin _ c.args.question.now.show.loaded _ c.use_rows-rows.ensures _ _ _ c.own.ensures.0 pre.2.room.2

pub walk-enter-g-requires : goal.walk-enter-g-requires
walk-enter-g-requires t c =
    let pre = c.requires in
    let g = c.args.question.now.show.loaded in
    let rows = c.use_rows-rows.ensures in
    let loop = c.loop-r in
    let h = c.loop-r-test.true in (
      omega (arith, c.decreases),
      (
        use_row g _ pre.2.known _ rows loop.auto.r h,
        pre.1,
        pre.0,
        may_enter_on _ g _ rows _ _ _ _ _ _ _ _ pre.2 loop.auto.r h loop.invariant,
        omega (arith, loop.auto.page, pre.2.room),
      ),
    )

pub walk-size_of-b-requires : goal.walk-size_of-b-requires
walk-size_of-b-requires t c = use_row c.args.question.now.show.loaded _ c.requires.2.known _ c.use_rows-rows.ensures c.loop-r.auto.r c.loop-r-test.true

pub walk-overflow_add-b-in-loop-r : goal.walk-overflow_add-b-in-loop-r
walk-overflow_add-b-in-loop-r t c =
    let loop = c.loop-r in
    omega (
      arith,
      next_small _ c.args.question.now.show.loaded _ c.use_rows-rows.ensures _ _ _ _ _ _ _ _ _ c.requires.2 loop.auto.r c.loop-r-test.true loop.invariant c.size_of-b.ensures,
    )

pub walk-loop-r-preserved : goal.walk-loop-r-preserved
walk-loop-r-preserved t c =
    let loop = c.loop-r in
    uses_going_on _ c.args.question.now.show.loaded _ c.use_rows-rows.ensures _ _ _ _ _ _ _ _ _ loop.auto.r c.loop-r-test.true loop.invariant c.enter-g.ensures c.size_of-b.ensures

pub walk-returns : goal.walk-returns
walk-returns t c =
    let loop = c.loop-r in
    let rows = c.use_rows-rows.ensures in
    uses_going_done _ c.args.question.now.show.loaded _ rows _ _ _ _ _ _ (loop.auto.r-end rows.order) c.loop-r-test.false loop.invariant
