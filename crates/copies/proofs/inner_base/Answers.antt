-- `inner_base`: the loop passes one use more each turn.
use native.Mathlib.Omega.{arith}
use Rattle.copies.proofs.Bases.{inner_base-begin}
use Rattle.copies.proofs.Copies.{step_small, inner_base-row, inner_base-fits, inner_base-next, inner_base-last}
use Rattle.copies.proofs.inner_base.Goals as goal

pub overflow_add-b : goal.overflow_add-b
overflow_add-b c = omega (arith, step_small c.args.show.now.loaded _ _ c.requires _ c.own.ensures.0)

pub loop-i-init : goal.loop-i-init
loop-i-init c = inner_base-begin c.args.show.now.loaded _ _ c.use_rows-rows.ensures _ c.own.ensures.0

pub size_of-b-requires : goal.size_of-b-requires
size_of-b-requires c = inner_base-row c.args.show.now.loaded _ _ c.requires _ c.use_rows-rows.ensures c.loop-i.auto.i c.loop-i-test.true

pub overflow_add-b-in-loop-i : goal.overflow_add-b-in-loop-i
overflow_add-b-in-loop-i c =
    let loop = c.loop-i in
    omega (arith, inner_base-fits c.args.show.now.loaded _ _ c.requires _ c.use_rows-rows.ensures loop.auto.i c.loop-i-test.true _ _ loop.invariant c.size_of-b.ensures)

pub loop-i-preserved : goal.loop-i-preserved
loop-i-preserved c =
    let loop = c.loop-i in
    inner_base-next c.args.show.now.loaded _ _ c.requires _ c.use_rows-rows.ensures loop.auto.i c.loop-i-test.true _ _ loop.invariant c.size_of-b.ensures

pub returns : goal.returns
returns c =
    let loop = c.loop-i in
    inner_base-last c.args.show.now.loaded _ _ c.requires _ (loop.auto.i-end (omega (arith, c.use_rows-rows.ensures.begin, c.requires.low))) c.loop-i-test.false loop.invariant
