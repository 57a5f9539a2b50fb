-- `positions`: the rows before level l are positions, the others are as they were.
use native.Mathlib.Omega.{arith}
use Rattle.paths.proofs.Finding.{turned_begin, turned_there, turned_row, turned_on, turned_done}
use Rattle.paths.proofs.positions.Goals as goal

pub loop-l-init : goal.loop-l-init
loop-l-init c = turned_begin _ c.last-k.ensures.0 c.last-k.ensures.1

pub offset_bounds-rows-l : goal.offset_bounds-rows-l
offset_bounds-rows-l c = omega (arith, c.requires.deep)

pub bounds-rows-l : goal.bounds-rows-l
bounds-rows-l c = turned_there c.requires c.loop-l.invariant c.loop-l-test.true

pub position-requires : goal.position-requires
position-requires c =
    let p = c.requires in
    turned_row p c.loop-l.invariant c.loop-l-test.true _ c.wide-r.ensures.0

pub offset_bounds-rows-l-in-loop-l : goal.offset_bounds-rows-l-in-loop-l
offset_bounds-rows-l-in-loop-l c = omega (arith, c.requires.deep)

pub bounds-rows-l-in-loop-l : goal.bounds-rows-l-in-loop-l
bounds-rows-l-in-loop-l c =
    turned_there c.requires c.loop-l.invariant c.loop-l-test.true

pub used-k-requires : goal.used-k-requires
used-k-requires c =
    (turned_row c.requires c.loop-l.invariant c.loop-l-test.true _ c.wide-r.ensures.0).row.there

pub loop-l-preserved : goal.loop-l-preserved
loop-l-preserved c =
    turned_on c.requires c.loop-l.invariant c.loop-l-test.true _ c.wide-r.ensures.0 _ _
    c.position.ensures c.used-k.ensures.0

pub shape_of-rows : goal.shape_of-rows
shape_of-rows c = c.loop-l.invariant.positions.long

pub returns : goal.returns
returns c = turned_done c.loop-l.invariant (omega arith)
