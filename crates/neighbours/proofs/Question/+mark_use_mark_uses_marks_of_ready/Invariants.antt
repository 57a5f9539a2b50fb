-- The record of a join is made from those of the joins below that meet it: the four functions call
-- each other, and the block number falls.
use Prim.Native.Nat.{◌+◌, ◌*◌, ◌-◌}
use Rattle.model.specs.Blocks.{blocks_of}
use Rattle.verdicts.specs.Index.{uses_from}
use Rattle.neighbours.specs.Near.{UsesStep}
use Rattle.neighbours.proofs.Question.+mark_use_mark_uses_marks_of_ready.Given as goal

abbrev pub decreases-mark_use : goal.decreases-mark_use
decreases-mark_use l = 4 * l.y.block

abbrev pub decreases-mark_uses : goal.decreases-mark_uses
decreases-mark_uses l = 4 * l.y.block + 1

abbrev pub decreases-marks_of : goal.decreases-marks_of
decreases-marks_of l = 4 * l.k + 2

abbrev pub decreases-ready : goal.decreases-ready
decreases-ready l = 4 * l.k + 3

abbrev pub invariant-mark_uses-loop-r : goal.invariant-mark_uses-loop-r
invariant-mark_uses-loop-r l =
    UsesStep l.self.ask (blocks_of l.self.show.rows.now) l.y.own l.y.cue (uses_from l.self.show.rows.now (blocks_of l.self.show.rows.now) l.initial.r (l.r - l.initial.r)) l.initial.m l.initial.s l.m l.s
