-- The walk of a copy and that of a use call each other; the block number falls.
use Prim.Native.Nat.{◌+◌, ◌*◌}
use Rattle.lists.specs.Walks.{UsesGoing}
use Rattle.lists.proofs.+enter_walk.Given as goal

abbrev pub decreases-enter : goal.decreases-enter
decreases-enter l = 2 * l.y.block

abbrev pub decreases-walk : goal.decreases-walk
decreases-walk l = 2 * l.y.block + 1

abbrev pub invariant-walk-loop-r : goal.invariant-walk-loop-r
invariant-walk-loop-r l =
    UsesGoing l.question.ask l.question.show.rows.now l.question.show.index.now l.y l.initial.page l.w l.r l.b l.page l.g
