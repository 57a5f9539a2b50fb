-- `number_copy` and `number_uses` call each other, and the block number falls from a copy to the next.
use Prim.Native.Nat.{◌+◌, ◌*◌}
use Rattle.paths.proofs.Numbers.{Steps}
use Rattle.paths.proofs.+number_copy_number_uses.Given as goal

abbrev pub decreases-number_copy : goal.decreases-number_copy
decreases-number_copy l = 2 * l.k + 1

abbrev pub decreases-number_uses : goal.decreases-number_uses
decreases-number_uses l = 2 * l.k

abbrev pub invariant-number_uses-loop-r : goal.invariant-number_uses-loop-r
invariant-number_uses-loop-r l = Steps l.show.rows.now l.show.index.now l.k l.base l.first l.end l.p l.step l.at l.r l.b
