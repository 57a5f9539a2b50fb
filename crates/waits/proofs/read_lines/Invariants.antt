-- The lines of a wait file. The loop's invariant: the pass at the place, and the lengths of what is lent.
use Prim.Native.Nat.{◌-◌}
use mathlib.Core.Path.{◌≡◌}
use lib.ListN.{length}
use Rattle.waits.proofs.Passing.{Passed}
use Rattle.waits.proofs.read_lines.Given as goal

abbrev pub invariant-loop-at : goal.invariant-loop-at
invariant-loop-at l = (length l.row ≡ 2) × (length l.waits ≡ length l.initial.waits) × Passed l.file l.at l.seen l.waits

abbrev pub decreases-loop-at : goal.decreases-loop-at
decreases-loop-at l = length l.file - l.at
