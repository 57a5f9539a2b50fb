-- `locate_copy` and `locate_uses` call each other, and the block number falls from a copy to the next.
use Prim.Native.Nat.{◌+◌, ◌*◌}
use mathlib.Core.Path.{◌≡◌}
use Rattle.paths.proofs.Locating.{Rest}
use Rattle.paths.proofs.+locate_copy_locate_uses.Given as goal

abbrev pub decreases-locate_copy : goal.decreases-locate_copy
decreases-locate_copy l = 2 * l.k + 1

abbrev pub decreases-locate_uses : goal.decreases-locate_uses
decreases-locate_uses l = 2 * l.k

abbrev pub invariant-locate_uses-loop-r : goal.invariant-locate_uses-loop-r
invariant-locate_uses-loop-r l = Rest l.show.rows.now l.show.index.now l.k l.n l.initial.r l.r-end l.r l.rest × (l.rows ≡ l.initial.rows)
