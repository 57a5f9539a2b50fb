-- `walk`: each turn ends in the copy or goes on into a part of it, of a lower block.
use Prim.Native.Nat.{ℕ}
use mathlib.Core.Path.{◌≡◌}
use lib.ListN.{length}
use Rattle.behind.specs.Ways.{MayWalk, Reaches}
use Rattle.behind.proofs.walk.Given as goal

abbrev pub invariant-loop-lead : goal.invariant-loop-lead
invariant-loop-lead l =
    (length l.rows ≡ length l.initial.rows) × MayWalk l.show.rows.now l.table.levels l.rows l.d l.c
    × ((s v : ℕ) → Reaches l.show.rows.now l.show.index.now l.initial.rows s v l.initial.d l.initial.c
    → Reaches l.show.rows.now l.show.index.now l.rows s v l.d l.c)

abbrev pub decreases-loop-lead : goal.decreases-loop-lead
decreases-loop-lead l = l.c.block
