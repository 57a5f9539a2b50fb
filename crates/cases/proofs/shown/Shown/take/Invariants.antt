-- So many numbers were stored.
use Rattle.std.proofs.Common.{◌≡◌, length}
use Rattle.cases.proofs.shown.Shown.take.Given as goal

abbrev pub invariant-loop-place : goal.invariant-loop-place
invariant-loop-place l =
    (goal.iterator-loop-place).can_next l.place-iterator ×
    (goal.iterator-loop-place).is_finite l.place-iterator ×
    (l.many ≡ length l.yielded)
