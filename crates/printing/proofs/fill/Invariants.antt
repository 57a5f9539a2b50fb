-- `printing::fill` meets its contract. The loop's invariant: the lines of the places before the one come to are stored.
use mathlib.Core.Path.{◌≡◌}
use lib.ListN.{length}
use Rattle.printing.proofs.Filling.{Filling}
use Rattle.printing.proofs.fill.Given as goal

abbrev pub invariant-loop-place : goal.invariant-loop-place
invariant-loop-place l = (length l.out ≡ length l.initial.out) × Filling l.m l.u l.p l.e l.initial.out l.place l.used l.out
