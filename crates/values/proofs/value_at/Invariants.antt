-- A value at a place. The loop's invariant: what is left of the value behind its first n digits is the value.
use Prim.Native.Nat.{◌+◌, ◌-◌, ◌≤◌, ◌<◌}
use mathlib.Core.Path.{◌≡◌}
use lib.ListN.{length, drop}
use Rattle.model.specs.Limits.{max_digits}
use Rattle.model.specs.Values.{run}
use Rattle.values.specs.Fields.{value_at}
use Rattle.values.proofs.Fields.{value_rest, tens}
use Rattle.values.proofs.value_at.Given as goal

abbrev pub invariant-loop-d : goal.invariant-loop-d
invariant-loop-d l =
    (l.at + l.n ≤ length l.text) × (l.n ≤ max_digits) × (l.v < tens l.n)
    × (value_at l.text l.end l.at ≡ value_rest l.text l.end l.at l.n l.v (run (drop (l.at + l.n) l.text)))

abbrev pub decreases-loop-d : goal.decreases-loop-d
decreases-loop-d l = length l.text - (l.at + l.n)
