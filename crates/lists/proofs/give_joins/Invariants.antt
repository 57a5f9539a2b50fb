-- `give_joins`: the loop gives the next cue each turn, and the cue rises.
use Prim.Native.Nat.{◌-◌}
use lib.ListN.{length}
use Rattle.lists.specs.Joins.{JoinsGoing}
use Rattle.lists.proofs.give_joins.Given as goal

abbrev pub invariant-loop-x : goal.invariant-loop-x
invariant-loop-x l = JoinsGoing l.q l.flags (length l.flags) l.met l.last l.initial.page 0 l.page l.g

abbrev pub decreases-loop-x : goal.decreases-loop-x
decreases-loop-x l = 4294967296 - l.last
