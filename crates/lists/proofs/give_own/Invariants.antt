-- `give_own`: the loop gives one own cue more each turn, or passes a byte without bits.
use Prim.Native.Nat.{◌+◌, ◌-◌, ◌≤◌}
use mathlib.Core.Path.{◌≡◌}
use lib.ListN.{length}
use Rattle.neighbours.specs.Records.{bits_at}
use Rattle.lists.specs.Pages.{Gives}
use Rattle.lists.specs.Walks.{own_list}
use Rattle.lists.proofs.give_own.Given as goal

abbrev pub invariant-loop-d : goal.invariant-loop-d
invariant-loop-d l =
    (1 ≤ l.d) × (l.d ≤ l.own + 1) × (l.g ≤ l.q.room + 1) × (length l.page ≡ length l.initial.page) × Gives l.q.room l.initial.page l.w (own_list l.q l.s bits_at l.base (l.d - 1)) l.page l.g

abbrev pub decreases-loop-d : goal.decreases-loop-d
decreases-loop-d l = l.own + 1 - l.d
