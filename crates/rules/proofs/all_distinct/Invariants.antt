-- Each number is compared with those before it. The loop's invariant: the first i are distinct.
use mathlib.Core.Path.{◌≡◌}
use mathlib.Core.Bool.{true}
use lib.ListN.{take}
use Rattle.model.specs.Rules.{distinct}
use Rattle.rules.proofs.all_distinct.Given as goal

abbrev pub invariant-loop-i : goal.invariant-loop-i
invariant-loop-i l = distinct (take l.i l.named) ≡ true
