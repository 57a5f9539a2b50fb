-- `inner_base`: the loop passes one use more each turn.
use mathlib.Core.Path.{◌≡◌}
use Rattle.copies.specs.Copies.{inner_base}
use Rattle.copies.proofs.inner_base.Given as goal

abbrev pub invariant-loop-i : goal.invariant-loop-i
invariant-loop-i l = l.b ≡ inner_base l.show.rows.now l.show.index.now l.z.block l.z.base l.i
