-- The length of a file. The loop's invariant: what the values so far are written to, with the byte behind each.
use Prim.Native.Nat.{◌+◌, ◌*◌, ◌≤◌}
use mathlib.Core.Path.{◌≡◌}
use lib.ListN.{take}
use Rattle.codec.specs.Scanning.{names_size}
use Rattle.codec.proofs.RowStores.{text_width}
use Rattle.codec.proofs.measure.Given as goal

abbrev pub invariant-loop-v : goal.invariant-loop-v
invariant-loop-v l = (l.sum ≤ names_size + 6 * l.v-index) × (l.sum ≡ names_size + text_width (take l.v-index l.xs))
