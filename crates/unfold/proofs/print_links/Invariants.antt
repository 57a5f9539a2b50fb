-- The next part may be asked for.
use Rattle.std.proofs.Common.{◌≡◌, length}
use Rattle.model.specs.Blocks.{blocks_of}
use Rattle.printed.specs.Parts.{Stands, left}
use Rattle.unfold.proofs.print_links.Given as goal

abbrev pub invariant-loop-marks : goal.invariant-loop-marks
invariant-loop-marks g l = Stands (blocks_of l.show.rows.now) l.marks l.from l.place × (length l.out ≡ 65536)

abbrev pub decreases-loop-marks : goal.decreases-loop-marks
decreases-loop-marks g l = left l.from l.place
