-- `row_behind`: the rows of the uses turned into their positions, and these copied.
use native.Mathlib.Omega.{arith}
use mathlib.Core.Path.{refl, sym}
use lib.Seq.{length-take-le}
use Rattle.answers.proofs.RowsBehind.{row-none, stands-down, path-few, row-stands}
use Rattle.answers.proofs.Cues.row_behind.Goals as goal

pub returns-in_default : goal.returns-in_default
returns-in_default c = row-none _ _ _ _ (c.in_default.ensures.0)

pub positions-requires : goal.positions-requires
positions-requires c = stands-down c.in-Some.ensures.0.1

pub slice_bounds-copy-end : goal.slice_bounds-copy-end
slice_bounds-copy-end c =
    sym (length-take-le c.in-Some.at.depth c.positions.new.rows (omega (arith, (stands-down c.in-Some.ensures.0.1).long, c.positions.ensures.long)))

pub copy-requires : goal.copy-requires
copy-requires c = omega (arith, path-few c.in-Some.ensures.0.1 _ c.positions.ensures, c.requires)

pub overflow_cast-result : goal.overflow_cast-result
overflow_cast-result c = omega (arith, (stands-down c.in-Some.ensures.0.1).deep)

pub returns : goal.returns
returns c = row-stands c.in-Some.ensures.0.1 _ c.positions.ensures _ _ _ refl c.copy.ensures
