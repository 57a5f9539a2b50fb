-- `answer_with`: no record is made yet.
use native.Mathlib.Omega.{arith}
use lib.ListN.{length-replicate}
use Rattle.neighbours.proofs.Tables.{table-begin}
use Rattle.lists.proofs.answer_with.Goals as goal

pub whole_as_slice-answer_by : goal.whole_as_slice-answer_by
whole_as_slice-answer_by g c = omega (arith, c.requires)

pub answer_by-requires : goal.answer_by-requires
answer_by-requires g c = let pre = c.requires in (pre.0, rw length-replicate pre.1, table-begin _ _ g.row.BYTES)
