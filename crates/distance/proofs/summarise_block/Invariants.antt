-- `distance::summarise_block` meets its contract. The invariant: the rows passed are filled, and the summaries of the lower blocks stay.
use Rattle.std.proofs.Common.{◌+◌, ◌*◌, ◌≤◌, length}
use Rattle.model.specs.Limits.{summary_size}
use Rattle.model.specs.Blocks.{blocks_of}
use Rattle.distance.specs.Summaries.{PartFilled, Below}
use Rattle.distance.proofs.summarise_block.Given as goal

abbrev pub invariant-loop-i : goal.invariant-loop-i
invariant-loop-i l =
    (summary_size * l.k + summary_size ≤ length l.initial.work) × Below (blocks_of l.show.rows.now) l.k l.work × PartFilled (blocks_of l.show.rows.now) l.k l.i l.initial.work l.work
