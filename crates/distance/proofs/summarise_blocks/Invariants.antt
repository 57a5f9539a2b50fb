-- `distance::summarise_blocks` meets its contract. The invariant: the summaries of the blocks passed stand in the work area, and behind them what was there.
use Rattle.std.proofs.Common.{◌≡◌}
use Rattle.model.specs.Blocks.{blocks_of}
use Rattle.distance.proofs.Area.{area}
use Rattle.distance.proofs.summarise_blocks.Given as goal

abbrev pub invariant-loop-k : goal.invariant-loop-k
invariant-loop-k l = l.work ≡ area (blocks_of l.show.rows.now) l.initial.work l.k
