-- `joins`: a value of the row that opens the block.
use Rattle.verdicts.specs.Passing.{joins_at}
use Rattle.verdicts.proofs.Blocks.joins.Goals as goal

pub returns : goal.returns
unfolding joins_at
returns c = cc
