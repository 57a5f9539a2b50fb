-- `own`: a value of the row that opens the block.
use Rattle.verdicts.specs.Passing.{own_at}
use Rattle.verdicts.proofs.Blocks.own.Goals as goal

pub returns : goal.returns
unfolding own_at
returns c = cc
