-- `verdicts::index_open` meets its contract.
use Rattle.verdicts.specs.Passing.{open_indexed}
use Rattle.verdicts.proofs.index_open.Goals as goal

pub returns : goal.returns
unfolding open_indexed
returns c = cc
