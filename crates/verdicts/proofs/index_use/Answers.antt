-- `verdicts::index_use` meets its contract.
use Rattle.verdicts.specs.Passing.{use_indexed}
use Rattle.verdicts.proofs.index_use.Goals as goal

pub returns : goal.returns
unfolding use_indexed
returns c = cc
