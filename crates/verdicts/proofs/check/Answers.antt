-- `verdicts::check` meets its contract.
use Rattle.verdicts.proofs.Checking.{pass_asks, checked_of}
use Rattle.verdicts.proofs.check.Goals as goal

pub pass-passed-requires : goal.pass-passed-requires
pass-passed-requires c = pass_asks _ _ _ c.rows_in-n.ensures c.requires

pub returns : goal.returns
returns c = checked_of _ _ _ _ _ c.rows_in-n.ensures c.pass-passed.ensures c.judge.ensures
