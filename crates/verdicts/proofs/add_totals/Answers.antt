-- `verdicts::add_totals` meets its contract.
use Rattle.verdicts.proofs.Steps.{capped_min}
use Rattle.verdicts.proofs.add_totals.Goals as goal

pub returns : goal.returns
returns c = capped_min _ _ _ c.saturating_add.ensures c.min.ensures
