-- `passes` meets its contract.
use native.Mathlib.Omega.{arith}
use mathlib.Core.Path.{ap}
use Rattle.model.specs.Limits.{max_total}
use Rattle.basics.proofs.Choices.{eq_yes, eq_no}
use Rattle.verdicts.specs.Passing.{passes_at, fits_at, check_number}
use Rattle.verdicts.proofs.Steps.{le_bool}
use Rattle.verdicts.proofs.Blocks.passes.Goals as goal

pub returns-in-Ends : goal.returns-in-Ends
unfolding passes_at
returns-in-Ends c = eq_yes _ _ _ _ _ (ap check_number c.in-Ends.is) c.stands.ensures

pub returns-in-Total : goal.returns-in-Total
unfolding passes_at fits_at
returns-in-Total c = eq_no _ _ _ _ _ (λ e. omega (arith, ap check_number c.in-Total.is, e)) (le_bool max_total _ _ c.indexed.ensures)
