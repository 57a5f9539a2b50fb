-- `verdicts::index_row` meets its contract.
use native.Mathlib.Omega.{arith}
use mathlib.Core.Path.{ap}
use Rattle.basics.proofs.Choices.{eq_yes, eq_no}
use Rattle.rules.specs.Numbers.{kind_number}
use Rattle.verdicts.specs.Passing.{row_indexed}
use Rattle.verdicts.proofs.index_row.Goals as goal

pub returns-in-Opening : goal.returns-in-Opening
unfolding row_indexed
returns-in-Opening c = eq_yes _ _ _ _ _ (ap kind_number c.in-Opening.is) (cc)

pub returns-in-Link : goal.returns-in-Link
unfolding row_indexed
returns-in-Link c = eq_no _ _ _ _ _ (λ e. omega (arith, ap kind_number c.in-Link.is, e)) (eq_yes _ _ _ _ _ (ap kind_number c.in-Link.is) (cc))

pub returns-in-Use : goal.returns-in-Use
unfolding row_indexed
returns-in-Use c =
    eq_no _ _ _ _ _ (λ e. omega (arith, ap kind_number c.in-Use.is, e)) (eq_no _ _ _ _ _ (λ e. omega (arith, ap kind_number c.in-Use.is, e)) (cc))
