-- `verdicts::next_state` meets its contract.
use native.Mathlib.Omega.{arith}
use mathlib.Core.Path.{ap, sym, ◌∙◌}
use mathlib.Core.Logic.{inl, inr}
use Rattle.rules.specs.Numbers.{kind_number}
use Rattle.verdicts.specs.Passing.{carried}
use Rattle.verdicts.proofs.Steps.{next-open, next-other}
use Rattle.verdicts.proofs.next_state.Goals as goal

pub returns-in-Opening : goal.returns-in-Opening
returns-in-Opening c = next-open _ _ (carried c.args.s) _ _ _ _ c.kind_number.ensures (c.kind_number.ensures ∙ sym c.requires.0 ∙ ap kind_number c.in-Opening.is) c.own.ensures c.label.ensures c.cues_of.ensures

pub returns-in-Link : goal.returns-in-Link
returns-in-Link c = next-other _ _ (carried c.args.s) _ c.kind_number-in-Link.ensures (λ y. let z = sym (c.kind_number-in-Link.ensures ∙ sym c.requires.0) ∙ y in elim c.in-Link.is [ inl e ↦ omega (arith, ap kind_number e, z) | inr e ↦ omega (arith, ap kind_number e, z) ])
