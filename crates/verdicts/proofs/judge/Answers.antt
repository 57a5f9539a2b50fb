-- `verdicts::judge` meets its contract.
use mathlib.Core.Path.{refl, ap}
use Rattle.std.specs.Prelude.{Err}
use Rattle.basics.proofs.Choices.{eq_yes}
use Rattle.model.specs.Verdicts.{refused, refusal}
use Rattle.verdicts.specs.Passing.{judged}
use Rattle.verdicts.proofs.Checking.{judged_fault, judged_ends, judged_totals, judged_fine}
use Rattle.verdicts.proofs.judge.Goals as goal

pub returns-then-n-eq0 : goal.returns-then-n-eq0
unfolding judged refused refusal
returns-then-n-eq0 c = eq_yes _ _ _ _ _ c.if-n-eq0.true (ap Err c.new.ensures)

pub returns-in-Err : goal.returns-in-Err
unfolding refused refusal
returns-in-Err c = judged_fault _ _ _ c.if-n-eq0.false _ _ _ _ c.in-Err.is c.from.ensures (ap Err c.new-in-Err.ensures)

pub returns-in-Some : goal.returns-in-Some
unfolding refused refusal
returns-in-Some c = judged_ends _ _ _ c.if-n-eq0.false _ _ _ c.in-Ok.is _ c.in-Some.ensures.number c.in-Some.ensures.some (ap Err c.new-in-Some.ensures)

pub returns-in-Some-first_failing : goal.returns-in-Some-first_failing
unfolding refused refusal
returns-in-Some-first_failing c =
    judged_totals _ _ _ c.if-n-eq0.false _ _ _ c.in-Ok.is 0 c.in_default.ensures.number refl _ c.in-Some-first_failing.ensures.number c.in-Some-first_failing.ensures.some
    (ap Err c.new-in-Some-first_failing.ensures)

pub returns : goal.returns
returns c =
    judged_fine _ _ _ c.if-n-eq0.false _ _ _ c.in-Ok.is 0 c.in_default.ensures.number refl 0 (c.in_default-first_failing).ensures.number refl refl
