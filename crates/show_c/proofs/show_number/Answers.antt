-- `show_c::show_number` meets its contract.
use borrow.Author.Rules.{rules}
use mathlib.Core.Path.{refl}
use Rattle.std.specs.Prelude.{Ok, Err}
use Rattle.model.specs.Answers.{of_number}
use Rattle.show_c.proofs.Telling.{tell_short, tell, told-refused, told-value}
use Rattle.show_c.proofs.show_number.Goals as goal

pub returns-then-given-lt-GIVEN_SIZE : goal.returns-then-given-lt-GIVEN_SIZE
returns-then-given-lt-GIVEN_SIZE c = tell_short _ _ _ _ (search rules) (search rules)

pub returns-in-Ok : goal.returns-in-Ok
unfolding of_number
returns-in-Ok c =
    let asked = c.number in
    tell _ _ _ _ _ _ (search rules) asked.ensures
    (told-value of_number asked.result (Ok _) _ _ _ _ c.tell.ensures refl (search rules))

pub returns-in-Err : goal.returns-in-Err
unfolding of_number
returns-in-Err c =
    let asked = c.number in
    tell _ _ _ _ _ _ (search rules) asked.ensures
    (told-refused of_number asked.result (Err _) _ _ _ _ (search rules) c.refused.ensures (search rules) refl (search rules))
