-- `show_c::show_row` meets its contract.
use borrow.Author.Rules.{rules}
use mathlib.Core.Path.{refl}
use Rattle.std.specs.Prelude.{Ok, Err}
use Rattle.model.specs.Answers.{of_row}
use Rattle.show_c.proofs.Telling.{wrote_short, wrote, told-refused, told-value}
use Rattle.show_c.proofs.show_row.Goals as goal

pub returns-then-given-lt-GIVEN_SIZE : goal.returns-then-given-lt-GIVEN_SIZE
returns-then-given-lt-GIVEN_SIZE c = wrote_short _ _ _ _ _ (search rules) (search rules)

pub returns-in-Ok : goal.returns-in-Ok
unfolding of_row
returns-in-Ok c =
    let asked = c.row in
    wrote _ _ _ _ _ _ _ _ (search rules) asked.ensures
    (told-value of_row asked.result (Ok _) _ _ _ _ c.tell.ensures refl (search rules))

pub returns-in-Err : goal.returns-in-Err
unfolding of_row
returns-in-Err c =
    let asked = c.row in
    wrote _ _ _ _ _ _ _ _ (search rules) asked.ensures
    (told-refused of_row asked.result (Err _) _ _ _ _ (search rules) c.refused.ensures (search rules) refl (search rules))
