-- `show_c::show_fewest` meets its contract.
use borrow.Author.Rules.{rules}
use mathlib.Core.Path.{refl}
use Rattle.std.specs.Prelude.{Ok, Err, Some, None}
use Rattle.model.specs.Answers.{of_fewest}
use Rattle.show_c.proofs.Telling.{wrote_short, wrote, told-refused, told-value}
use Rattle.show_c.proofs.show_fewest.Goals as goal

pub returns-then-given-lt-GIVEN_SIZE : goal.returns-then-given-lt-GIVEN_SIZE
returns-then-given-lt-GIVEN_SIZE c = wrote_short _ _ _ _ _ (search rules) (search rules)

pub returns-in-Ok-Some : goal.returns-in-Ok-Some
unfolding of_fewest
returns-in-Ok-Some c =
    let asked = c.fewest in
    wrote _ _ _ _ _ _ _ _ (search rules) asked.ensures
    (told-value of_fewest asked.result (Ok (Some _)) _ _ _ _ c.tell.ensures refl (search rules))

pub returns-in-Ok-None : goal.returns-in-Ok-None
unfolding of_fewest
returns-in-Ok-None c =
    let asked = c.fewest in
    wrote _ _ _ _ _ _ _ _ (search rules) asked.ensures
    (told-value of_fewest asked.result (Ok None) _ _ _ _ c.tell-in-Ok-None.ensures refl (search rules))

pub returns-in-Err : goal.returns-in-Err
unfolding of_fewest
returns-in-Err c =
    let asked = c.fewest in
    wrote _ _ _ _ _ _ _ _ (search rules) asked.ensures
    (told-refused of_fewest asked.result (Err _) _ _ _ _ (search rules) c.refused.ensures (search rules) refl (search rules))
