-- `show_c::show_quickest` meets its contract.
use borrow.Author.Rules.{rules}
use mathlib.Core.Path.{refl}
use Rattle.std.specs.Prelude.{Ok, None}
use Rattle.model.specs.Answers.{halves, of_quickest}
use Rattle.show_c.proofs.Telling.{wrote_short, wrote, told-value, told-tenths, told-placed}
use Rattle.show_c.proofs.show_quickest.Goals as goal

pub returns-then-given-lt-GIVEN_SIZE : goal.returns-then-given-lt-GIVEN_SIZE
returns-then-given-lt-GIVEN_SIZE c = wrote_short _ _ _ _ _ (search rules) (search rules)

-- t is the place behind the telling.
pub returns-in-Ok-Some : goal.returns-in-Ok-Some
returns-in-Ok-Some c =
    let asked = c.quickest in
    wrote _ _ _ _ _ _ _ _ (search rules) asked.ensures
    (told-tenths asked.result c.in-Ok-Some.n _ _ _ _ _ c.tell.ensures (search rules) (search rules) (search rules))

pub returns-in-Ok-None : goal.returns-in-Ok-None
unfolding of_quickest halves
returns-in-Ok-None c =
    let asked = c.quickest in
    wrote _ _ _ _ _ _ _ _ (search rules) asked.ensures
    (told-value of_quickest asked.result (Ok None) _ _ _ _ c.tell-in-Ok-None.ensures refl (search rules))

pub returns-in-Err : goal.returns-in-Err
returns-in-Err c =
    let asked = c.quickest in
    wrote _ _ _ _ _ _ _ _ (search rules) asked.ensures
    (told-placed _ _ _ _ _ (search rules) c.refused_at.ensures (search rules))
