-- `show_c::tell_page` meets its contract.
use borrow.Author.Rules.{rules}
use mathlib.Core.Path.{refl}
use Rattle.std.specs.Prelude.{Err}
use Rattle.model.specs.Answers.{of_list}
use Rattle.show_c.proofs.Telling.{told-refused, told-page}
use Rattle.show_c.proofs.tell_page.Goals as goal

pub returns-in-Ok : goal.returns-in-Ok
returns-in-Ok c = told-page _ _ _ _ _ _ c.from.ensures c.tell.ensures (search rules)

pub returns-in-Err : goal.returns-in-Err
unfolding of_list
returns-in-Err c =
    let answer = c.args.answer in
    told-refused of_list answer (Err _) _ _ _ _ (search rules) c.refused.ensures (search rules) refl (search rules)
