-- `show_c::tell_read` meets its contract.
use borrow.Author.Rules.{rules}
use mathlib.Core.Path.{refl}
use Rattle.std.specs.Prelude.{Ok, Err}
use Rattle.model.specs.Answers.{of_read}
use Rattle.show_c.proofs.Telling.{told-refused, told-value}
use Rattle.show_c.proofs.tell_read.Goals as goal

pub returns-in-Ok : goal.returns-in-Ok
unfolding of_read
returns-in-Ok c =
    let answer = c.args.answer in
    told-value of_read answer (Ok _) _ _ _ _ c.tell.ensures refl (search rules)

pub returns-in-Err : goal.returns-in-Err
unfolding of_read
returns-in-Err c =
    let answer = c.args.answer in
    told-refused of_read answer (Err _) _ _ _ _ (search rules) c.refused.ensures (search rules) refl (search rules)
