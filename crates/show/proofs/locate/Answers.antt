-- `show::locate`: what is answered of a loaded show, and the refusal of rows that are none.
use borrow.Author.Rules.{rules}
use Rattle.std.proofs.lemmas.Result.{err_from_is_err_and}
use Rattle.model.specs.Answers.{of_locate}
use Rattle.model.specs.Questions.{refuse, locate_asked}
use Rattle.loading.proofs.Checked.{asked_yes, asked_no}
use Rattle.show.proofs.locate.Goals as goal

pub returns : goal.returns
unfolding locate_asked of_locate refuse
returns c = search (asked_yes, rules)

pub returns-in_err-check : goal.returns-in_err-check
unfolding locate_asked of_locate refuse
returns-in_err-check c =
    let p = err_from_is_err_and c.from_residual.result c.from_residual.ensures.1 in
    let e = c.in_err-check.was in
    rw (p.1, p.2) (search (asked_no, rules))
