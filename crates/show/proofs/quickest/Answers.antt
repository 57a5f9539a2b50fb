-- `show::quickest`: what is answered of a loaded show, and the refusal of rows that are none.
use borrow.Author.Rules.{rules}
use Rattle.std.proofs.lemmas.Result.{err_from_is_err_and}
use Rattle.model.specs.Questions.{quickest_asked}
use Rattle.loading.proofs.Checked.{asked_yes}
use Rattle.show.proofs.Timing.{quickest-no}
use Rattle.show.proofs.quickest.Goals as goal

pub returns : goal.returns
unfolding quickest_asked
returns c = search (asked_yes, rules)

pub returns-in_err-check : goal.returns-in_err-check
unfolding quickest_asked
returns-in_err-check c =
    let p = err_from_is_err_and c.from_residual.result c.from_residual.ensures.1 in
    let e = c.in_err-check.was in
    rw (p.1, p.2) (search (quickest-no, rules))
