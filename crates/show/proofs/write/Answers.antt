-- `show::write`: what is answered of accepted rows, and the refusal of rows that are none.
use borrow.Author.Rules.{rules}
use Rattle.std.proofs.lemmas.Result.{err_from_is_err_and}
use Rattle.model.specs.Answers.{of_write}
use Rattle.model.specs.Questions.{refuse, write_asked}
use Rattle.loading.proofs.Checked.{said-yes, asked_yes, asked_no}
use Rattle.show.proofs.write.Goals as goal

pub write_rows-requires : goal.write_rows-requires
unfolding write_asked of_write refuse
write_rows-requires c = search (said-yes, rules)

pub returns : goal.returns
unfolding write_asked of_write refuse
returns c = search (asked_yes, rules)

pub returns-in_err-check : goal.returns-in_err-check
unfolding write_asked of_write refuse
returns-in_err-check c =
    let p = err_from_is_err_and c.from_residual.result c.from_residual.ensures.1 in
    let e = c.in_err-check.was in
    rw (p.1, p.2) (search (asked_no, rules))
