-- `quickest_under`: the wait file first, then the search.
use borrow.Author.Rules.{rules}
use Rattle.std.proofs.lemmas.Result.{err_from_is_err_and}
use Rattle.model.specs.Waits.{no_waits}
use Rattle.answers.proofs.Sums.{read-fit, under_lawful, under_unfit}
use Rattle.answers.proofs.Cues.quickest_under.Goals as goal

pub read-requires : goal.read-requires
unfolding no_waits
read-requires c = search rules

pub quickest_with-requires : goal.quickest_with-requires
quickest_with-requires c = let e = c.in_ok-read.was in search (read-fit, rules)

pub returns-in_err-read : goal.returns-in_err-read
returns-in_err-read c =
    let p = err_from_is_err_and c.from_residual.result c.from_residual.ensures.1 in
    let e = c.in_err-read.was in
    rw (p.1, p.2) (search (under_unfit, rules))

pub returns : goal.returns
returns c = let e = c.in_ok-read.was in search (under_lawful, rules)
