-- `show::read` meets its contract.
use borrow.Author.Rules.{rules}
use Rattle.std.proofs.lemmas.Result.{err_from_is_err_and}
use Rattle.model.specs.Questions.{read_asked}
use Rattle.loading.proofs.Outcomes.{rows-room, part-loaded}
use Rattle.show.proofs.Reading.{read-loaded, read-unloaded}
use Rattle.show.proofs.read.Goals as goal

pub slice_bounds-show-end : goal.slice_bounds-show-end
unfolding read_asked
slice_bounds-show-end c = let e = c.in_ok-end.was in search (rows-room, rules)

pub invariant_of-show : goal.invariant_of-show
unfolding read_asked
invariant_of-show c = let e = c.in_ok-end.was in record { loaded = search (part-loaded, rules) }

pub returns : goal.returns
unfolding read_asked
returns c = let e = c.in_ok-end.was in search (read-loaded, rules)

pub returns-in_err-end : goal.returns-in_err-end
unfolding read_asked
returns-in_err-end c =
    let p = err_from_is_err_and c.from_residual.result c.from_residual.ensures.1 in
    let e = c.in_err-end.was in
    rw (p.1, p.2) (search (read-unloaded, rules))
