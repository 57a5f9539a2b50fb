-- `loading::load`: what the codec parsed is what the model reads.
use borrow.Author.Rules.{rules}
use Rattle.std.proofs.lemmas.Result.{err_from_is_err_and}
use Rattle.loading.proofs.Files.{file-unread, file-many, file-loaded}
use Rattle.loading.proofs.load.Goals as goal

pub returns-in_err-many : goal.returns-in_err-many
returns-in_err-many c =
    let p = err_from_is_err_and c.from_residual.result c.from_residual.ensures.1 in
    let e = c.in_err-many.was in
    rw (p.1, p.2) (search (file-unread, rules))

pub returns-then-many-gt-MAX_ROWS : goal.returns-then-many-gt-MAX_ROWS
returns-then-many-gt-MAX_ROWS c = let e = c.in_ok-many.was in search (file-many, rules)

pub returns : goal.returns
returns c = let e = c.in_ok-many.was in search (file-loaded, rules)
