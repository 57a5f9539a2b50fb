-- `loading::load_desk`: what the codec parsed stands behind the built-in table.
use borrow.Author.Rules.{rules}
use Rattle.std.proofs.lemmas.Result.{err_from_is_err_and}
use Prim.Native.Nat.{◌+◌, ◌≤◌}
use Rattle.model.specs.Limits.{max_rows, desk_rows}
use Rattle.desk.proofs.Own.{fits-few}
use Rattle.loading.proofs.DeskFiles.{desk_unread, desk_unfit, desk_behind, desk_loaded}
use Rattle.loading.proofs.load_desk.Goals as goal

pub returns-then-not-fits : goal.returns-then-not-fits
returns-then-not-fits c = let e = c.in_ok-many.was in search (desk_unfit, rules)

pub overflow_add-end : goal.overflow_add-end
overflow_add-end c =
    let few : desk_rows + c.in_ok-many.many ≤ max_rows = search (fits-few, rules) in
    search rules

pub overflow_mul-end : goal.overflow_mul-end
overflow_mul-end c =
    let few : desk_rows + c.in_ok-many.many ≤ max_rows = search (fits-few, rules) in
    search rules

pub slice_bounds-load_desk_rows-end : goal.slice_bounds-load_desk_rows-end
slice_bounds-load_desk_rows-end c =
    let few : desk_rows + c.in_ok-many.many ≤ max_rows = search (fits-few, rules) in
    search rules

pub load_desk_rows-requires : goal.load_desk_rows-requires
load_desk_rows-requires c = let e = c.in_ok-many.was in search (desk_behind, rules)

pub returns-in_err-many : goal.returns-in_err-many
returns-in_err-many c =
    let p = err_from_is_err_and c.from_residual.result c.from_residual.ensures.1 in
    let e = c.in_err-many.was in
    rw (p.1, p.2) (search (desk_unread, rules))

pub returns : goal.returns
returns c = let e = c.in_ok-many.was in search (desk_loaded, rules)
