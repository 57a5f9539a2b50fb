-- `loading::load_desk_rows`: rows behind the built-in table are checked with it, and accepted rows are loaded.
use Rattle.std.proofs.Common.{rules}
use Rattle.std.proofs.lemmas.Result.{err_from_is_err_and}
use Rattle.loading.proofs.Checked.{refused-few, mapped_yes, mapped_no}
use Rattle.loading.proofs.DeskRows.{desk_room, desk_unopened, desk_accepted, desk_refused, refused-own}
use Rattle.loading.proofs.load_desk_rows.Goals as goal

pub opens_first-opens-requires : goal.opens_first-opens-requires
opens_first-opens-requires c = search (desk_room, rules)

pub returns-then-not-opens : goal.returns-then-not-opens
returns-then-not-opens c = search (desk_unopened, rules)

pub map_err-requires : goal.map_err-requires
map_err-requires c = search (refused-few, refused-own, rules)

pub returns-in_err-map_err : goal.returns-in_err-map_err
returns-in_err-map_err c =
    let p = err_from_is_err_and c.from_residual.result c.from_residual.ensures.1 in
    let q = mapped_no _ _ _ _ c.map_err.ensures.cases c.in_err-map_err.was in
    rw (p.1, p.2) (search (desk_refused, rules))

pub returns : goal.returns
returns c =
    let yes = mapped_yes _ _ c.map_err.ensures.variant c.in_ok-map_err.was in
    search (desk_accepted, rules)
