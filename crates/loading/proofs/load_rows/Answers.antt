-- `loading::load_rows`: rows are checked, and accepted rows are loaded.
use Rattle.std.proofs.Common.{rules, refl}
use Rattle.std.proofs.lemmas.Result.{err_from_is_err_and}
use Rattle.loading.proofs.Checked.{refused-few, rows-loaded, rows-refused, mapped_yes, mapped_no}
use Rattle.loading.proofs.load_rows.Goals as goal

pub map_err-requires : goal.map_err-requires
map_err-requires c = search (refused-few, rules)

pub returns-in_err-map_err : goal.returns-in_err-map_err
returns-in_err-map_err c =
    let p = err_from_is_err_and c.from_residual.result c.from_residual.ensures.1 in
    let q = mapped_no _ _ _ _ c.map_err.ensures.cases c.in_err-map_err.was in
    rw (p.1, p.2) (rows-refused _ _ _ c.check.ensures _ _ q.1 q.2)

pub returns : goal.returns
returns c = rows-loaded _ _ _ c.check.ensures _ (mapped_yes _ _ c.map_err.ensures.variant c.in_ok-map_err.was) refl
