-- The tests of a file's own rows are the model's checks.
use Prim.Native.Nat.{ℕ, ◌+◌, ◌-◌, ◌≤◌, ◌<◌}
use native.Mathlib.Omega.{arith}
use native.Mathlib.Decide.{ℕ_discrete, dec_lt}
use mathlib.Core.Path.{◌≡◌, sym, ◌∙◌}
use mathlib.Core.Bool.{Bool, true, false, false≢true}
use mathlib.Core.List.{List}
use Rattle.model.specs.Limits.{max_rows, desk_rows, desk_blocks}
use Rattle.model.specs.Rows.{Row, row_count}
use Rattle.model.specs.Verdicts.{refused, Accepted}
use Rattle.model.specs.Desk.{check_own, check_first}
use Rattle.basics.proofs.Choices.{lt_then, lt_else, eq_then, eq_else, passed-eq, passed-not_lt}
use Rattle.desk.specs.Own.{own_rows_fit, opens_first}

-- So many rows of its own fit.
pub fits-few : (n : ℕ) (t : Bool) → t ≡ own_rows_fit n → t ≡ true → desk_rows + n ≤ max_rows
unfolding own_rows_fit
fits-few n t q e =
    let (a, k) = passed-not_lt n 1 _ (sym q ∙ e) in
    let (b, z) = passed-not_lt (max_rows - desk_rows) n true k in
    omega arith

pub own-yes : (xs : List ℕ) (n : ℕ) → n ≡ row_count xs → own_rows_fit n ≡ true → check_own xs ≡ Accepted
unfolding check_own own_rows_fit
own-yes xs n e h =
    let (a, k) = passed-not_lt n 1 _ h in
    let (b, z) = passed-not_lt (max_rows - desk_rows) n true k in
    lt_else (row_count xs) 1 _ _ (omega arith) ∙ lt_else max_rows (desk_rows + row_count xs) _ _ (omega arith)

pub own-no : (xs : List ℕ) (n : ℕ) → n ≡ row_count xs → own_rows_fit n ≡ false → check_own xs ≡ refused 4 0
unfolding check_own own_rows_fit
own-no xs n e h = go (dec_lt n 1) (dec_lt (max_rows - desk_rows) n)
  where
    go : Dec (n < 1) → Dec (max_rows - desk_rows < n) → check_own xs ≡ refused 4 0
    go (yes a) b = lt_then (row_count xs) 1 _ _ (omega arith)
    go (no a) (yes b) = lt_else (row_count xs) 1 _ _ (omega arith) ∙ lt_then max_rows (desk_rows + row_count xs) _ _ (omega arith)
    go (no a) (no b) =
        absurd (false≢true (sym h ∙ lt_else n 1 _ _ (omega arith) ∙ lt_else (max_rows - desk_rows) n false true (omega arith)))

pub first-yes : (w : Row) → opens_first w ≡ true → check_first w ≡ Accepted
unfolding check_first opens_first
first-yes w h =
    let (a, k) = passed-eq w.kind 0 _ h in
    let (b, z) = passed-eq w.block desk_blocks true k in
    eq_then w.kind 0 _ _ a ∙ eq_then w.block desk_blocks _ _ b

pub first-no : (w : Row) → opens_first w ≡ false → check_first w ≡ refused 5 (desk_rows + 1)
unfolding check_first opens_first
first-no w h = go (ℕ_discrete w.kind 0) (ℕ_discrete w.block desk_blocks)
  where
    go : Dec (w.kind ≡ 0) → Dec (w.block ≡ desk_blocks) → check_first w ≡ refused 5 (desk_rows + 1)
    go (no a) b = eq_else w.kind 0 _ _ a
    go (yes a) (no b) = eq_then w.kind 0 _ _ a ∙ eq_else w.block desk_blocks _ _ b
    go (yes a) (yes b) = absurd (false≢true (sym h ∙ eq_then w.kind 0 _ _ a ∙ eq_then w.block desk_blocks true false b))
