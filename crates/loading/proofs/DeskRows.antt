-- Loading the second way: rows that stand behind the built-in table.
use Prim.Native.Nat.{ℕ, ◌+◌, ◌*◌, ◌≤◌, ◌<◌}
use native.Mathlib.Omega.{arith}
use mathlib.Core.Path.{◌≡◌, sym, ◌∙◌, ap}
use mathlib.Core.Bool.{Bool, true, false}
use mathlib.Core.List.{List}
use lib.ListN.{length}
use Rattle.std.specs.Prelude.{Err, Ok}
use Rattle.model.specs.Choice.{if_lt}
use Rattle.model.specs.Limits.{row_size, desk_rows}
use Rattle.model.specs.Rows.{row_at, row_count}
use Rattle.model.specs.Verdicts.{refusal, refused, and_then, verdict, Verdict, Accepted}
use Rattle.model.specs.Desk.{check_first, desk_verdict, by_own_line, in_own_lines}
use Rattle.model.specs.declared.Refusal.{Refusal}
use Rattle.shows.proofs.DeskTable.{with_length, with_row}
use Rattle.shows.proofs.Desk.{desk_length, own-place}
use Rattle.verdicts.specs.Passing.{IsChecked}
use Rattle.desk.specs.Own.{opens_first, own_numbers}
use Rattle.desk.proofs.Own.{first-yes, first-no}
use Rattle.loading.specs.Loads.{Loads, BehindTable, Loading}
use Rattle.loading.proofs.Checked.{said-yes, said-no, has-loaded}

-- There is a row behind the table, and it is the first of the file's own.
pub desk_room : (ys : List ℕ) → BehindTable ys → desk_rows * row_size + row_size ≤ length ys
unfolding row_count
desk_room ys b = omega (arith, desk_length (own_numbers ys) b.own, ap length b.all ∙ with_length (own_numbers ys))

first-own : (ys : List ℕ) → BehindTable ys → row_at ys desk_rows ≡ row_at (own_numbers ys) 0
first-own ys b = ap (λ (z : List ℕ). row_at z desk_rows) b.all ∙ with_row (own_numbers ys) 0

-- b is the test of that row.
module _ (ys t : List ℕ) (d : BehindTable ys) (b : Bool) (q : b ≡ opens_first (row_at ys desk_rows)) where
  tested : opens_first (row_at (own_numbers ys) 0) ≡ b
  tested = rw (← first-own ys d) (sym q)

  -- It does not open the first block behind the table's.
  pub desk_unopened : (r : Loading) → b ≡ false → r ≡ Err (record { number = 5; place = 2 }) → Loads (in_own_lines (desk_verdict (own_numbers ys))) ys r ys t
  unfolding Loads desk_verdict and_then refused in_own_lines by_own_line refusal if_lt
  desk_unopened r e z = rw (z, d.own, first-no (row_at (own_numbers ys) 0) (tested ∙ e))

  -- It does: then the verdict on all rows counts.
  first-opens : b ≡ true → check_first (row_at (own_numbers ys) 0) ≡ Accepted
  first-opens e = first-yes (row_at (own_numbers ys) 0) (tested ∙ e)

  opened : b ≡ true → desk_verdict (own_numbers ys) ≡ verdict ys
  unfolding desk_verdict and_then
  opened e = rw (d.own, first-opens e) (ap verdict (sym d.all))

  module _ (e : b ≡ true) (v : Verdict) (c : IsChecked ys t v) where
    pub desk_accepted : (n : ℕ) → v ≡ Accepted → n ≡ length ys → Loads (in_own_lines (desk_verdict (own_numbers ys))) ys (Ok n) ys t
    unfolding Loads in_own_lines
    desk_accepted n a m = has-loaded ys t v c (in_own_lines (desk_verdict (own_numbers ys))) n a (rw (opened e, said-yes ys t v c a)) m

    pub desk_refused : (f f' : Refusal) → v ≡ Err f → f' ≡ by_own_line f → Loads (in_own_lines (desk_verdict (own_numbers ys))) ys (Err f') ys t
    unfolding Loads in_own_lines
    desk_refused f f' a h = rw (opened e, said-no ys t v c f a, h)

    pub refused-own : (f : Refusal) → v ≡ Err f → 5 ≤ f.number → desk_rows < f.place
    refused-own f a = own-place (own_numbers ys) f d.own (first-opens e) (sym (ap verdict d.all) ∙ said-no ys t v c f a)
