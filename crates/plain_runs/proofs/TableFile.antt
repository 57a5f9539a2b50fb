-- The file of the rows that are generated is that of the built-in table.
use Prim.Native.Nat.{ℕ, ◌*◌, ◌≤◌, ◌/◌}
use mathlib.Core.Path.{◌≡◌, refl, ◌∙◌}
use mathlib.Core.List.{List, flat_map, append-nil}
use native.Mathlib.Omega.{arith}
use lib.ListN.{length, drop_of_length-le}
use Rattle.model.specs.Choice.{if_lt}
use Rattle.model.specs.Limits.{row_size, desk_rows}
use Rattle.model.specs.Values.{digits, digit_at}
use Rattle.model.specs.Text.{names, ends, line_text}
use Rattle.model.specs.Rows.{rows_from, row_count, rows_of, row_values, row_lines, file_text}
use Rattle.model.specs.Lists.{range, overwrite}
use Rattle.model.specs.Desk.{plain_opening, plain_link, plain_run, built_in, built_in_numbers}
use Rattle.shows.proofs.DeskTable.{desk_size, table-rows}

-- How many bytes it has, computed.
abbrev pub desk_bytes : ℕ
desk_bytes = 3902

pub text-size : length (file_text built_in) ≡ desk_bytes
unfolding built_in flat_map range plain_run plain_opening plain_link file_text names row_lines row_values line_text ends digits digit_at if_lt
text-size = refl

rows_are : rows_from built_in_numbers 0 desk_rows ≡ built_in
unfolding rows_of row_count
rows_are = let e : length built_in_numbers / row_size ≡ desk_rows = omega (arith, desk_size) in rw e at table-rows

-- It fills its buffer.
module _ (xs : List ℕ) (e : xs ≡ built_in_numbers) where
  pub table-room : desk_rows * row_size ≤ length xs
  table-room = rw e (omega (arith, desk_size))

  pub table_fits : (m : ℕ) → desk_bytes ≤ m → length (file_text (rows_from xs 0 desk_rows)) ≤ m
  table_fits m l = rw (e, rows_are) (omega (arith, text-size))

  pub table-file : (o p : List ℕ) → length o ≡ desk_bytes → p ≡ overwrite (file_text (rows_from xs 0 desk_rows)) o → p ≡ file_text built_in
  unfolding overwrite
  table-file o p l w =
      let t : rows_from xs 0 desk_rows ≡ built_in = rw e rows_are in
      w ∙ rw (t, drop_of_length-le o {i = length (file_text built_in)} (omega (arith, text-size))) (append-nil (file_text built_in))
