-- A file that the second way reads: block 16 has two cues and puts block 3 of the table between them.
use Prim.Native.Nat.{ℕ, ◌≤◌}
use native.Mathlib.Omega.{arith}
use mathlib.Core.Path.{◌≡◌, refl, ◌∙◌}
use mathlib.Core.List.{List, [], ◌∷◌, ◌++◌, flat_map}
use lib.ListN.{get_or}
use Rattle.model.specs.Choice.{if_lt, if_eq, if_true}
use Rattle.model.specs.Rows.{Row, cell, row_at, rows_from, row_count, rows_of, file_text}
use Rattle.model.specs.Lists.{range}
use Rattle.model.specs.Rules.{
  start,
  cues_in,
  may_open,
  goes_on,
  may_follow,
  columns_used,
  named,
  every,
  is_cue,
  is_zero,
  label_fits,
  own_fits,
  in_range,
  differs,
  distinct,
  is_below,
  link_key,
  use_key,
  in_order,
  fault,
  after,
}
use Rattle.model.specs.Blocks.{no_block, block_at, joins_of, own_of, add_link, add_use, add_row, add_rows, blocks_of, sum_over, total}
use Rattle.model.specs.Verdicts.{and_then, check_length, check_rows, opening_rows, check_blocks, may_stand, total_fits, verdict, Verdict, Accepted}
use Rattle.model.specs.Desk.{plain_opening, plain_link, plain_run, built_in, with_desk, check_own, check_first, desk_verdict}
use Rattle.basics.proofs.Every.{each_at}
use Rattle.shows.specs.Files.{SpellsFile}
use Rattle.shows.proofs.Files.{rows-file}
use Rattle.shows.proofs.DeskTable.{with_length, with_rows}
use Rattle.demands.specs.Desk.{DeskLawful}
use Rattle.demands.proofs.DeskReading.{desk_right}

abbrev pub desk_example : List ℕ
desk_example =
    16 ∷ 0 ∷ 0 ∷ 2 ∷ 0 ∷ 0 ∷ 0 ∷ 0 ∷ 0 ∷ 0 ∷ 0
    ∷ 16 ∷ 2 ∷ 3 ∷ 1 ∷ 2 ∷ 0 ∷ 0 ∷ 0 ∷ 0 ∷ 0 ∷ 0 ∷ []

-- Checks 5 to 10 of some rows.
rows_verdict : List Row → Verdict
rows_verdict ws =
    and_then (check_rows start 1 ws)
    (and_then (check_blocks 9 (may_stand (add_rows [] ws)) 0 (opening_rows 1 ws)) (check_blocks 10 (total_fits (add_rows [] ws)) 0 (opening_rows 1 ws)))

behind-length : (xs : List ℕ) → verdict xs ≡ and_then (check_length xs) (rows_verdict (rows_of xs))
unfolding verdict rows_verdict blocks_of
behind-length xs = refl

example_rows : rows_verdict (built_in ++ rows_of desk_example) ≡ Accepted
unfolding rows_verdict if_lt if_eq if_true flat_map range plain_opening plain_link plain_run built_in cell row_at rows_from row_count rows_of start cues_in may_open goes_on may_follow columns_used named every is_cue is_zero label_fits own_fits in_range differs distinct is_below link_key use_key in_order fault after no_block block_at joins_of own_of add_link add_use add_row add_rows sum_over total and_then check_rows opening_rows check_blocks may_stand total_fits
example_rows = refl

example_length : check_length (with_desk desk_example) ≡ Accepted
unfolding check_length row_count if_eq if_lt
example_length = rw (with_length desk_example) refl

example_accepted : desk_verdict desk_example ≡ Accepted
unfolding desk_verdict check_own check_first row_count row_at cell if_eq if_lt and_then
example_accepted = behind-length (with_desk desk_example) ∙ rw (example_length, with_rows desk_example) example_rows

values-small : (i : ℕ) → get_or desk_example i 0 ≤ 999
values-small = each_at (λ v. v ≤ 999) desk_example (omega arith) (omega arith)

pub desk_file : (f xs : List ℕ) × SpellsFile f xs × DeskLawful xs
unfolding row_count
desk_file =
    (file_text (rows_of desk_example), desk_example, rows-file desk_example refl values-small (omega arith), (desk_right desk_example).0 example_accepted)
