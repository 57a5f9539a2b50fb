-- What the pass over the rows does at each row, as the code does it. Rows are counted from 0 here.
use Rattle.std.specs.Prelude.{ℕ, zero, suc, ◌+◌, ◌*◌, ◌/◌, ◌%◌, ◌≤◌, ◌<◌, ◌≡◌, Bool, true, false, List, [], length, get_or, set, replicate, Result, Ok, Err}
use Rattle.model.specs.Choice.{if_lt, if_eq, if_true}
use Rattle.model.specs.Limits.{row_size, max_joins, max_own, max_rows, max_total}
use Rattle.model.specs.Rows.{row_at, rows_from}
use Rattle.model.specs.Rules.{Seen, start, fault, after}
use Rattle.model.specs.Blocks.{Block, add_row}
use Rattle.model.specs.Verdicts.{refused, check_rows, verdict, Verdict, Accepted}
use Rattle.verdicts.specs.Index.{index_size, Indexed}
use Rattle.rules.specs.Numbers.{number}
use Rattle.rules.specs.declared.faults.State.{State}
use Rattle.verdicts.specs.declared.FaultyRow.{FaultyRow}
use Rattle.verdicts.specs.declared.BlockCheck.{BlockCheck}
use Rattle.verdicts.specs.declared.BlockCheck.TheVariants.{Ends, Total}

-- A total, or one more than the largest where it is too large.
unfoldable pub capped : ℕ → ℕ
capped n = if_lt max_total n (max_total + 1) n

-- The joins of block k, as the table and the rows have them.
unfoldable pub joins_at : List ℕ → List ℕ → ℕ → ℕ
joins_at xs t k = get_or xs (get_or t (k * 4) 0 * row_size + 2) 0

-- Those of the block that a use at p names.
unfoldable pub many_of : List ℕ → List ℕ → ℕ → ℕ → ℕ
many_of xs t p blocks =
    if_eq (get_or xs (p + 1) 0) 2
    (if_lt (get_or xs (p + 2) 0) blocks (if_lt max_joins (joins_at xs t (get_or xs (p + 2) 0)) 0 (joins_at xs t (get_or xs (p + 2) 0))) 0)
    0

pub record Many (many r : ℕ) : Type 0 where
  pub same : r ≡ many
  pub few : r ≤ max_joins

unfoldable pub cues_of : ℕ → ℕ → ℕ
cues_of own joins = if_lt max_own own 0 (if_lt max_joins joins 0 (own + joins))

-- A number put into the table, if it has the place.
unfoldable pub put_at : List ℕ → ℕ → ℕ → List ℕ
put_at t i v = if_lt i index_size (set t i v) t

-- The table after row r: by what an opening, a link or a use puts in at its block.
unfoldable pub open_indexed : List ℕ → ℕ → ℕ → ℕ → List ℕ
open_indexed t at r own = put_at (put_at (put_at (put_at t at r) (at + 1) (r + 1)) (at + 2) (r + 1)) (at + 3) own

unfoldable pub use_indexed : List ℕ → ℕ → ℕ → List ℕ
use_indexed t at k = put_at t (at + 3) (capped (get_or t (at + 3) 0 + get_or t (k * 4 + 3) 0))

unfoldable pub row_indexed : List ℕ → ℕ → ℕ → ℕ → ℕ → ℕ → List ℕ
row_indexed t block kind label own r =
    if_eq kind 0 (open_indexed t (block * 4) r own)
    (if_eq kind 1 (put_at (put_at t (block * 4 + 2) (r + 1)) (block * 4 + 1) (r + 1))
    (use_indexed (put_at t (block * 4 + 2) (r + 1)) (block * 4) label))

-- What is carried from row to row, in numbers, and the code's state as that.
pub record Carried : Type 0 where
  pub blocks : ℕ
  pub cues : ℕ
  pub kind : ℕ

abbrev pub carried : State → Carried
carried s = record { blocks = s.blocks; cues = s.cues; kind = s.kind }

unfoldable pub next_state : List ℕ → ℕ → Carried → Carried
next_state xs p s =
    if_eq (get_or xs (p + 1) 0) 0
    (record { blocks = s.blocks + 1; cues = cues_of (get_or xs (p + 3) 0) (get_or xs (p + 2) 0); kind = get_or xs (p + 1) 0 })
    (record { blocks = s.blocks; cues = s.cues; kind = get_or xs (p + 1) 0 })

-- The pass over the first r rows: what the model's checks know, the state, the table and the blocks.
unfoldable pub seen_to : List ℕ → ℕ → Seen
seen_to xs zero = start
seen_to xs (suc r) = after (seen_to xs r) (row_at xs r)

unfoldable pub state_to : List ℕ → ℕ → Carried
state_to xs zero = record { blocks = 0; cues = 0; kind = 0 }
state_to xs (suc r) = next_state xs (r * row_size) (state_to xs r)

unfoldable pub table_to : List ℕ → ℕ → List ℕ
table_to xs zero = replicate index_size 0
table_to xs (suc r) =
    row_indexed (table_to xs r) (get_or xs (r * row_size) 0) (get_or xs (r * row_size + 1) 0) (get_or xs (r * row_size + 2) 0) (get_or xs (r * row_size + 3) 0) r

unfoldable pub blocks_to : List ℕ → ℕ → List Block
blocks_to xs zero = []
blocks_to xs (suc r) = add_row (blocks_to xs r) (row_at xs r)

-- The first r rows have no fault.
abbrev pub Fine : List ℕ → ℕ → Type 0
Fine xs r = (q : ℕ) → q < r → fault (seen_to xs q) (row_at xs q) ≡ 0

-- What the pass found, in numbers: its fault and that row, or 0; and how many blocks were opened.
abbrev pub fault_in : Result ℕ FaultyRow → ℕ
fault_in (Ok blocks) = 0
fault_in (Err f) = number f.fault

abbrev pub row_in : Result ℕ FaultyRow → ℕ
row_in (Ok blocks) = 0
row_in (Err f) = f.row

abbrev pub blocks_in : Result ℕ FaultyRow → ℕ
blocks_in (Ok blocks) = blocks
blocks_in (Err f) = 0

-- What the pass says of n rows.
pub record Scanned (xs : List ℕ) (n : ℕ) (t : List ℕ) (r : Result ℕ FaultyRow) : Type 0 where
  pub found : (fault_in r ≡ 0 → ⊥) → check_rows start 1 (rows_from xs 0 n) ≡ refused (fault_in r) (row_in r)
  pub passed : fault_in r ≡ 0 → check_rows start 1 (rows_from xs 0 n) ≡ Accepted
  pub fine : fault_in r ≡ 0 → Fine xs n
  pub table : fault_in r ≡ 0 → t ≡ table_to xs n
  pub blocks : fault_in r ≡ 0 → blocks_in r ≡ (state_to xs n).blocks

-- Checks 9 and 10 of block k, by the table.
unfoldable pub own_at : List ℕ → List ℕ → ℕ → ℕ
own_at xs t k = get_or xs (get_or t (k * 4) 0 * row_size + 3) 0

unfoldable pub stands_at : List ℕ → List ℕ → ℕ → ℕ → Bool
stands_at xs t blocks k =
    if_eq (k + 1) blocks
    (if_eq (joins_at xs t k) 0 (if_lt 0 (own_at xs t k) true false) false)
    (if_lt 0 (joins_at xs t k) true false)

unfoldable pub fits_at : List ℕ → ℕ → Bool
fits_at t k = if_lt max_total (get_or t (k * 4 + 3) 0) false true

abbrev pub check_number : BlockCheck → ℕ
check_number Ends = 9
check_number Total = 10

unfoldable pub passes_at : ℕ → List ℕ → List ℕ → ℕ → ℕ → Bool
passes_at number xs t blocks k = if_eq number 9 (stands_at xs t blocks k) (fits_at t k)

-- The number of the row with so many rows before it.
unfoldable pub row_number_of : ℕ → ℕ
row_number_of r = if_lt r max_rows (r + 1) 0

-- The opening row of the first of so many blocks from k on that fails a test, or 0.
unfoldable pub place_from : (ℕ → Bool) → List ℕ → ℕ → ℕ → ℕ
place_from ok t k zero = 0
place_from ok t k (suc left) = if_true (ok k) (place_from ok t (k + 1) left) (row_number_of (get_or t (k * 4) 0))

unfoldable pub placed : ℕ → ℕ → Verdict
placed number p = if_eq p 0 Accepted (refused number p)

-- How many rows are lent: 0 if they meet refusal 4.
unfoldable pub rows_in : List ℕ → ℕ
rows_in xs = if_eq (length xs % row_size) 0 (if_lt max_rows (length xs / row_size) 0 (length xs / row_size)) 0

-- The verdict by what the pass found and the table it left.
unfoldable pub judged : List ℕ → List ℕ → ℕ → ℕ → ℕ → ℕ → Verdict
judged xs t n fault row blocks =
    if_eq n 0 (refused 4 0)
    (if_eq fault 0
    (if_eq (place_from (passes_at 9 xs t blocks) t 0 blocks) 0
    (if_eq (place_from (passes_at 10 xs t blocks) t 0 blocks) 0 Accepted (refused 10 (place_from (passes_at 10 xs t blocks) t 0 blocks)))
    (refused 9 (place_from (passes_at 9 xs t blocks) t 0 blocks)))
    (refused fault row))

-- What the check promises: the model's verdict, and where the rows are accepted, the index of their blocks.
pub record IsChecked (xs t : List ℕ) (v : Verdict) : Type 0 where
  pub said : v ≡ verdict xs
  pub table : verdict xs ≡ Accepted → Indexed xs t
