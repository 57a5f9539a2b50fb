-- The verdict on rows and on files: refusals 1 to 10 with their places. Document 01, "Refusals by number".
use Rattle.std.specs.Prelude.{ℕ, zero, suc, ◌+◌, ◌%◌, Bool, true, false, List, [], ◌∷◌, ◌++◌, length, Result, Ok, Err}
use Rattle.model.specs.Choice.{if_lt, if_eq, if_true}
use Rattle.model.specs.Limits.{row_size, max_rows, max_bytes, max_total}
use Rattle.model.specs.Text.{names, ends, Values, Malformed, values_of, lines_of}
use Rattle.model.specs.Rows.{Row, row_count, rows_of}
use Rattle.model.specs.Rules.{Seen, start, fault, after}
use Rattle.model.specs.Blocks.{Block, joins_of, own_of, total, blocks_of}
use Rattle.model.specs.declared.Refusal.{Refusal}

-- What is said of rows or of a file before anything is answered.
abbrev pub Verdict : Type 0
Verdict = Result (Unit {0}) Refusal

abbrev pub Accepted : Verdict
Accepted = Ok tt

unfoldable pub refusal : ℕ → ℕ → Refusal
refusal number place = record { number = number; place = place }

unfoldable pub refused : ℕ → ℕ → Verdict
refused number place = Err (refusal number place)

-- "Checks run in this order": the second check counts where the first passes.
unfoldable pub and_then : Verdict → Verdict → Verdict
and_then (Ok _) v = v
and_then (Err r) v = Err r

-- 4: "no rows, over 1,024 rows, or lent rows not a multiple of 11 long".
unfoldable pub check_length : List ℕ → Verdict
check_length xs =
    if_eq (length xs % row_size) 0
    (if_lt (row_count xs) 1 (refused 4 0) (if_lt max_rows (row_count xs) (refused 4 0) Accepted))
    (refused 4 0)

-- 5 to 8: "the first failing row decides". r is the number of the first of these rows.
unfoldable pub check_rows : Seen → ℕ → List Row → Verdict
check_rows s r [] = Accepted
check_rows s r (w ∷ ws) = elim (fault s w) [ zero ↦ check_rows (after s w) (suc r) ws | suc k ↦ refused (suc k) r ]

-- "opening row": the numbers of the rows that open the blocks, in order.
unfoldable pub opening_rows : ℕ → List Row → List ℕ
opening_rows r [] = []
opening_rows r (w ∷ ws) = if_eq w.kind 0 (r ∷ opening_rows (suc r) ws) (opening_rows (suc r) ws)

-- Every block from k on passes a test, or the refusal falls on the opening row of the first that doesn't.
unfoldable pub check_blocks : ℕ → (ℕ → Bool) → ℕ → List ℕ → Verdict
check_blocks number ok k [] = Accepted
check_blocks number ok k (r ∷ rs) = elim (ok k) [ true ↦ check_blocks number ok (suc k) rs | false ↦ refused number r ]

-- 9: "the last with joins or no own cue, an earlier one with no joins".
unfoldable pub may_stand : List Block → ℕ → Bool
may_stand bs k =
    if_eq (suc k) (length bs)
    (if_eq (joins_of bs k) 0 (if_lt 0 (own_of bs k) true false) false)
    (if_lt 0 (joins_of bs k) true false)

-- 10: "first block whose total is too large".
unfoldable pub total_fits : List Block → ℕ → Bool
total_fits bs k = if_lt max_total (total bs k) false true

-- "A show is accepted when its rows meet none of refusals 4 to 10."
unfoldable pub verdict : List ℕ → Verdict
verdict xs =
    and_then (check_length xs)
    (and_then (check_rows start 1 (rows_of xs))
    (and_then (check_blocks 9 (may_stand (blocks_of xs)) 0 (opening_rows 1 (rows_of xs)))
    (check_blocks 10 (total_fits (blocks_of xs)) 0 (opening_rows 1 (rows_of xs)))))

-- What the lines of a file say: the numbers of its rows, or a refusal.
pub data Reading : Type 0 where
  Numbers : List ℕ → Reading
  Unread : Refusal → Reading

unfoldable pub row_then : List ℕ → Reading → Reading
row_then vs (Numbers xs) = Numbers (vs ++ xs)
row_then vs (Unread r) = Unread r

-- 3: "first line that isn't eleven well-formed values and a line feed". n is the number of the first of these lines.
unfoldable pub read_lines : ℕ → List (List ℕ) → Reading
read_lines n [] = Numbers []
read_lines n (l ∷ ls) =
    elim (values_of ends l) [ Values vs ↦ row_then vs (read_lines (suc n) ls) | Malformed ↦ Unread (refusal 3 n) ]

unfoldable pub same : List ℕ → List ℕ → Bool
same [] [] = true
same [] (y ∷ ys) = false
same (x ∷ xs) [] = false
same (x ∷ xs) (y ∷ ys) = if_eq x y (same xs ys) false

-- 2: "first line isn't the line of names with its line feed". "Row r is line r + 1."
unfoldable pub read_all : List (List ℕ) → Reading
read_all [] = Unread (refusal 2 1)
read_all (l ∷ ls) = if_true (same l names) (read_lines 2 ls) (Unread (refusal 2 1))

-- 1: "file longer than 65,536 bytes".
unfoldable pub read_file : List ℕ → Reading
read_file f = if_lt max_bytes (length f) (Unread (refusal 1 0)) (read_all (lines_of f))

-- "Reading gives the line as place for 5 to 10."
unfoldable pub by_line : Refusal → Refusal
by_line r = if_lt r.number 5 r (refusal r.number (r.place + 1))

unfoldable pub in_lines : Verdict → Verdict
in_lines (Ok _) = Accepted
in_lines (Err r) = Err (by_line r)

-- The numbers that were read.
unfoldable pub numbers_of : Reading → List ℕ
numbers_of (Numbers xs) = xs
numbers_of (Unread r) = []

-- Refusals 1 to 10 of a file.
unfoldable pub read_verdict : Reading → Verdict
read_verdict (Numbers xs) = in_lines (verdict xs)
read_verdict (Unread r) = Err r

unfoldable pub file_verdict : List ℕ → Verdict
file_verdict f = read_verdict (read_file f)
