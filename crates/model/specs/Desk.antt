-- The blocks that come with the desk, and the second way of reading. Document 02, Paper 4.
use Rattle.std.specs.Prelude.{ℕ, ◌+◌, ◌-◌, Ok, Err}
use mathlib.Core.List.{List, [], ◌∷◌, ◌++◌, map, flat_map}
use Rattle.model.specs.Choice.{if_lt, if_eq}
use Rattle.model.specs.Limits.{max_rows, desk_rows, desk_blocks}
use Rattle.model.specs.Rows.{Row, row_at, row_count, row_values}
use Rattle.model.specs.Lists.{range}
use Rattle.model.specs.Verdicts.{refusal, refused, and_then, verdict, Reading, Numbers, Unread, read_file, Verdict, Accepted}
use Rattle.model.specs.declared.Refusal.{Refusal}

-- The table.

-- "Block k is a plain run with k + 1 own cues and two joins": its own cues are 1 to k + 1, its joins k + 2 and k + 3.
unfoldable pub plain_opening : ℕ → Row
plain_opening k = record { block = k; kind = 0; label = 2; columns = (k + 1) ∷ 0 ∷ 0 ∷ 0 ∷ 0 ∷ 0 ∷ 0 ∷ 0 ∷ [] }

-- "Links of label 1": one of block k, from cue a to cue b.
unfoldable pub plain_link : ℕ → ℕ → ℕ → Row
plain_link k a b = record { block = k; kind = 1; label = 1; columns = a ∷ b ∷ 0 ∷ 0 ∷ 0 ∷ 0 ∷ 0 ∷ 0 ∷ [] }

-- They "go from the first join to cue 1, on from each own cue to the next, and from the last own cue to the second join". As links rise by the cue
-- they start from, the first join's stands last.
unfoldable pub plain_run : ℕ → List Row
plain_run k =
    plain_opening k
    ∷ (map (λ c. plain_link k c (c + 1)) (range 1 k) ++ (plain_link k (k + 1) (k + 3) ∷ plain_link k (k + 2) 1 ∷ []))

-- "a built-in table of 168 rows, sixteen blocks numbered 0 to 15"; and its numbers, as they stand in lent memory.
unfoldable pub built_in : List Row
built_in = flat_map plain_run (range 0 desk_blocks)

unfoldable pub built_in_numbers : List ℕ
built_in_numbers = flat_map row_values built_in

-- The second way of reading.

-- It "puts these rows before the file's": all rows, where the file's own are xs.
unfoldable pub with_desk : List ℕ → List ℕ
with_desk xs = built_in_numbers ++ xs

-- 4: "The limits on rows and blocks count them"; "A file without rows of its own meets refusal 4 here too."
unfoldable pub check_own : List ℕ → Verdict
check_own xs = if_lt (row_count xs) 1 (refused 4 0) (if_lt max_rows (desk_rows + row_count xs) (refused 4 0) Accepted)

-- 5: "its first row opens block 16 or meets refusal 5". That is the first row behind the table's.
unfoldable pub check_first : Row → Verdict
check_first w =
    if_eq w.kind 0 (if_eq w.block desk_blocks Accepted (refused 5 (desk_rows + 1))) (refused 5 (desk_rows + 1))

-- Refusals 4 to 10 of the file's own rows, by the row of all.
unfoldable pub desk_verdict : List ℕ → Verdict
desk_verdict xs = and_then (check_own xs) (and_then (check_first (row_at xs 0)) (verdict (with_desk xs)))

-- "places are still the file's own lines": row r of all is row r − 168 of the file's own, and that is line r − 167.
unfoldable pub by_own_line : Refusal → Refusal
by_own_line r = if_lt r.number 5 r (refusal r.number (r.place + 1 - desk_rows))

unfoldable pub in_own_lines : Verdict → Verdict
in_own_lines (Ok _) = Accepted
in_own_lines (Err r) = Err (by_own_line r)

-- Refusals 1 to 10 of a file that is read the second way.
unfoldable pub desk_read_verdict : Reading → Verdict
desk_read_verdict (Numbers xs) = in_own_lines (desk_verdict xs)
desk_read_verdict (Unread r) = Err r

unfoldable pub desk_file_verdict : List ℕ → Verdict
desk_file_verdict f = desk_read_verdict (read_file f)
