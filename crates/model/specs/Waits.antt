-- The wait file: how long the follow-ons of each label wait, in tenths of a second. Document 02, Paper 5, which all quotations are from.
use Rattle.std.specs.Prelude.{ℕ, suc, Bool, true, false, List, [], ◌∷◌, get_or, set, replicate}
use Rattle.model.specs.Choice.{if_lt, if_eq, if_true}
use Rattle.model.specs.Limits.{max_followed, max_wait}
use Rattle.model.specs.Text.{comma, line_feed}
use Rattle.model.specs.Tables.{Table, Lines, Breaks, table_read}

-- "the names `label,wait`", and the bytes behind the two values of a line.
unfoldable pub wait_names : List ℕ
wait_names = 108 ∷ 97 ∷ 98 ∷ 101 ∷ 108 ∷ comma ∷ 119 ∷ 97 ∷ 105 ∷ 116 ∷ line_feed ∷ []

unfoldable pub wait_ends : List ℕ
wait_ends = comma ∷ line_feed ∷ []

-- What a wait file says: the waits of labels 0, 1, 2 and on to 254, or the number and the line of a refusal.
pub data WaitFile : Type 0 where
  WaitTable : List ℕ → WaitFile
  Unfit : ℕ → ℕ → WaitFile

-- 16: "label or wait is outside its range": "a label from 1 to 254 and its wait of 0 to 6,000".
unfoldable pub is_outside : ℕ → ℕ → Bool
is_outside label wait = if_lt label 1 true (if_lt max_followed label true (if_lt max_wait wait true false))

-- The first such line, 0 if there is none. n is the number of the first of these lines; lines of values are counted from 2.
unfoldable pub first_outside : ℕ → List (List ℕ) → ℕ
first_outside n [] = 0
first_outside n (vs ∷ vss) = if_true (is_outside (get_or vs 0 0) (get_or vs 1 0)) n (first_outside (suc n) vss)

-- 17: "the first line whose label isn't above the one before", 0 if there is none. before is the label of the line before these.
unfoldable pub first_not_above : ℕ → ℕ → List (List ℕ) → ℕ
first_not_above before n [] = 0
first_not_above before n (vs ∷ vss) = if_lt before (get_or vs 0 0) (first_not_above (get_or vs 0 0) (suc n) vss) n

-- "A line gives a label .. and its wait": each line's wait at the place of its label.
unfoldable pub waits_with : List ℕ → List (List ℕ) → List ℕ
waits_with ws [] = ws
waits_with ws (vs ∷ vss) = waits_with (set ws (get_or vs 0 0) (get_or vs 1 0)) vss

-- "A label without a line waits 0."
unfoldable pub no_waits : List ℕ
no_waits = replicate (suc max_followed) 0

-- "then 16 .., then 17": each over the whole file before the next.
unfoldable pub waits_or : List ℕ → ℕ → ℕ → WaitFile
waits_or ws outside low = if_eq outside 0 (if_eq low 0 (WaitTable ws) (Unfit 17 low)) (Unfit 16 outside)

-- "15 with the first malformed line". No label stands before that of the first line; one of 0 there is outside its range.
unfoldable pub waits_in : Table → WaitFile
waits_in (Lines vss) = waits_or (waits_with no_waits vss) (first_outside 2 vss) (first_not_above 0 2 vss)
waits_in (Breaks n) = Unfit 15 n

unfoldable pub wait_file : List ℕ → WaitFile
wait_file f = waits_in (table_read wait_names wait_ends f)
