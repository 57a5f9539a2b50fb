-- Reading rows as the code does it: at a place of the file. proofs/ ties it to the lines of crates/model.
use Rattle.std.specs.Prelude.{ℕ, ◌+◌, ◌*◌, ◌≤◌, ◌<◌, ◌≡◌, Bool, true, false, List, ◌++◌, length, take, drop, Option, Some, None, Result, Ok, Err}
use Rattle.model.specs.Choice.{if_lt}
use Rattle.model.specs.Limits.{row_size}
use Rattle.model.specs.Text.{names, ends}
use Rattle.model.specs.Rows.{row_count}
use Rattle.model.specs.declared.Refusal.{Refusal}
use Rattle.model.specs.Verdicts.{refusal}
use Rattle.lines.specs.Scanning.{ValueFound, Values, Broken, line_at, starts_with}

-- Rows with row r's values stored, if there is room for that row.
unfoldable pub stored : ℕ → List ℕ → List ℕ → List ℕ
stored r vs xs = if_lt r (row_count xs) (take (r * row_size) xs ++ (vs ++ drop row_size (drop (r * row_size) xs))) xs

unfoldable pub RowSays : ValueFound → ℕ → Option ℕ → List ℕ → List ℕ → Type 0
RowSays (Values vs next) r l xs ys = (l ≡ Some next) × (ys ≡ stored r vs xs)
RowSays Broken r l xs ys = l ≡ None

-- A step from a place: the line there goes to row n, and the next step begins behind it; or the file is at its end, or line n + 2 is none. The line of names
-- is line 1.
unfoldable pub StepSays : List ℕ → ℕ → ℕ → Result Bool Refusal → ℕ → List ℕ → List ℕ → Type 0
StepSays f at n (Ok true) next xs ys = (at < length f) × RowSays (line_at ends f at) n (Some next) xs ys
StepSays f at n (Ok false) next xs ys = (length f ≤ at) × (ys ≡ xs)
StepSays f at n (Err r) next xs ys = (at < length f) × (line_at ends f at ≡ Broken) × (r ≡ refusal 3 (n + 2))

-- The length of the line of names.
abbrev pub names_size : ℕ
names_size = 33

-- The file starts with the line of names.
unfoldable pub starts_named : List ℕ → Bool
starts_named f = starts_with names f
