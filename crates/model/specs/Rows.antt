-- Rows out of lent memory. Document 01: "A line of values is a row: eleven 32-bit unsigned numbers in lent memory."
use Rattle.std.specs.Prelude.{ℕ, zero, suc, ◌+◌, ◌*◌, ◌/◌, List, [], ◌∷◌, ◌++◌, length, get_or}
use Rattle.model.specs.Limits.{row_size}
use Rattle.model.specs.Text.{names, ends, line_text}

-- A row: its values in the order of the line of names, of which a to h are the columns.
pub record Row : Type 0 where
  pub block : ℕ
  pub kind : ℕ
  pub label : ℕ
  pub columns : List ℕ

-- Value c of row r, both counted from 0.
unfoldable pub cell : List ℕ → ℕ → ℕ → ℕ
cell xs r c = get_or xs (r * row_size + c) 0

unfoldable pub row_at : List ℕ → ℕ → Row
row_at xs r =
    record {
      block = cell xs r 0;
      kind = cell xs r 1;
      label = cell xs r 2;
      columns =
          cell xs r 3 ∷ cell xs r 4 ∷ cell xs r 5 ∷ cell xs r 6 ∷ cell xs r 7 ∷ cell xs r 8 ∷ cell xs r 9 ∷ cell xs r 10 ∷ [];
    }

-- The n rows from row r on.
unfoldable pub rows_from : List ℕ → ℕ → ℕ → List Row
rows_from xs r zero = []
rows_from xs r (suc n) = row_at xs r ∷ rows_from xs (r + 1) n

-- How many rows are lent, and which.
unfoldable pub row_count : List ℕ → ℕ
row_count xs = length xs / row_size

unfoldable pub rows_of : List ℕ → List Row
rows_of xs = rows_from xs 0 (row_count xs)

-- A row's values from left to right.
unfoldable pub row_values : Row → List ℕ
row_values w = w.block ∷ w.kind ∷ w.label ∷ w.columns

-- "A line of names, then lines of values in that order": the file of some rows.
unfoldable pub row_lines : List Row → List ℕ
row_lines [] = []
row_lines (w ∷ ws) = line_text ends (row_values w) ++ row_lines ws

unfoldable pub file_text : List Row → List ℕ
file_text ws = names ++ row_lines ws
