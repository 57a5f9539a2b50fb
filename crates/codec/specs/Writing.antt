-- Writing as the code does it: bytes at a place of the output.
use Rattle.std.specs.Prelude.{ℕ, zero, suc, ◌+◌, ◌≤◌, ◌≡◌, List, [], ◌∷◌, ◌++◌, length, take}
use Rattle.std.proofs.lemmas.List.Edits.{sets}
use Rattle.model.specs.Values.{digit_zero, digit_at, digits}
use Rattle.model.specs.Text.{comma, ends, line_text}
use Rattle.model.specs.Rows.{row_at, row_values}

-- The last digit of a number, and the last two.
unfoldable pub one : ℕ → List ℕ
one q = digit_at 1 q ∷ []

unfoldable pub two : ℕ → List ℕ
two q = digit_at 10 q ∷ digit_at 1 q ∷ []

-- A value and the byte behind it.
unfoldable pub value_text : ℕ → ℕ → List ℕ
value_text v e = digits v ++ (e ∷ [])

-- The line of row r.
unfoldable pub row_text : List ℕ → ℕ → List ℕ
row_text xs r = line_text ends (row_values (row_at xs r))

-- A text is stored from place at on, and the next one goes behind it.
pub record Puts (text out : List ℕ) (at next : ℕ) (after : List ℕ) : Type 0 where
  pub place : next ≡ at + length text
  pub bytes : after ≡ sets out at text

-- The same, but up to two bytes behind the text are stored too: the next text overwrites them.
pub record Spills (text out : List ℕ) (at next : ℕ) (after : List ℕ) : Type 0 where
  pub more : List ℕ
  pub few : length more ≤ 2
  pub place : next ≡ at + length text
  pub bytes : after ≡ sets out at (text ++ more)

-- How many values have a ready text in the table, and how many bytes each of those takes.
abbrev pub table_size : ℕ
table_size = 264

abbrev pub text_size : ℕ
text_size = 5

-- A value and its comma in four bytes, with a digit behind them that says how many bytes count; and those of n values from v on.
unfoldable pub four_bytes : ℕ → List ℕ
four_bytes v = take 4 (value_text v comma ++ (comma ∷ comma ∷ []))

unfoldable pub short_text : ℕ → List ℕ
short_text v = four_bytes v ++ ((digit_zero + length (value_text v comma)) ∷ [])

unfoldable pub short_texts : ℕ → ℕ → List ℕ
short_texts v zero = []
short_texts v (suc n) = short_text v ++ short_texts (suc v) n
