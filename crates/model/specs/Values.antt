-- A value in a text: a run of digits read to its number, and a number written as digits. Every kind of file has its values so; nothing here
-- knows of show files. Document 02, Paper 1, in the place of document 01's "leading zero"; its "no sign, space" stands, since a run is digits.
use Rattle.std.specs.Prelude.{ℕ, ◌+◌, ◌*◌, ◌-◌, ◌/◌, ◌%◌, Bool, true, false, List, [], ◌∷◌, length}
use Rattle.model.specs.Choice.{if_lt}
use Rattle.model.specs.Limits.{max_value, max_digits}

-- The byte of the digit 0.
abbrev pub digit_zero : ℕ
digit_zero = 48

-- Reading.

-- A byte is a digit.
unfoldable pub is_digit : ℕ → Bool
is_digit b = if_lt b digit_zero false (if_lt (digit_zero + 9) b false true)

-- The run of digits that some bytes begin with, as numbers 0 to 9, and what follows it.
unfoldable pub run : List ℕ → List ℕ
run [] = []
run (b ∷ bs) = elim (is_digit b) [ true ↦ (b - digit_zero) ∷ run bs | false ↦ [] ]

unfoldable pub after_run : List ℕ → List ℕ
after_run [] = []
after_run (b ∷ bs) = elim (is_digit b) [ true ↦ after_run bs | false ↦ b ∷ bs ]

-- "Figures are in base ten" (01): the number that a run of digits stands for, where v is that of the digits before it.
unfoldable pub decimal : ℕ → List ℕ → ℕ
decimal v [] = v
decimal v (d ∷ ds) = decimal (v * 10 + d) ds

-- "one to five digits, leading zeros allowed, still at most 65,535": a run of digits is a value.
unfoldable pub is_value : List ℕ → Bool
is_value ds =
    if_lt (length ds) 1 false (if_lt max_digits (length ds) false (if_lt max_value (decimal 0 ds) false true))

-- Writing.

-- "We still write without padding": the digits of a value, as many as it needs.
unfoldable pub digit_at : ℕ → ℕ → ℕ
digit_at place v = digit_zero + v / place % 10

unfoldable pub digits : ℕ → List ℕ
digits v =
    if_lt v 10 (digit_at 1 v ∷ [])
    (if_lt v 100 (digit_at 10 v ∷ digit_at 1 v ∷ [])
    (if_lt v 1000 (digit_at 100 v ∷ digit_at 10 v ∷ digit_at 1 v ∷ [])
    (if_lt v 10000 (digit_at 1000 v ∷ digit_at 100 v ∷ digit_at 10 v ∷ digit_at 1 v ∷ [])
    (digit_at 10000 v ∷ digit_at 1000 v ∷ digit_at 100 v ∷ digit_at 10 v ∷ digit_at 1 v ∷ []))))
