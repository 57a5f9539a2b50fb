-- A value as the code reads it: at a place of the text, with the byte that ends it. proofs/ ties it to the values of crates/model.
use Rattle.std.specs.Prelude.{ℕ, ◌+◌, ◌-◌, List, length, get_or, drop, Option, Some, None}
use Rattle.model.specs.Choice.{if_lt, if_eq, if_true}
use Rattle.model.specs.Values.{digit_zero, run, decimal, is_value}

-- A digit as a number, and 10 for any other byte and past the end.
unfoldable pub figure : ℕ → ℕ
figure b = if_lt b digit_zero 10 (if_lt (digit_zero + 9) b 10 (b - digit_zero))

unfoldable pub figure_at : List ℕ → ℕ → ℕ
figure_at f i = if_lt i (length f) (figure (get_or f i 0)) 10

-- The digit that such a number is, if it is one.
unfoldable pub digit_of : ℕ → Option ℕ
digit_of d = if_lt d 10 (Some d) None

-- The value v and the place behind i if the byte e stands at place i.
unfoldable pub ended_at : List ℕ → ℕ → ℕ → ℕ → Option (ℕ × ℕ)
ended_at f e i v = if_lt i (length f) (if_eq (get_or f i 0) e (Some (v, i + 1)) None) None

-- The value at a place that the byte e ends, and the place behind that byte.
unfoldable pub value_at : List ℕ → ℕ → ℕ → Option (ℕ × ℕ)
value_at f e at =
    if_true (is_value (run (drop at f))) (ended_at f e (at + length (run (drop at f))) (decimal 0 (run (drop at f)))) None
