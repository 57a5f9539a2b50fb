-- Values in a text, said of its bytes: the text of a value, and what the laws of values are stated with. Document 02, Paper 1.
use Rattle.std.specs.Prelude.{ℕ, ◌+◌, ◌≤◌, ◌<◌, ◌≡◌, true, false, List, [], ◌∷◌, length}
use Rattle.model.specs.Limits.{max_value, max_digits}
use Rattle.model.specs.Values.{digit_zero, is_digit, run, after_run, decimal, is_value}
use Rattle.basics.specs.Members.{Each}

-- A digit as a number, and the bytes that some digits are written as.
abbrev pub Digit : ℕ → Type 0
Digit d = d < 10

abbrev pub shown : List ℕ → List ℕ
shown [] = []
shown (d ∷ ds) = (digit_zero + d) ∷ shown ds

-- "one to five digits, leading zeros allowed, still at most 65,535": the text t of value v, which is digits and nothing else. "Figures are
-- in base ten" (01).
pub record SpellsValue (t : List ℕ) (v : ℕ) : Type 0 where
  pub figures : List ℕ
  pub text : t ≡ shown figures
  pub each : Each Digit figures
  pub some : 1 ≤ length figures
  pub few : length figures ≤ max_digits
  pub number : decimal 0 figures ≡ v
  pub limit : v ≤ max_value

-- "A value is 0 to 65,535" (01).
abbrev pub Small : ℕ → Type 0
Small v = v ≤ max_value

-- A byte is no digit. Some bytes go on with no digit: they are at their end, or a byte that is no digit comes next.
abbrev pub Other : ℕ → Type 0
Other b = is_digit b ≡ false

abbrev pub NoDigit : List ℕ → Type 0
NoDigit [] = Unit {0}
NoDigit (b ∷ bs) = Other b

-- Bytes begin with a text of value v, and the rest follows.
pub record Reads (bs : List ℕ) (v : ℕ) (rest : List ℕ) : Type 0 where
  pub value : is_value (run bs) ≡ true
  pub number : decimal 0 (run bs) ≡ v
  pub after : after_run bs ≡ rest
