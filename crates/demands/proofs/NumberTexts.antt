-- Numbers are printed as their texts, and a line of them is the texts with commas between.
use Prim.Native.Nat.{ℕ, zero, suc, ◌+◌, ◌*◌, ◌-◌, ◌/◌, ◌%◌, ◌≤◌, ◌<◌}
use native.Mathlib.Omega.{arith}
use native.Mathlib.Decide.{dec_lt}
use mathlib.Core.Path.{◌≡◌, ◌∙◌, ap}
use mathlib.Core.Logic.{◌≢◌}
use mathlib.Core.List.{List, [], ◌∷◌, ◌++◌, map, map-append}
use lib.ListN.{length, get_or, length-append}
use Rattle.model.specs.Values.{decimal}
use Rattle.model.specs.Printed.{number_text, values_text}
use Rattle.basics.specs.Members.{Each}
use Rattle.basics.proofs.Every.{each_append}
use Rattle.basics.proofs.Digits.{decimal-last}
use Rattle.basics.proofs.Printed.{ten_to, number-one, number_more}
use Rattle.demands.specs.Words.{IsDigit}
use Rattle.demands.specs.Printed.{NumberText, NumbersLine, last, next}

-- The text of a number from 1 on begins with no 0.
first-digit : (t : List ℕ) (n : ℕ) → NumberText t n → 1 ≤ n → get_or t 0 0 ≢ 48
unfolding decimal
first-digit [] n s h e = omega (arith, s.some)
first-digit (b ∷ []) n s h e = omega (arith, s.number)
first-digit (b ∷ c ∷ t) n s h e = s.no_padding (omega arith) e

-- One digit; and the text of a number's tenth with one digit more.
one-digit : (n : ℕ) → n < 10 → NumberText ((48 + n) ∷ []) n
unfolding decimal
one-digit n h = record { all_digits = (omega arith, tt); some = omega arith; no_padding = λ l. absurd (omega arith); number = omega arith }

one_more_is : (t : List ℕ) (n : ℕ) → 10 ≤ n → NumberText t (n / 10) → NumberText (t ++ ((48 + n % 10) ∷ [])) n
one_more_is t n h s =
    record {
      all_digits = each_append IsDigit t ((48 + n % 10) ∷ []) s.all_digits (omega arith, tt);
      some = omega (arith, s.some, length-append t ((48 + n % 10) ∷ []));
      no_padding = λ l e. first-digit t (n / 10) s (omega arith) (first t s.some e);
      number =
          ap (decimal 0) (map-append (λ (b : ℕ). b - 48) t ((48 + n % 10) ∷ []))
          ∙ decimal-last 0 (map (λ (b : ℕ). b - 48) t) (48 + n % 10 - 48)
          ∙ omega (arith, s.number);
    }
  where
    first : (t : List ℕ) → 1 ≤ length t → get_or (t ++ ((48 + n % 10) ∷ [])) 0 0 ≡ 48 → get_or t 0 0 ≡ 48
    first [] l e = absurd (omega arith)
    first (b ∷ t) l e = e

-- So as many digits as are allowed for are enough for numbers that have no more.
digits_number : (d n : ℕ) → n < 10 * ten_to d → NumberText (number_text (suc d) n) n
unfolding ten_to
digits_number zero n h = rw (number-one 0 n h) (one-digit n h)
digits_number (suc d) n h = go (digits_number d (n / 10)) (dec_lt n 10)
  where
    go : (n / 10 < 10 * ten_to d → NumberText (number_text (suc d) (n / 10)) (n / 10)) → Dec (n < 10) → NumberText (number_text (suc (suc d)) n) n
    go below (yes l) = rw (number-one (suc d) n l) (one-digit n l)
    go below (no l) = rw (number_more (suc d) n (omega arith)) (one_more_is _ n (omega arith) (below (omega arith)))

-- A number of at most ten digits.
abbrev pub Fits : ℕ → Type 0
Fits n = n < 10000000000

pub number-text : (n : ℕ) → Fits n → NumberText (number_text 10 n) n
unfolding ten_to
number-text n h = digits_number 9 n (omega arith)

-- A line of such numbers.
pub numbers-line : (n : ℕ) (ns : List ℕ) → Each Fits (n ∷ ns) → NumbersLine (values_text (n ∷ ns)) (n ∷ ns)
unfolding values_text
numbers-line n [] h = last (number-text n h.0)
numbers-line n (m ∷ ns) h = next (number-text n h.0) (numbers-line m ns h.1)
