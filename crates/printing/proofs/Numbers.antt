-- The digits of a number.
use Prim.Native.Nat.{ℕ, zero, suc, ◌+◌, ◌*◌, ◌/◌, ◌%◌, ◌≤◌, ◌<◌}
use native.Mathlib.Omega.{arith}
use mathlib.Core.Path.{◌≡◌, refl, sym, ◌∙◌, ap}
use mathlib.Core.Bool.{Bool, true, false}
use mathlib.Core.List.{List, [], ◌∷◌, ◌++◌}
use lib.ListN.{length, length-append}
use lib.Dec.{ltb}
use borrow.Author.Tests.{ltb-true, ltb-false}
use Rattle.model.specs.Printed.{number_text}
use Rattle.basics.proofs.Printed.{ten_to, number-one, number_more}

-- It has at most as many digits as it may have.
pub number-long : (d n : ℕ) → length (number_text d n) ≤ d
unfolding number_text
number-long zero n = omega arith
number-long (suc d) n = go (number-long d (n / 10)) (ltb n 10) refl
  where
    go : length (number_text d (n / 10)) ≤ d → (t : Bool) → ltb n 10 ≡ t → length (number_text (suc d) n) ≤ suc d
    go h true e = rw (e, number_text) (omega arith)
    go h false e = rw (e, number_text, length-append (number_text d (n / 10)) ((48 + n % 10) ∷ [])) (omega arith)

-- Where a number may have as many digits as it has, a larger bound changes nothing.
same_digits : (d e n : ℕ) → n < 10 * ten_to d → n < 10 * ten_to e → number_text (suc d) n ≡ number_text (suc e) n
unfolding ten_to
same_digits zero e n h k = number-one zero n h ∙ sym (number-one e n h)
same_digits (suc d) zero n h k = number-one (suc d) n k ∙ sym (number-one zero n k)
same_digits (suc d) (suc e) n h k = go (same_digits d e (n / 10) (omega arith) (omega arith)) (ltb n 10) refl
  where
    go : number_text (suc d) (n / 10) ≡ number_text (suc e) (n / 10) → (t : Bool) → ltb n 10 ≡ t
        → number_text (suc (suc d)) n ≡ number_text (suc (suc e)) n
    go p true t = number-one (suc d) n (ltb-true n 10 t) ∙ sym (number-one (suc e) n (ltb-true n 10 t))
    go p false t =
        number_more (suc d) n (ltb-false n 10 t) ∙ ap (λ (w : List ℕ). w ++ ((48 + n % 10) ∷ [])) p ∙ sym (number_more (suc e) n (ltb-false n 10 t))

-- So a number of the machine is the digits of its tenth and the last one.
pub tenth : (n : ℕ) → 10 ≤ n → n < 4294967296 → number_text 10 n ≡ number_text 10 (n / 10) ++ ((48 + n % 10) ∷ [])
unfolding ten_to
tenth n h k =
    number_more 9 n h ∙ ap (λ (w : List ℕ). w ++ ((48 + n % 10) ∷ [])) (same_digits 8 9 (n / 10) (omega arith) (omega arith))
