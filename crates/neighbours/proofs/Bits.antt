-- Laws of bits.
use Prim.Native.Nat.{ℕ, zero, suc, ◌*◌, ◌/◌, ◌%◌, ◌^◌, ◌<◌, max}
use native.Mathlib.Omega.{arith}
use native.Mathlib.Nat.{div-one, div-div-eq-div-mul, pow-succ', max-zero}
use mathlib.Core.Path.{◌≡◌, refl, sym, ◌∙◌, ap}
use lib.Bits.{bit_or, or_step, or_zero_r, shifted_half, shifted_even}
use Rattle.neighbours.specs.Records.{bit_at, set_bit}

bit_zero : (b : ℕ) → bit_at b 0 ≡ b % 2
bit_zero b = ap (λ (x : ℕ). x % 2) (div-one b)

bit_suc : (b n : ℕ) → bit_at b (suc n) ≡ bit_at (b / 2) n
bit_suc b n = ap (λ (x : ℕ). x % 2) (ap (λ (x : ℕ). b / x) (pow-succ' 2 n) ∙ sym (div-div-eq-div-mul b 2 (2 ^ n)))

-- The first bit of two numbers joined, and the rest.
or_first : (a b : ℕ) → bit_or a b % 2 ≡ max (a % 2) (b % 2)
or_first a b = omega (arith, or_step a b)

or_rest : (a b : ℕ) → bit_or a b / 2 ≡ bit_or (a / 2) (b / 2)
or_rest a b = omega (arith, or_step a b)

half_one : (n : ℕ) → 1 * 2 ^ suc n / 2 ≡ 1 * 2 ^ n
half_one n = shifted_half 1 n

or_same : (b n : ℕ) → bit_at (bit_or b (1 * 2 ^ n)) n ≡ 1
or_same b zero = bit_zero (bit_or b 1) ∙ or_first b 1 ∙ omega arith
or_same b (suc n) =
    bit_suc (bit_or b (1 * 2 ^ suc n)) n
    ∙ ap (λ (x : ℕ). bit_at x n) (or_rest b (1 * 2 ^ suc n) ∙ ap (bit_or (b / 2)) (half_one n))
    ∙ or_same (b / 2) n

or_other : (b n j : ℕ) → (j ≡ n → ⊥) → bit_at (bit_or b (1 * 2 ^ n)) j ≡ bit_at b j
or_other b zero zero h = absurd (h refl)
or_other b zero (suc j) h =
    bit_suc (bit_or b 1) j
    ∙ ap (λ (x : ℕ). bit_at x j) (or_rest b 1 ∙ or_zero_r (b / 2))
    ∙ sym (bit_suc b j)
or_other b (suc n) zero h =
    bit_zero (bit_or b (1 * 2 ^ suc n)) ∙ or_first b (1 * 2 ^ suc n) ∙ ap (max (b % 2)) (shifted_even 1 n) ∙ max-zero (b % 2) ∙ sym (bit_zero b)
or_other b (suc n) (suc j) h =
    bit_suc (bit_or b (1 * 2 ^ suc n)) j
    ∙ ap (λ (x : ℕ). bit_at x j) (or_rest b (1 * 2 ^ suc n) ∙ ap (bit_or (b / 2)) (half_one n))
    ∙ or_other (b / 2) n j (λ e. h (ap suc e))
    ∙ sym (bit_suc b j)

-- A bit of a byte.
one_byte : (n : ℕ) → n < 8 → (1 * 2 ^ n) % 256 ≡ 1 * 2 ^ n
one_byte zero h = refl
one_byte (suc zero) h = refl
one_byte (suc (suc zero)) h = refl
one_byte (suc (suc (suc zero))) h = refl
one_byte (suc (suc (suc (suc zero)))) h = refl
one_byte (suc (suc (suc (suc (suc zero))))) h = refl
one_byte (suc (suc (suc (suc (suc (suc zero)))))) h = refl
one_byte (suc (suc (suc (suc (suc (suc (suc zero))))))) h = refl
one_byte (suc (suc (suc (suc (suc (suc (suc (suc n)))))))) h = absurd (omega arith)

pub set_same : (b n : ℕ) → n < 8 → bit_at (set_bit b n) n ≡ 1
set_same b n h = rw (one_byte n h) (or_same b n)

pub set_other : (b n j : ℕ) → n < 8 → (j ≡ n → ⊥) → bit_at (set_bit b n) j ≡ bit_at b j
set_other b n j h e = rw (one_byte n h) (or_other b n j e)

pub bit_none : (b n : ℕ) → b ≡ 0 → bit_at b n ≡ 1 → ⊥
bit_none b zero e f = absurd (omega (arith, bit_zero b))
bit_none b (suc n) e f = bit_none (b / 2) n (omega arith) (sym (bit_suc b n) ∙ f)
