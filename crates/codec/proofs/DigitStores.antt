-- The digits of a number, one and two at a time.
use Prim.Native.Nat.{ℕ, ◌+◌, ◌/◌, ◌≤◌, ◌<◌}
use mathlib.Core.Path.{◌≡◌, refl, ◌∙◌}
use mathlib.Core.Bool.{Bool, true, false}
use lib.Dec.{leb}
use mir.Val.{bool_byte}
use borrow.Author.Tests.{leb-true, leb-false}
use mathlib.Core.List.{List, [], ◌∷◌, ◌++◌, append_assoc}
use native.Mathlib.Omega.{arith}
use native.Mathlib.Decide.{dec_lt}
use lib.ListN.{length, set, length-append}
use Rattle.model.specs.Choice.{if_lt}
use Rattle.model.specs.Values.{digit_at, digits}
use Rattle.basics.proofs.Choices.{lt_yes, lt_no, lt_then, lt_else}
use Rattle.codec.specs.Writing.{one, two, value_text, Puts}
use Rattle.codec.proofs.Stores.{puts-byte, puts-both, puts-long}

-- A digit of a part of a number is one of the number.
part-digit : (p q k v : ℕ) → v / k / p ≡ v / q → digit_at p (v / k) ≡ digit_at q v
unfolding digit_at
part-digit p q k v e = rw e

module _ (v : ℕ) where
  pub one-digit : v < 10 → digits v ≡ one v
  unfolding digits one
  one-digit h = lt_then _ _ _ _ h

  one-wide : v < 10 → 1 ≡ length (digits v)
  unfolding one
  one-wide h = rw (one-digit h)

  module _ (g : 10 ≤ v) where
    pub two_digits : v < 100 → digits v ≡ two v
    unfolding digits two
    two_digits h = lt_else _ _ _ _ g ∙ lt_then _ _ _ _ h

    two-wide : v < 100 → 2 ≡ length (digits v)
    unfolding two
    two-wide h = rw (two_digits h)

    module _ (k : 100 ≤ v) where
      pub three_digits : v < 1000 → digits v ≡ one (v / 100) ++ two v
      unfolding digits one two
      three_digits h =
          lt_else _ _ _ _ g ∙ lt_else _ _ _ _ k ∙ lt_then _ _ _ _ h ∙ rw (part-digit 1 100 100 v (omega arith))

      pub three_wide : v < 1000 → 3 ≡ length (digits v)
      unfolding one two
      three_wide h = rw (three_digits h)

      module _ (l : 1000 ≤ v) where
        pub four_digits : v < 10000 → digits v ≡ two (v / 100) ++ two v
        unfolding digits two
        four_digits h =
            lt_else _ _ _ _ g ∙ lt_else _ _ _ _ k ∙ lt_else _ _ _ _ l ∙ lt_then _ _ _ _ h
            ∙ rw (part-digit 1 100 100 v (omega arith), part-digit 10 1000 100 v (omega arith))

        pub four_wide : v < 10000 → 4 ≡ length (digits v)
        unfolding two
        four_wide h = rw (four_digits h)

        pub five_digits : 10000 ≤ v → digits v ≡ (one (v / 10000) ++ two (v / 100)) ++ two v
        unfolding digits one two
        five_digits h =
            lt_else _ _ _ _ g ∙ lt_else _ _ _ _ k ∙ lt_else _ _ _ _ l ∙ lt_else _ _ _ _ h
            ∙ rw (part-digit 1 100 100 v (omega arith), part-digit 10 1000 100 v (omega arith), part-digit 1 10000 10000 v (omega arith))

        pub five_parts : 10000 ≤ v → digits v ≡ one (v / 10000) ++ (two (v / 100) ++ two v)
        five_parts h = five_digits h ∙ append_assoc (one (v / 10000)) (two (v / 100)) (two v)

        pub five_wide : 10000 ≤ v → 5 ≡ length (digits v)
        unfolding one two
        five_wide h = rw (five_digits h)

-- What is stored for them.
module _ (q : ℕ) (o : List ℕ) where
  pub puts_one : (d : ℕ) → d ≡ digit_at 1 q → Puts (one q) o 0 1 (set o 0 d)
  unfolding one
  puts_one d e = rw (← e) (puts-byte o 0 d)

  pub puts_two : (d e : ℕ) → d ≡ digit_at 1 (q / 10) → e ≡ digit_at 1 q → Puts (two q) o 0 2 (set (set o 0 d) 1 e)
  unfolding two
  puts_two d e f g = rw (← f ∙ part-digit 1 10 10 q (omega arith), ← g) (puts-both (puts-byte o 0 d) (puts-byte (set o 0 d) 1 e))

-- A value and the byte behind it.
pub value-long : (v e : ℕ) → length (value_text v e) ≡ length (digits v) + 1
unfolding value_text
value-long v e = length-append (digits v) (e ∷ [])

pub value_room : (v e n : ℕ) → length (value_text v e) ≤ n → length (digits v) ≤ n
value_room v e n h = omega (arith, value-long v e)

module _ (v i : ℕ) (o p : List ℕ) (s : Puts (digits v) o 0 i p) where
  pub end-room : (e : ℕ) → length (value_text v e) ≤ length o → i < length p
  end-room e h = omega (arith, value-long v e, puts-long s, s.place)

  pub puts-value : (e : ℕ) → Puts (value_text v e) o 0 (i + 1) (set p i e)
  unfolding value_text
  puts-value e = puts-both s (puts-byte p i e)

-- 1 where a limit is reached.
pub reach_value : (r v l : ℕ) → r ≡ bool_byte (leb l v) → r ≡ if_lt v l 0 1
reach_value r v l e = go (leb l v) refl e
  where
    go : (t : Bool) → leb l v ≡ t → r ≡ bool_byte t → r ≡ if_lt v l 0 1
    go true t e = lt_no v l 0 1 r (leb-true l v t) e
    go false t e = lt_yes v l 0 1 r (leb-false l v t) e

-- How many digits: one, and one more for each limit that is reached.
pub width_sum : (v a b c d : ℕ) → a ≡ if_lt v 10 0 1 → b ≡ if_lt v 100 0 1 → c ≡ if_lt v 1000 0 1 → d ≡ if_lt v 10000 0 1
    → 1 + a + b + c + d ≡ length (digits v)
width_sum v a b c d p q r s = go (dec_lt v 10) (dec_lt v 100) (dec_lt v 1000) (dec_lt v 10000)
  where
    below : (n : ℕ) → v < n → ◌≡◌ {A = ℕ} (if_lt v n 0 1) 0
    below n h = lt_then v n 0 1 h

    above : (n : ℕ) → n ≤ v → ◌≡◌ {A = ℕ} (if_lt v n 0 1) 1
    above n h = lt_else v n 0 1 h

    go : Dec (v < 10) → Dec (v < 100) → Dec (v < 1000) → Dec (v < 10000) → 1 + a + b + c + d ≡ length (digits v)
    go (yes h) i j k =
        omega (arith, one-wide v h, below 10 h, below 100 (omega arith), below 1000 (omega arith), below 10000 (omega arith))
    go (no h) (yes i) j k =
        omega (arith, two-wide v (omega arith) i, above 10 (omega arith), below 100 i, below 1000 (omega arith), below 10000 (omega arith))
    go (no h) (no i) (yes j) k =
        omega (
          arith,
          three_wide v (omega arith) (omega arith) j,
          above 10 (omega arith),
          above 100 (omega arith),
          below 1000 j,
          below 10000 (omega arith),
        )
    go (no h) (no i) (no j) (yes k) =
        omega (
          arith,
          four_wide v (omega arith) (omega arith) (omega arith) k,
          above 10 (omega arith),
          above 100 (omega arith),
          above 1000 (omega arith),
          below 10000 k,
        )
    go (no h) (no i) (no j) (no k) =
        omega (
          arith,
          five_wide v (omega arith) (omega arith) (omega arith) (omega arith),
          above 10 (omega arith),
          above 100 (omega arith),
          above 1000 (omega arith),
          above 10000 (omega arith),
        )
