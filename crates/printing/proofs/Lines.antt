-- Lines of values, stored value by value; and a text that stands at the start of a buffer.
use Prim.Native.Nat.{ℕ, ◌+◌, ◌-◌, ◌≤◌, ◌<◌, ◌/◌, ◌%◌}
use native.Mathlib.Omega.{arith}
use mathlib.Core.Path.{◌≡◌, sym, ◌∙◌, ap}
use mathlib.Core.List.{List, [], ◌∷◌, ◌++◌, append_assoc}
use lib.ListN.{length, set, take, drop, length-append}
use lib.Seq.{take_at}
use Rattle.model.specs.Lists.{overwrite}
use Rattle.model.specs.Values.{digit_at}
use Rattle.model.specs.Printed.{number_text, values_text}
use Rattle.basics.proofs.Printed.{number-one}
use Rattle.triples.specs.Marks.{label_places}
use Rattle.codec.specs.Writing.{Puts}
use Rattle.codec.proofs.Stores.{puts-byte, puts-both, puts-then, puts-as, puts-long, puts-over, part-room}
use Rattle.printing.specs.Stream.{ended_text, line_of, StartsWith}
use Rattle.printing.proofs.Numbers.{number-long, tenth}

-- A number and the byte behind it take at most 11 bytes.
ended-long : (n e : ℕ) → length (ended_text n e) ≤ 11
unfolding ended_text
ended-long n e = omega (arith, number-long 10 n, length-append (number_text 10 n) (e ∷ []))

-- One digit and that byte; or those of its tenth, with the last digit behind them, and that byte.
module _ (n d e : ℕ) (q : d ≡ digit_at 1 n) where
  pub puts_one : (o : List ℕ) → n < 10 → Puts (ended_text n e) o 0 2 (set (set o 0 d) 1 e)
  unfolding ended_text digit_at
  puts_one o h =
      let k : 48 + n ≡ d = omega arith in
      puts-as (rw (number-one 9 n h, k)) (puts-both (puts-byte o 0 d) (puts-byte (set o 0 d) 1 e))

  module _ (h : 10 ≤ n) (k : n < 4294967296) where
    tenth-ended : ended_text n e ≡ ended_text (n / 10) d ++ (e ∷ [])
    unfolding ended_text digit_at
    tenth-ended = let l : 48 + n % 10 ≡ d = omega arith in rw (tenth n h k, l)

    module _ (at : ℕ) (o p : List ℕ) (s : Puts (ended_text (n / 10) d) o 0 at p) where
      pub last-room : 11 ≤ length o → at < length p
      last-room l = omega (arith, ended-long n e, ap length tenth-ended, length-append (ended_text (n / 10) d) (e ∷ []), puts-long s, s.place)

      pub puts-last : Puts (ended_text n e) o 0 (at + 1) (set p at e)
      puts-last = puts-as tenth-ended (puts-both s (puts-byte p at e))

module _ (n e at : ℕ) (o p : List ℕ) (s : Puts (ended_text n e) o 0 at p) where
  -- Behind them there is room for what comes next.
  pub ended-fits : at ≤ 11
  ended-fits = omega (arith, ended-long n e, s.place)

  pub ended-room : 11 ≤ length o → at ≤ length p
  ended-room h = omega (arith, ended-fits, puts-long s)

  pub next-room : (k : ℕ) → k + 11 ≤ length o → k ≤ length (take (length p - at) (drop at p))
  next-room k h = part-room p at k (omega (arith, ended-fits, puts-long s))

-- A line is one such number, or one and the line of the others.
pub puts-value : (n at : ℕ) (o p : List ℕ) → Puts (ended_text n 10) o 0 at p → Puts (values_text (n ∷ [])) o 0 at p
unfolding ended_text values_text
puts-value n at o p s = s

pub puts-values : (n m at j : ℕ) (ns o p zs : List ℕ) → Puts (ended_text n 44) o 0 at p → Puts (values_text (m ∷ ns)) (take (length p - at) (drop at p)) 0 j zs
    → Puts (values_text (n ∷ m ∷ ns)) o 0 (at + j) (take at p ++ (zs ++ drop (length p - at) (drop at p)))
unfolding ended_text values_text
puts-values n m at j ns o p zs s t = puts-as (sym (append_assoc (number_text 10 n) (44 ∷ []) (values_text (m ∷ ns)))) (puts-then s t)

-- A line takes at most 11 bytes for each value.
pub value-long : (n : ℕ) → length (values_text (n ∷ [])) ≤ 11
unfolding ended_text values_text
value-long n = ended-long n 10

values-long : (n m k : ℕ) (ns : List ℕ) → length (values_text (m ∷ ns)) ≤ k → length (values_text (n ∷ m ∷ ns)) ≤ k + 11
unfolding values_text
values-long n m k ns h = omega (arith, number-long 10 n, length-append (number_text 10 n) (44 ∷ values_text (m ∷ ns)))

pub pair_long : (n m : ℕ) → length (values_text (n ∷ m ∷ [])) ≤ 22
pair_long n m = values-long n m 11 [] (value-long m)

pub line_long : (u p : ℕ) → length (line_of u p) ≤ 33
unfolding line_of
line_long u p = values-long u _ 22 _ (pair_long (p / label_places) (p % label_places))

pub value-fits : (n j : ℕ) (o p : List ℕ) → Puts (values_text (n ∷ [])) o 0 j p → j ≤ 11
value-fits n j o p s = omega (arith, value-long n, s.place)

pub pair-fits : (n m j : ℕ) (o p : List ℕ) → Puts (values_text (n ∷ m ∷ [])) o 0 j p → j ≤ 22
pair-fits n m j o p s = omega (arith, pair_long n m, s.place)

-- A text that is stored from the start on stands there; and so does one with another behind it.
pub begins : (w o p : List ℕ) (r : ℕ) → Puts w o 0 r p → length w ≤ length o → StartsWith w r p
unfolding overwrite
begins w o p r s h =
    let l : length w ≡ r = omega (arith, s.place) in
    record {
      fits = omega (arith, puts-long s);
      text = rw (puts-over w o p r h s) (take_at w (drop (length w) o) r l);
    }

pub titled : (t b o p zs : List ℕ) (at r k z : ℕ) → Puts t o 0 at p → Puts b (take (z - at) (drop at p)) 0 r zs → length b ≤ k → length t + k ≤ z
    → length o ≡ z → StartsWith (t ++ b) (at + r) (take at p ++ (zs ++ drop (z - at) (drop at p)))
titled t b o p zs at r k z s u h l e =
    let m : length (t ++ b) ≤ length o = omega (arith, length-append t b) in
    let q : z ≡ length p = sym (puts-long s ∙ e) in
    go q u m
  where
    go : z ≡ length p → Puts b (take (z - at) (drop at p)) 0 r zs → length (t ++ b) ≤ length o
        → StartsWith (t ++ b) (at + r) (take at p ++ (zs ++ drop (z - at) (drop at p)))
    go q u m = let w = rw q at u in rw q (begins (t ++ b) o _ (at + r) (puts-then s w) m)
