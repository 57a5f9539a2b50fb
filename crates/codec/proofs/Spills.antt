-- Values that are stored with bytes behind them, which the next text overwrites; and the table that they are copied from.
use Prim.Native.Nat.{ℕ, zero, suc, ◌+◌, ◌*◌, ◌-◌, ◌≤◌, ◌<◌}
use mathlib.Core.Path.{◌≡◌, refl, sym, ◌∙◌, ap}
use mathlib.Core.List.{List, [], ◌∷◌, ◌++◌, append-nil, append_assoc}
use native.Mathlib.Omega.{arith}
use native.Mathlib.Decide.{dec_lt}
use lib.ListN.{length, get_or, take, drop, set, length-append}
use lib.Seq.{sets, length-sets, length-take-le, set-set, set_comm, take_at, get_or_at, take-append-add, drop-append-add}
use Rattle.model.specs.Choice.{if_lt}
use Rattle.model.specs.Values.{digit_zero}
use Rattle.model.specs.Text.{comma}
use Rattle.basics.proofs.Choices.{lt_then, lt_else}
use Rattle.codec.specs.Writing.{table_size, text_size, value_text, Puts, Spills, four_bytes, short_text, short_texts}
use Rattle.codec.proofs.Stores.{sets_both, sets-part}
use Rattle.codec.proofs.DigitStores.{value-long, width_sum}

-- A text that is as long as one before it overwrites that.
set-sets : (a l : List ℕ) (i j x : ℕ) → i < j → set (sets l j a) i x ≡ sets (set l i x) j a
set-sets [] l i j x h = refl
set-sets (y ∷ a) l i j x h =
    set-sets a (set l j y) i (suc j) x (omega arith)
    ∙ ap (λ (m : List ℕ). sets m (suc j) a) (set_comm l j i y x (λ e. omega arith))

sets_over : (a b o : List ℕ) (at : ℕ) → length a ≤ length b → sets (sets o at a) at b ≡ sets o at b
sets_over [] b o at h = refl
sets_over (x ∷ a) [] o at h = absurd (omega arith)
sets_over (x ∷ a) (y ∷ b) o at h =
    ap (λ (m : List ℕ). sets m (suc at) b)
    (set-sets a (set o at x) at (suc at) y (omega arith) ∙ ap (λ (m : List ℕ). sets m (suc at) a) (set-set o at x y))
    ∙ sets_over a b (set o at y) (suc at) (omega arith)

sets_next : (a m b o : List ℕ) (at : ℕ) → length m ≤ length b → sets (sets o at (a ++ m)) (at + length a) b ≡ sets o at (a ++ b)
sets_next a m b o at h =
    ap (λ (l : List ℕ). sets l (at + length a) b) (sym (sets_both a m o at))
    ∙ sets_over m b (sets o at a) (at + length a) h
    ∙ sets_both a b o at

pub spills_long : {a o p : List ℕ} {at i : ℕ} → Spills a o at i p → length p ≡ length o
spills_long {a} {o} {p} {at} s = ap length s.bytes ∙ length-sets o at (a ++ s.more)

-- What is written to the start of the part that is lent.
pub spills-part : {a o zs : List ℕ} {at n : ℕ} → Spills a (take (length o - at) (drop at o)) 0 n zs
    → Spills a o at (at + n) (take at o ++ (zs ++ drop (length o - at) (drop at o)))
spills-part {a} {o} {zs} {at} s =
    record {
      more = s.more;
      few = s.few;
      place = omega (arith, s.place);
      bytes = sets-part (a ++ s.more) o zs at s.bytes;
    }

pub puts-spill : {a o p : List ℕ} {at i : ℕ} → Puts a o at i p → Spills a o at i p
puts-spill {a} s = record { more = []; few = omega arith; place = s.place; bytes = s.bytes ∙ rw (append-nil a) }

module _ {a b o p q : List ℕ} {at i j : ℕ} (s : Spills a o at i p) (h : 2 ≤ length b) where
  spills_both : Spills b p i j q → Spills (a ++ b) o at j q
  spills_both t =
      let l : length s.more ≤ length (b ++ t.more) = rw (length-append b t.more) (omega (arith, s.few)) in
      record {
        more = t.more;
        few = t.few;
        place = rw (length-append a b) (omega (arith, s.place, t.place));
        bytes =
            t.bytes
            ∙ rw (s.bytes, s.place) (sets_next a s.more (b ++ t.more) o at l ∙ ap (sets o at) (sym (append_assoc a b t.more)));
      }

  spills_puts : Puts b p i j q → Puts (a ++ b) o at j q
  spills_puts t =
      record {
        place = rw (length-append a b) (omega (arith, s.place, t.place));
        bytes = t.bytes ∙ rw (s.bytes, s.place) (sets_next a s.more b o at (omega (arith, s.few)));
      }

-- A text is stored so up to a place: what is left of it.
pub record Spilled (whole rest o : List ℕ) (from at : ℕ) (p : List ℕ) : Type 0 where
  pub done : List ℕ
  pub split : done ++ rest ≡ whole
  pub spills : Spills done o from at p

pub spilled_begin : (w o : List ℕ) (from : ℕ) → Spilled w w o from from o
spilled_begin w o from =
    record {
      done = [];
      split = refl;
      spills = record { more = []; few = omega arith; place = omega arith; bytes = refl };
    }

module _ (w rest a b o p : List ℕ) (from at : ℕ) (e : rest ≡ a ++ b) (h : 2 ≤ length a) (s : Spilled w rest o from at p) where
  pub spilled_on : (q : List ℕ) (next : ℕ) → Spills a p at next q → Spilled w b o from next q
  spilled_on q next t =
      record {
        done = s.done ++ a;
        split = append_assoc s.done a b ∙ rw e at s.split;
        spills = spills_both s.spills h t;
      }

  pub spilled_end : (q : List ℕ) (next : ℕ) → b ≡ [] → Puts a p at next q → Puts w o from next q
  spilled_end q next n t =
      let f : rest ≡ a = e ∙ rw n (append-nil a) in
      rw (rw f at s.split) at (spills_puts s.spills h t)

  pub spilled_room : from + length w ≤ length o → at + length a + length b ≤ length p
  spilled_room k =
      let l : length w ≡ length s.done + (length a + length b) =
      ap length (sym s.split) ∙ rw (e, length-append s.done (a ++ b), length-append a b) in
      omega (arith, spills_long s.spills, s.spills.place)

-- The table: four bytes and a digit for each value.
pub text-some : (v e : ℕ) → 2 ≤ length (value_text v e)
text-some v e = omega (arith, value-long v e, width_sum v _ _ _ _ refl refl refl refl)

four_long : (v : ℕ) → length (four_bytes v) ≡ 4
unfolding four_bytes
four_long v =
    length-take-le 4 (value_text v comma ++ (comma ∷ comma ∷ []))
    (rw (length-append (value_text v comma) (comma ∷ comma ∷ [])) (omega (arith, text-some v comma)))

short-long : (v : ℕ) → length (short_text v) ≡ text_size
unfolding short_text
short-long v = length-append (four_bytes v) ((digit_zero + length (value_text v comma)) ∷ []) ∙ rw (four_long v)

texts_long : (v n : ℕ) → length (short_texts v n) ≡ n * text_size
unfolding short_texts
texts_long v zero = refl
texts_long v (suc n) =
    length-append (short_text v) (short_texts (suc v) n) ∙ rw (short-long v, texts_long (suc v) n) (omega arith)

texts_at : (v n k : ℕ) → k < n → take text_size (drop (k * text_size) (short_texts v n)) ≡ short_text (v + k)
unfolding short_texts
texts_at v zero k h = absurd (omega arith)
texts_at v (suc n) zero h =
    let e : v + 0 ≡ v = omega arith in
    rw e (take_at (short_text v) (short_texts (suc v) n) text_size (short-long v))
texts_at v (suc n) (suc k) h =
    let e : suc k * text_size ≡ length (short_text v) + k * text_size = rw (short-long v) (omega arith) in
    let f : v + suc k ≡ suc v + k = omega arith in
    rw (e, f, drop-append-add (short_text v) (short_texts (suc v) n) (k * text_size)) (texts_at (suc v) n k (omega arith))

at_most_one : (v k : ℕ) → if_lt v k 0 1 ≤ 1
at_most_one v k = go (dec_lt v k)
  where
    go : Dec (v < k) → if_lt v k 0 1 ≤ 1
    go (yes h) = let e : ◌≡◌ {A = ℕ} (if_lt v k 0 1) 0 = lt_then v k 0 1 h in omega arith
    go (no h) = let e : ◌≡◌ {A = ℕ} (if_lt v k 0 1) 1 = lt_else v k 0 1 (omega arith) in omega arith

-- What stands there for a value is its text.
module _ (v n : ℕ) (ts : List ℕ) (h : v < table_size) (e : n ≡ v) (t : ts ≡ short_texts 0 table_size) where
  pub text_room : n * text_size + text_size ≤ length ts
  text_room = rw (t, texts_long 0 table_size) (omega arith)

  pub entry : take (n * text_size + text_size - n * text_size) (drop (n * text_size) ts) ≡ short_text v
  entry =
      let z : 0 + v ≡ v = omega arith in
      let d : n * text_size + text_size - n * text_size ≡ text_size = omega arith in
      rw (d, e, t, texts_at 0 table_size v h, z)

module _ (v : ℕ) (ys : List ℕ) (y : ys ≡ short_text v) where
  pub four_room : 4 ≤ length ys
  four_room = rw y (omega (arith, short-long v))

  pub size_room : 4 < length ys
  size_room = rw y (omega (arith, short-long v))

  size-at : get_or ys 4 0 ≡ digit_zero + length (value_text v comma)
  unfolding short_text
  size-at = rw y (get_or_at (four_bytes v) (digit_zero + length (value_text v comma)) [] 0 4 (four_long v))

  pub size-digit : digit_zero ≤ get_or ys 4 0
  size-digit = omega (arith, size-at)

  four_at : take 4 ys ≡ four_bytes v
  unfolding short_text
  four_at = rw y (take_at (four_bytes v) ((digit_zero + length (value_text v comma)) ∷ []) 4 (four_long v))

  module _ (h : v < table_size) where
    short-wide : length (value_text v comma) ≤ 4
    short-wide =
        omega (
          arith,
          value-long v comma,
          width_sum v _ _ 0 0 refl refl (sym (lt_then v 1000 0 1 (omega arith))) (sym (lt_then v 10000 0 1 (omega arith))),
          at_most_one v 10,
          at_most_one v 100,
        )

    pub comma-short : (o r : List ℕ) (w : ℕ) → r ≡ sets o 0 (take 4 ys) → w ≡ get_or ys 4 0 - digit_zero → Spills (value_text v comma) o 0 w r
    unfolding four_bytes
    comma-short o r w g s =
        let rest = comma ∷ comma ∷ [] in
        let m = 4 - length (value_text v comma) in
        let k : 4 ≡ length (value_text v comma) + m = omega (arith, short-wide) in
        let f : four_bytes v ≡ value_text v comma ++ take m rest =
        ap (λ (j : ℕ). take j (value_text v comma ++ rest)) k ∙ take-append-add (value_text v comma) rest m in
        record {
          more = take m rest;
          few = omega (arith, length-take-le m rest (omega (arith, text-some v comma)), text-some v comma);
          place = omega (arith, size-at);
          bytes = g ∙ rw four_at (ap (sets o 0) f);
        }

pub comma-room : (v n : ℕ) → length (value_text v comma) + 2 ≤ n → 4 ≤ n
comma-room v n h = omega (arith, text-some v comma)

pub value-comma : (v n : ℕ) → length (value_text v comma) + 2 ≤ n → length (value_text v comma) ≤ n
value-comma v n h = omega arith

-- Four bytes that are copied.
pub four_stored : (f o : List ℕ) → 4 ≤ length f
    → set (set (set (set o 0 (get_or f 0 0)) 1 (get_or f 1 0)) 2 (get_or f 2 0)) 3 (get_or f 3 0) ≡ sets o 0 (take 4 f)
four_stored [] o h = absurd (omega arith)
four_stored (a ∷ []) o h = absurd (omega arith)
four_stored (a ∷ b ∷ []) o h = absurd (omega arith)
four_stored (a ∷ b ∷ c ∷ []) o h = absurd (omega arith)
four_stored (a ∷ b ∷ c ∷ d ∷ f) o h = refl
