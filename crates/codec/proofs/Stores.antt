-- Texts that are stored one behind the other.
use Prim.Native.Nat.{ℕ, suc, ◌+◌, ◌-◌, ◌≤◌}
use mathlib.Core.Path.{◌≡◌, refl, sym, ◌∙◌, ap}
use mathlib.Core.List.{List, [], ◌∷◌, ◌++◌, append-nil, append_assoc}
use native.Mathlib.Omega.{arith}
use lib.ListN.{length, set, take, drop, length-append, length-drop, take-append-drop, drop_of_length-le}
use lib.Seq.{sets, length-sets, sets-eq, take_all, take-set-le, drop-set-add}
use Rattle.model.specs.Lists.{overwrite}
use Rattle.codec.specs.Writing.{Puts}

pub sets_both : (a b o : List ℕ) (at : ℕ) → sets (sets o at a) (at + length a) b ≡ sets o at (a ++ b)
sets_both [] b o at = let k : at + 0 ≡ at = omega arith in rw k
sets_both (x ∷ a) b o at =
    let k : at + suc (length a) ≡ suc at + length a = omega arith in
    rw k (sets_both a b (set o at x) (suc at))

pub puts_none : (o : List ℕ) (at : ℕ) → Puts [] o at at o
puts_none o at = record { place = omega arith; bytes = refl }

pub puts-byte : (o : List ℕ) (at e : ℕ) → Puts (e ∷ []) o at (at + 1) (set o at e)
puts-byte o at e = record { place = refl; bytes = refl }

pub puts-both : {a b o p q : List ℕ} {at i j : ℕ} → Puts a o at i p → Puts b p i j q → Puts (a ++ b) o at j q
puts-both {a} {b} {o} {p} {q} {at} s t =
    record {
      place = rw (length-append a b) (omega (arith, s.place, t.place));
      bytes = t.bytes ∙ rw (s.bytes, s.place) (sets_both a b o at);
    }

pub puts-as : {a b o p : List ℕ} {at i : ℕ} → b ≡ a → Puts a o at i p → Puts b o at i p
puts-as e s = rw e s

pub puts-long : {a o p : List ℕ} {at i : ℕ} → Puts a o at i p → length p ≡ length o
puts-long {a} {o} {p} {at} s = ap length s.bytes ∙ length-sets o at a

-- What is lent is the part of a list from a place on: what is written to its start is written to the list from that place on.
sets_behind : (a o : List ℕ) (at i : ℕ) → take at o ++ sets (drop at o) i a ≡ sets o (at + i) a
sets_behind [] o at i = take-append-drop at o
sets_behind (x ∷ a) o at i =
    let k : at + suc i ≡ suc (at + i) = omega arith in
    rw (← take-set-le at o (at + i) x (omega arith), ← drop-set-add at o i x) (sets_behind a (set o (at + i) x) at (suc i) ∙ rw k)

part_all : (o : List ℕ) (at : ℕ) → take (length o - at) (drop at o) ≡ drop at o
part_all o at = take_all (length o - at) (drop at o) (omega (arith, length-drop at o))

part_none : (o : List ℕ) (at : ℕ) → drop (length o - at) (drop at o) ≡ []
part_none o at = drop_of_length-le (drop at o) {i = length o - at} (omega (arith, length-drop at o))

pub sets-part : (a o zs : List ℕ) (at : ℕ) → zs ≡ sets (take (length o - at) (drop at o)) 0 a
    → take at o ++ (zs ++ drop (length o - at) (drop at o)) ≡ sets o at a
sets-part a o zs at e =
    let k : at + 0 ≡ at = omega arith in
    rw (e, part_all o at, part_none o at, append-nil (sets (drop at o) 0 a)) (sets_behind a o at 0 ∙ rw k)

pub puts-part : {a o zs : List ℕ} {at n : ℕ} → Puts a (take (length o - at) (drop at o)) 0 n zs
    → Puts a o at (at + n) (take at o ++ (zs ++ drop (length o - at) (drop at o)))
puts-part {a} {o} {zs} {at} s = record { place = omega (arith, s.place); bytes = sets-part a o zs at s.bytes }

pub part-room : (o : List ℕ) (at n : ℕ) → at + n ≤ length o → n ≤ length (take (length o - at) (drop at o))
part-room o at n h = rw (part_all o at, length-drop at o) (omega arith)

-- Two texts, one behind the other.
pub puts-then : {a b o p zs : List ℕ} {i j : ℕ} → Puts a o 0 i p → Puts b (take (length p - i) (drop i p)) 0 j zs
    → Puts (a ++ b) o 0 (i + j) (take i p ++ (zs ++ drop (length p - i) (drop i p)))
puts-then s t = puts-both s (puts-part t)

-- Room for a text is room for its parts.
pub room-same : (a w : List ℕ) (at n : ℕ) → w ≡ a → at + length w ≤ n → at + length a ≤ n
room-same a w at n e h = rw e at h

pub room_next : (a b w o p : List ℕ) (at i : ℕ) → w ≡ a ++ b → at + length w ≤ length o → Puts a o at i p
    → i + length b ≤ length p
room_next a b w o p at i e h s = omega (arith, ap length e ∙ length-append a b, puts-long s, s.place)

module _ (a b w o p : List ℕ) (i : ℕ) (e : w ≡ a ++ b) (h : length w ≤ length o) (s : Puts a o 0 i p) where
  pub room-behind : i ≤ length p
  room-behind = omega (arith, room_next a b w o p 0 i e (omega arith) s)

  pub room-part : length b ≤ length (take (length p - i) (drop i p))
  room-part = part-room p i (length b) (room_next a b w o p 0 i e (omega arith) s)

-- A text is stored up to a place: what is left of it.
pub record Stored (whole rest o : List ℕ) (from at : ℕ) (p : List ℕ) : Type 0 where
  pub done : List ℕ
  pub split : done ++ rest ≡ whole
  pub puts : Puts done o from at p

pub stored-begin : (w o : List ℕ) (from : ℕ) → Stored w w o from from o
stored-begin w o from = record { done = []; split = refl; puts = puts_none o from }

module _ (w rest a b o p : List ℕ) (from at : ℕ) (e : rest ≡ a ++ b) (s : Stored w rest o from at p) where
  pub stored_on : (q : List ℕ) (next : ℕ) → Puts a p at next q → Stored w b o from next q
  stored_on q next t =
      record {
        done = s.done ++ a;
        split = append_assoc s.done a b ∙ rw (e) at s.split;
        puts = puts-both s.puts t;
      }

  pub stored-room : from + length w ≤ length o → at + length a ≤ length p
  stored-room h =
      let l : length w ≡ length s.done + (length a + length b) =
      ap length (sym s.split) ∙ rw (e, length-append s.done (a ++ b), length-append a b) in
      omega (arith, puts-long s.puts, s.puts.place)

-- The same of a text that is stored from the start on, and goes on in the part that is lent.
module _ (w rest a b o p : List ℕ) (at : ℕ) (e : rest ≡ a ++ b) (s : Stored w rest o 0 at p) where
  pub stored-then : (n : ℕ) (zs : List ℕ) → Puts a (take (length p - at) (drop at p)) 0 n zs
      → Stored w b o 0 (at + n) (take at p ++ (zs ++ drop (length p - at) (drop at p)))
  stored-then n zs t = stored_on w rest a b o p 0 at e s _ (at + n) (puts-part t)

  module _ (h : length w ≤ length o) where
    pub stored-fits : at + length a ≤ length p
    stored-fits = stored-room w rest a b o p 0 at e s (omega arith)

    pub stored-part : length a ≤ length (take (length p - at) (drop at p))
    stored-part = part-room p at (length a) stored-fits

pub stored-end : (w rest o p : List ℕ) (from at : ℕ) → rest ≡ [] → Stored w rest o from at p → Puts w o from at p
stored-end w rest o p from at e s =
    let q : s.done ≡ w = sym (append-nil s.done) ∙ rw e at s.split in
    rw q at s.puts

-- A text that is stored from the start on overwrites the beginning.
pub puts-over : (w o p : List ℕ) (next : ℕ) → length w ≤ length o → Puts w o 0 next p → p ≡ overwrite w o
unfolding overwrite
puts-over w o p next h s =
    let k : 0 + length w ≡ length w = omega arith in
    s.bytes ∙ sets-eq w o 0 (omega arith) ∙ rw k

-- And one that overwrites the beginning is stored from the start on.
pub puts_start : (w o zs : List ℕ) → length w ≤ length o → zs ≡ w → Puts w o 0 (length w) (zs ++ drop (length w) o)
puts_start w o zs h e =
    let k : 0 + length w ≡ length w = omega arith in
    record {
      place = omega arith;
      bytes = rw e (sym (sets-eq w o 0 (omega arith) ∙ rw k));
    }
