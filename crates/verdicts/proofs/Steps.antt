-- Laws of the small steps of the pass over the rows.
use Prim.Native.Nat.{ℕ, suc, ◌+◌, ◌*◌, ◌-◌, ◌≤◌, ◌<◌}
use native.Mathlib.Omega.{arith}
use mathlib.Core.Path.{◌≡◌, sym, ◌∙◌, ap}
use mathlib.Core.Bool.{Bool, true, false}
use mathlib.Core.List.{List}
use lib.ListN.{get_or}
use lib.Dec.{ltb, leb}
use borrow.Author.Tests.{lt-leb, le-leb}
use native.Mathlib.Decide.{dec_lt}
use Rattle.std.specs.Prelude.{min}
use Rattle.std.proofs.Math.Nat.{min-eq_left, min-eq_right, le-min}
use Rattle.model.specs.Choice.{if_lt, if_eq, if_true}
use Rattle.model.specs.Limits.{max_total}
use Rattle.basics.proofs.Choices.{lt_then, lt_else, eq_then, eq_else, true_then, true_else, lt_yes, lt_no, eq_yes, eq_no, lt_bool}
use Rattle.verdicts.specs.Passing.{capped, Many, cues_of, Carried, next_state, row_number_of, place_from}

-- A sum that stops at the largest number of 32 bits, held to one more than the largest total.
pub capped_min : (n s r : ℕ) → s ≡ min n 4294967295 → r ≡ min s 2147483648 → r ≡ capped n
unfolding capped
capped_min n s r e f = go (dec_lt max_total n)
  where
    go : Dec (max_total < n) → r ≡ if_lt max_total n (max_total + 1) n
    go (yes h) = f ∙ min-eq_right (rw e (min_of h)) ∙ sym (lt_then max_total n _ _ h)
      where
        min_of : max_total < n → 2147483648 ≤ min n 4294967295
        min_of k = le-min k (omega arith)
    go (no h) =
        let l : n ≤ max_total = omega arith in
        f ∙ ap (λ (x : ℕ). min x 2147483648) (e ∙ min-eq_left (omega arith)) ∙ min-eq_left (omega arith) ∙ sym (lt_else max_total n _ _ l)

-- No more than eight.
pub many-none : (many : ℕ) → 0 ≡ many → Many many 0
many-none many e = record { same = e; few = omega arith }

pub many-some : (many r : ℕ) → r ≡ many → r ≤ 8 → Many many r
many-some many r e h = record { same = e; few = h }

-- A choice by a number that is known under another name.
module _ {A : Type 0} where
  pub lt-yes' : (a b v : ℕ) (x y z : A) → v ≡ b → a < v → z ≡ x → z ≡ if_lt a b x y
  lt-yes' a b v x y z q h e = lt_yes a b x y z (rw q at h) e

  pub lt-no' : (a b v : ℕ) (x y z : A) → v ≡ b → v ≤ a → z ≡ y → z ≡ if_lt a b x y
  lt-no' a b v x y z q h e = lt_no a b x y z (rw q at h) e

-- What is carried on after an opening and after another row.
pub next-open : (xs : List ℕ) (p : ℕ) (s : Carried) (k own label c : ℕ) → k ≡ get_or xs (p + 1) 0 → k ≡ 0 → own ≡ get_or xs (p + 3) 0 → label ≡ get_or xs (p + 2) 0
    → c ≡ cues_of own label → ◌≡◌ {A = Carried} (record { blocks = s.blocks + 1; cues = c; kind = k }) (next_state xs p s)
unfolding next_state
next-open xs p s k own label c e z f g q = rw (q, f, g, e) (sym (eq_then _ _ _ _ (sym e ∙ z)))

pub next-other : (xs : List ℕ) (p : ℕ) (s : Carried) (k : ℕ) → k ≡ get_or xs (p + 1) 0 → (k ≡ 0 → ⊥)
    → ◌≡◌ {A = Carried} (record { blocks = s.blocks; cues = s.cues; kind = k }) (next_state xs p s)
unfolding next_state
next-other xs p s k e n = rw e (sym (eq_else _ _ _ _ (λ z. n (e ∙ z))))

-- A number that is no more than another, as a test.
pub le_bool : (a b v : ℕ) → v ≡ b → leb v a ≡ if_lt a b false true
le_bool a b v e = rw e (go (dec_lt a b))
  where
    go : Dec (a < b) → leb b a ≡ if_lt a b false true
    go (yes h) = lt-leb b a h ∙ sym (lt_then a b _ _ h)
    go (no h) = le-leb b a (omega arith) ∙ sym (lt_else a b _ _ (omega arith))

-- The first block that fails: what is left to look at from block k on.
module _ (ok : ℕ → Bool) (t : List ℕ) (n : ℕ) where
  abbrev pub PlaceRest : ℕ → Type 0
  PlaceRest k = place_from ok t 0 n ≡ place_from ok t k (n - k)

  pub place-begin : PlaceRest 0
  place-begin = let e : n - 0 ≡ n = omega arith in rw e

  place-turn : (k : ℕ) → PlaceRest k → k < n → place_from ok t 0 n ≡ if_true (ok k) (place_from ok t (k + 1) (n - (k + 1))) (row_number_of (get_or t (k * 4) 0))
  unfolding place_from
  place-turn k e h = let f : n - k ≡ suc (n - (k + 1)) = omega arith in e ∙ rw (f, place_from)

  pub place-on : (k : ℕ) (b : Bool) → PlaceRest k → k < n → b ≡ ok k → b ≡ true → PlaceRest (k + 1)
  place-on k b e h q z = place-turn k e h ∙ true_then _ _ _ (sym q ∙ z)

  pub place-stop : (k : ℕ) (b : Bool) (p : ℕ) → PlaceRest k → k < n → b ≡ ok k → b ≡ false → p ≡ row_number_of (get_or t (k * 4) 0) → p ≡ place_from ok t 0 n
  place-stop k b p e h q z x = x ∙ sym (place-turn k e h ∙ true_else _ _ _ (sym q ∙ z))

  pub place-done : (k : ℕ) → PlaceRest k → n ≤ k → 0 ≡ place_from ok t 0 n
  unfolding place_from
  place-done k e h = let f : n - k ≡ 0 = omega arith in sym (e ∙ rw (f, place_from))

module _ {A : Type 0} where
  pub eq-yes' : (a b v : ℕ) (x y z : A) → v ≡ a → v ≡ b → z ≡ x → z ≡ if_eq a b x y
  eq-yes' a b v x y z q h e = eq_yes a b x y z (sym q ∙ h) e

  pub eq-no' : (a b v : ℕ) (x y z : A) → v ≡ a → (v ≡ b → ⊥) → z ≡ y → z ≡ if_eq a b x y
  eq-no' a b v x y z q h e = eq_no a b x y z (λ p. h (q ∙ p)) e

-- A number that is more than 0, under another name.
pub some_bool : (j v : ℕ) → j ≡ v → ltb 0 j ≡ if_lt 0 v true false
some_bool j v e = rw e (lt_bool 0 v)
