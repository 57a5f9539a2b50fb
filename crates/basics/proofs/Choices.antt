-- Laws of the choices if_lt, if_eq and ifTrue: which case is taken, in the form in which a proof about code asks for it; and back, what
-- a choice's result says of its test.
use Prim.Native.Nat.{ℕ, ◌<◌, ◌≤◌}
use mathlib.Core.Bool.{Bool, true, false, cond, false≢true}
use mathlib.Core.Path.{◌≡◌, refl, sym, ◌∙◌}
use lib.Dec.{eqb, ltb}
use borrow.Author.Tests.{lt-ltb, le-ltb, eq-eqb, ne_eqb, ltb-true, ltb-false, eqb-true, eqb-false}
use Rattle.model.specs.Choice.{if_lt, if_eq, if_true}

module _ {A : Type 0} where
  -- The case that a test picks.
  pub lt_yes : (a b : ℕ) (x y z : A) → a < b → z ≡ x → z ≡ if_lt a b x y
  unfolding if_lt
  lt_yes a b x y z h e = rw (lt-ltb a b h) e

  pub lt_no : (a b : ℕ) (x y z : A) → b ≤ a → z ≡ y → z ≡ if_lt a b x y
  unfolding if_lt
  lt_no a b x y z h e = rw (le-ltb a b h) e

  pub eq_yes : (a b : ℕ) (x y z : A) → a ≡ b → z ≡ x → z ≡ if_eq a b x y
  unfolding if_eq
  eq_yes a b x y z h e = rw (eq-eqb a b h) e

  pub eq_no : (a b : ℕ) (x y z : A) → (a ≡ b → ⊥) → z ≡ y → z ≡ if_eq a b x y
  unfolding if_eq
  eq_no a b x y z h e = rw (ne_eqb a b h) e

  pub true_yes : (t r : Bool) (x y z : A) → r ≡ t → r ≡ true → z ≡ x → z ≡ if_true t x y
  unfolding if_true
  true_yes t r x y z q h e = rw (sym q ∙ h) e

  pub true_no : (t r : Bool) (x y z : A) → r ≡ t → r ≡ false → z ≡ y → z ≡ if_true t x y
  unfolding if_true
  true_no t r x y z q h e = rw (sym q ∙ h) e

  -- The same, the other way round.
  pub lt_then : (a b : ℕ) (x y : A) → a < b → if_lt a b x y ≡ x
  unfolding if_lt
  lt_then a b x y h = rw (lt-ltb a b h)

  pub lt_else : (a b : ℕ) (x y : A) → b ≤ a → if_lt a b x y ≡ y
  unfolding if_lt
  lt_else a b x y h = rw (le-ltb a b h)

  pub eq_then : (a b : ℕ) (x y : A) → a ≡ b → if_eq a b x y ≡ x
  unfolding if_eq
  eq_then a b x y h = rw (eq-eqb a b h)

  pub eq_else : (a b : ℕ) (x y : A) → (a ≡ b → ⊥) → if_eq a b x y ≡ y
  unfolding if_eq
  eq_else a b x y h = rw (ne_eqb a b h)

  pub true_then : (t : Bool) (x y : A) → t ≡ true → if_true t x y ≡ x
  unfolding if_true
  true_then t x y h = rw h

  pub true_else : (t : Bool) (x y : A) → t ≡ false → if_true t x y ≡ y
  unfolding if_true
  true_else t x y h = rw h

  -- A choice between equals.
  pub lt_same : (a b : ℕ) (x y : A) → y ≡ x → if_lt a b x y ≡ y
  unfolding if_lt
  lt_same a b x y e = go (ltb a b)
    where
      go : (t : Bool) → cond t x y ≡ y
      go true = sym e
      go false = refl

  -- A choice came out as z, which one of its cases can't be: so the test went the other way.
  pub lt_first : (a b : ℕ) (x y z : A) → (y ≡ z → ⊥) → if_lt a b x y ≡ z → (a < b) × (x ≡ z)
  unfolding if_lt
  lt_first a b x y z n e = go (ltb a b) refl
    where
      go : (t : Bool) → ltb a b ≡ t → (a < b) × (x ≡ z)
      go true q = (ltb-true a b q, rw q at e)
      go false q = absurd (n (rw q at e))

  pub lt_second : (a b : ℕ) (x y z : A) → (x ≡ z → ⊥) → if_lt a b x y ≡ z → (b ≤ a) × (y ≡ z)
  unfolding if_lt
  lt_second a b x y z n e = go (ltb a b) refl
    where
      go : (t : Bool) → ltb a b ≡ t → (b ≤ a) × (y ≡ z)
      go true q = absurd (n (rw q at e))
      go false q = (ltb-false a b q, rw q at e)

  pub eq_first : (a b : ℕ) (x y z : A) → (y ≡ z → ⊥) → if_eq a b x y ≡ z → (a ≡ b) × (x ≡ z)
  unfolding if_eq
  eq_first a b x y z n e = go (eqb a b) refl
    where
      go : (t : Bool) → eqb a b ≡ t → (a ≡ b) × (x ≡ z)
      go true q = (eqb-true a b q, rw q at e)
      go false q = absurd (n (rw q at e))

  pub eq_second : (a b : ℕ) (x y z : A) → (x ≡ z → ⊥) → if_eq a b x y ≡ z → (a ≡ b → ⊥) × (y ≡ z)
  unfolding if_eq
  eq_second a b x y z n e = go (eqb a b) refl
    where
      go : (t : Bool) → eqb a b ≡ t → (a ≡ b → ⊥) × (y ≡ z)
      go true q = absurd (n (rw q at e))
      go false q = (eqb-false a b q, rw q at e)

  pub true_first : (t : Bool) (x y z : A) → (y ≡ z → ⊥) → if_true t x y ≡ z → (t ≡ true) × (x ≡ z)
  unfolding if_true
  true_first true x y z n e = (refl, e)
  true_first false x y z n e = absurd (n e)

-- A chain of tests that came out true passed each of them.
pub passed : (t x : Bool) → if_true t x false ≡ true → (t ≡ true) × (x ≡ true)
passed t x e = true_first t x false true false≢true e

pub passed-lt : (a b : ℕ) (x : Bool) → if_lt a b x false ≡ true → (a < b) × (x ≡ true)
passed-lt a b x e = lt_first a b x false true false≢true e

pub passed-not_lt : (a b : ℕ) (x : Bool) → if_lt a b false x ≡ true → (b ≤ a) × (x ≡ true)
passed-not_lt a b x e = lt_second a b false x true false≢true e

pub passed-eq : (a b : ℕ) (x : Bool) → if_eq a b x false ≡ true → (a ≡ b) × (x ≡ true)
passed-eq a b x e = eq_first a b x false true false≢true e

pub passed-not_eq : (a b : ℕ) (x : Bool) → if_eq a b false x ≡ true → (a ≡ b → ⊥) × (x ≡ true)
passed-not_eq a b x e = eq_second a b false x true false≢true e

-- A comparison as a test.
pub lt_bool : (a b : ℕ) → ltb a b ≡ if_lt a b true false
unfolding if_lt
lt_bool a b = bool (ltb a b)
  where
    bool : (t : Bool) → t ≡ cond t true false
    bool true = refl
    bool false = refl

pub ruleset ifs = (lt_yes, lt_no, eq_yes, eq_no, true_yes, true_no, lt_bool)
