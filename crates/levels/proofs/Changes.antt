-- How the levels of one block change: nothing yet, one thing more, nothing left; and what one store does.
use Prim.Native.Nat.{ℕ, ◌+◌, ◌*◌, ◌<◌}
use native.Mathlib.Omega.{arith}
use native.Mathlib.Decide.{ℕ_discrete, dec_lt}
use mathlib.Core.Path.{◌≡◌, refl, sym, ◌∙◌, ap}
use mathlib.Core.Logic.{◌≢◌}
use mathlib.Core.List.{List}
use lib.ListN.{length, get_or, set, length-set}
use lib.Seq.{get_or-set_same, get_or-set_other}
use Rattle.model.specs.Choice.{if_eq}
use Rattle.model.specs.Limits.{max_joins}
use Rattle.basics.proofs.Choices.{eq_then, eq_else}
use Rattle.levels.specs.Levels.{better_level, pairs_size, level_at}
use Rattle.levels.specs.Tables.{join_cue, Going, Changed, put_level, IsNoJoin, HasPairs}

pub going_begin : (k own : ℕ) (rest whole : ℕ → ℕ → ℕ → ℕ) (m : List ℕ) → ((x y n : ℕ) → rest x y n ≡ whole x y n) → Going k own rest whole m m
going_begin k own rest whole m e = record { long = refl; here = λ i j a b. e (join_cue own i) (join_cue own j) _; else = λ b i j n x y. refl }

pub going_on : {k own : ℕ} {rest whole : ℕ → ℕ → ℕ → ℕ} {m w : List ℕ} (v : List ℕ) (step next : ℕ → ℕ → ℕ → ℕ) → Going k own rest whole m w
    → Changed k own step w v → ((x y n : ℕ) → rest x y n ≡ next x y (step x y n)) → Going k own next whole m v
going_on {own = own} v step next g c e =
    record {
      long = c.long ∙ g.long;
      here = λ i j a b. ap (next (join_cue own i) (join_cue own j)) (c.here i j a b) ∙ sym (e (join_cue own i) (join_cue own j) _) ∙ g.here i j a b;
      else = λ b i j n x y. c.else b i j n x y ∙ g.else b i j n x y;
    }

pub going_done : {k own : ℕ} {rest whole : ℕ → ℕ → ℕ → ℕ} {m w : List ℕ} → Going k own rest whole m w → ((x y n : ℕ) → rest x y n ≡ n)
    → Changed k own whole m w
going_done {own = own} g e =
    record { long = g.long; here = λ i j a b. sym (e (join_cue own i) (join_cue own j) _) ∙ g.here i j a b; else = g.else }

-- A change in other words.
pub changed_as : {k own : ℕ} {f : ℕ → ℕ → ℕ → ℕ} {m w : List ℕ} (g : ℕ → ℕ → ℕ → ℕ) → Changed k own f m w → ((x y n : ℕ) → f x y n ≡ g x y n)
    → Changed k own g m w
changed_as {own = own} g c e =
    record { long = c.long; here = λ i j a b. c.here i j a b ∙ e (join_cue own i) (join_cue own j) _; else = c.else }

-- Putting in a level where a or b is no join of the block changes nothing.
put-away : (a b n x y old : ℕ) → (a ≡ x → b ≡ y → ⊥) → old ≡ put_level a b n x y old
unfolding put_level
put-away a b n x y old h = go (ℕ_discrete a x) (ℕ_discrete b y)
  where
    go : Dec (a ≡ x) → Dec (b ≡ y) → old ≡ if_eq a x (if_eq b y (better_level old n) old) old
    go (yes p) (yes q) = absurd (h p q)
    go (yes p) (no q) = sym (eq_then a x _ _ p ∙ eq_else b y _ _ q)
    go (no p) d = sym (eq_else a x _ _ p)

put-nowhere : (k own a b n : ℕ) (m : List ℕ) → ((i j : ℕ) → i < max_joins → j < max_joins → a ≡ join_cue own i → b ≡ join_cue own j → ⊥)
    → Changed k own (put_level a b n) m m
put-nowhere k own a b n m h =
    record {
      long = refl;
      here = λ i j x y. put-away a b n (join_cue own i) (join_cue own j) (level_at m k i j) (h i j x y);
      else = λ b i j d x y. refl;
    }

pub put-no_a : (k own a b n : ℕ) (m : List ℕ) → IsNoJoin own a → Changed k own (put_level a b n) m m
put-no_a k own a b n m h = put-nowhere k own a b n m (λ i j x y p q. h i x p)

pub put-no_b : (k own a b n : ℕ) (m : List ℕ) → IsNoJoin own b → Changed k own (put_level a b n) m m
put-no_b k own a b n m h = put-nowhere k own a b n m (λ i j x y p q. h j y q)

-- Two places of a table are one only if all of block and joins are the same.
place-apart : (b i j k p q : ℕ) → i < max_joins → j < max_joins → p < max_joins → q < max_joins
    → pairs_size * b + max_joins * i + j ≡ pairs_size * k + max_joins * p + q → (b ≡ k) × (i ≡ p) × (j ≡ q)
place-apart b i j k p q x y z w e = go (dec_lt b k) (dec_lt k b) (dec_lt i p) (dec_lt p i)
  where
    go : Dec (b < k) → Dec (k < b) → Dec (i < p) → Dec (p < i) → (b ≡ k) × (i ≡ p) × (j ≡ q)
    go (yes h) d f g = absurd (omega arith)
    go (no h) (yes l) f g = absurd (omega arith)
    go (no h) (no l) (yes f) g = absurd (omega arith)
    go (no h) (no l) (no f) (yes g) = absurd (omega arith)
    go (no h) (no l) (no f) (no g) = omega arith

-- The store.
pub put-there : (k own a b n i j at old new : ℕ) (m : List ℕ) → HasPairs m k → a ≡ join_cue own i → b ≡ join_cue own j → i < max_joins → j < max_joins
    → at ≡ pairs_size * k + max_joins * i + j → old ≡ get_or m at 0 → new ≡ better_level old n → Changed k own (put_level a b n) m (set m at new)
unfolding put_level
put-there k own a b n i j at old new m room ei ej li lj e eo en =
    record { long = length-set m at new; here = λ p q x y. here p q x y (ℕ_discrete a (join_cue own p)) (ℕ_discrete b (join_cue own q)); else = else }
  where
    inside : at < length m
    inside = omega (arith, room)

    here : (p q : ℕ) → p < max_joins → q < max_joins → Dec (a ≡ join_cue own p) → Dec (b ≡ join_cue own q)
        → level_at (set m at new) k p q ≡ put_level a b n (join_cue own p) (join_cue own q) (level_at m k p q)
    here p q x y (yes u) (yes v) =
        let w : pairs_size * k + max_joins * p + q ≡ at = omega arith in
        ap (λ (z : ℕ). get_or (set m at new) z 0) w ∙ get_or-set_same m at new 0 inside ∙ en ∙ ap (λ (z : ℕ). better_level z n) (eo ∙ ap (λ (z : ℕ). get_or m z 0) (sym w))
        ∙ sym (eq_then a (join_cue own p) _ _ u ∙ eq_then b (join_cue own q) _ _ v)
    here p q x y (yes u) (no v) =
        get_or-set_other m at (pairs_size * k + max_joins * p + q) new 0 (λ z. v (let (c, d, f) = place-apart k p q k i j x y li lj (z ∙ e) in omega arith))
        ∙ put-away a b n (join_cue own p) (join_cue own q) (level_at m k p q) (λ f g. v g)
    here p q x y (no u) d =
        get_or-set_other m at (pairs_size * k + max_joins * p + q) new 0 (λ z. u (let (c, d, f) = place-apart k p q k i j x y li lj (z ∙ e) in omega arith))
        ∙ put-away a b n (join_cue own p) (join_cue own q) (level_at m k p q) (λ f g. u f)

    else : (c p q : ℕ) → c ≢ k → p < max_joins → q < max_joins → level_at (set m at new) c p q ≡ level_at m c p q
    else c p q d x y =
        get_or-set_other m at (pairs_size * c + max_joins * p + q) new 0 (λ z. d (place-apart c p q k i j x y li lj (z ∙ e)).0)
