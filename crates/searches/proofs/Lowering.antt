-- Laws of estimates under one edge, and of estimates that fall.
use Prim.Native.Nat.{ℕ, zero, suc, ◌+◌, ◌≤◌, ◌<◌}
use native.Mathlib.Omega.{arith}
use native.Mathlib.Decide.{ℕ_discrete}
use mathlib.Core.Path.{◌≡◌, refl, ◌∙◌, ap}
use mathlib.Core.Bool.{Bool, true, false}
use mathlib.Core.Logic.{◌⊎◌, inl, inr}
use mathlib.Core.List.{List, [], ◌∷◌}
use lib.ListN.{length, get_or, set}
use lib.Seq.{get_or-set_same, get_or-set_other}
use Rattle.searches.specs.Lines.{Least}
use Rattle.searches.specs.Rounds.{orb, sum, One, Lowered, none, more, Still, Round, quiet, moved, Fell, same, less}

-- A smaller number in a list: it stands in the list, and the sum falls.
pub inside : (d : List ℕ) (v y : ℕ) → y < get_or d v 0 → v < length d
inside [] zero y h = absurd (omega arith)
inside [] (suc v) y h = absurd (omega arith)
inside (x ∷ d) zero y h = omega arith
inside (x ∷ d) (suc v) y h = let k : v < length d = inside d v y h in omega arith

pub sum-set : (d : List ℕ) (v y : ℕ) → y < get_or d v 0 → sum (set d v y) < sum d
unfolding sum
sum-set [] zero y h = absurd (omega arith)
sum-set [] (suc v) y h = absurd (omega arith)
sum-set (x ∷ d) zero y h = omega arith
sum-set (x ∷ d) (suc v) y h = let k : sum (set d v y) < sum d = sum-set d v y h in omega arith

-- A test says one thing.
pub true_not_false : {c : Bool} → c ≡ true → c ≡ false → ⊥
true_not_false p q = let z : ◌≡◌ {A = ℕ} 0 1 = cc in omega arith

-- One edge that improves an estimate, and one that does not.
lowered_set : (d : List ℕ) (u v w : ℕ) → get_or d u 0 + w < get_or d v 0 → Lowered (One u v w) d (set d v (get_or d u 0 + w))
lowered_set d u v w l = record { lower = λ a. lower a (ℕ_discrete a v); from = λ a. from a (ℕ_discrete a v) }
  where
    at : get_or (set d v (get_or d u 0 + w)) v 0 ≡ get_or d u 0 + w
    at = get_or-set_same d v (get_or d u 0 + w) 0 (inside d v (get_or d u 0 + w) l)

    lower : (a : ℕ) → Dec (a ≡ v) → get_or (set d v (get_or d u 0 + w)) a 0 ≤ get_or d a 0
    lower a (yes p) = rw p (omega (arith, at))
    lower a (no n) = omega (arith, get_or-set_other d v a (get_or d u 0 + w) 0 n)

    from : (a : ℕ) → Dec (a ≡ v)
        → (get_or (set d v (get_or d u 0 + w)) a 0 ≡ get_or d a 0) ⊎ ((b x : ℕ) × One u v w b a x × (get_or (set d v (get_or d u 0 + w)) a 0 ≡ get_or d b 0 + x))
    from a (yes p) = inr (u, w, (refl, p, refl), rw p at)
    from a (no n) = inl (get_or-set_other d v a (get_or d u 0 + w) 0 n)

pub round_put : (d : List ℕ) (u v w x y z : ℕ) → x ≡ get_or d u 0 → y ≡ get_or d v 0 → z ≡ w → x + z < y
    → Round (One u v w) d true (set d v (x + z))
round_put d u v w x y z ex ey ez l =
    let h : get_or d u 0 + w < get_or d v 0 = rw (ex, ey, ez) at l in
    rw (ex, ez) (moved refl (more d (none refl) (lowered_set d u v w h)) (sum-set d v (get_or d u 0 + w) h))

pub round_kept : (d : List ℕ) (u v w x y z : ℕ) → x ≡ get_or d u 0 → y ≡ get_or d v 0 → z ≡ w → y ≤ x + z → Round (One u v w) d false d
round_kept d u v w x y z ex ey ez l = quiet refl refl still
  where
    still : Still (One u v w) d
    still a b c (p, q, r) = rw (p, q, r) (rw (ex, ey, ez) at l)

pub set_same : (d : List ℕ) (v : ℕ) → set d v (get_or d v 0) ≡ d
set_same [] v = refl
set_same (x ∷ d) zero = refl
set_same (x ∷ d) (suc v) = ap (λ e. x ∷ e) (set_same d v)

-- An estimate lowered by one edge is put in, and c says whether it falls.
pub round_least : (inf : ℕ) (d : List ℕ) (u v w x y z : ℕ) (c : Bool) → x ≡ get_or d u 0 → y ≡ get_or d v 0 → Least inf y x w z
    → ((z < y) × (c ≡ true)) ⊎ ((y ≤ z) × (c ≡ false)) → Round (One u v w) d c (set d v z)
round_least inf d u v w x y z c ex ey l (inl (k, f)) = go l.from
  where
    go : (z ≡ y) ⊎ ((z ≡ x + w) × (z < inf)) → Round (One u v w) d c (set d v z)
    go (inl e) = absurd (omega arith)
    go (inr (e, n)) = rw (e, f) (round_put d u v w x y w ex ey refl (omega arith))
round_least inf d u v w x y z c ex ey l (inr (k, f)) =
    let e : z ≡ y = omega (arith, l.old) in
    rw (e, f, ey, set_same d v) (round_kept d u v w x y w ex ey refl (omega (arith, l.new)))

-- Estimates that fell or did not, one after the other.
pub fell_begin : (d : List ℕ) → Fell d false d
fell_begin d = same refl refl

pub fell_put : (d : List ℕ) (v y : ℕ) → y < get_or d v 0 → Fell d true (set d v y)
fell_put d v y h = less refl (sum-set d v y h)

-- The lesser of the two is put in, and c says whether the estimate falls.
pub fell_both : (d : List ℕ) (v y z m : ℕ) (c : Bool) → y ≡ get_or d v 0 → ((z < y) × (m ≡ z)) ⊎ ((y ≤ z) × (m ≡ y))
    → ((z < y) × (c ≡ true)) ⊎ ((y ≤ z) × (c ≡ false)) → Fell d c (set d v m)
fell_both d v y z m c ey (inl (l, e)) (inl (l', f)) = rw (e, f) (fell_put d v z (rw ey at l))
fell_both d v y z m c ey (inr (l, e)) (inr (l', f)) = rw (e, f, ey, set_same d v) (fell_begin d)
fell_both d v y z m c ey (inl (l, e)) (inr (l', f)) = absurd (omega arith)
fell_both d v y z m c ey (inr (l, e)) (inl (l', f)) = absurd (omega arith)

pub fell_on : {d e f : List ℕ} {b c t : Bool} → Fell d b e → Fell e c f → t ≡ orb b c → Fell d t f
fell_on (same p q) (same p' q') o = same (o ∙ (rw (p, p'))) (q' ∙ q)
fell_on (same p q) (less p' n) o = less (o ∙ (rw (p, p'))) (rw q at n)
fell_on (less p n) (same p' q) o = less (o ∙ (rw p)) (rw (← q) at n)
fell_on {d} {f = f} (less p n) (less p' n') o = let h : sum f < sum d = omega arith in less (o ∙ (rw p)) h
