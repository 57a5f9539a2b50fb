-- Walks over a relation with weights: W u v w says that an edge of weight w leads from u to v. The weight of a walk is the sum of
-- the weights of its edges; a chain is a walk whose edges weigh 1 each.
use Prim.Native.Nat.{ℕ, suc, ◌+◌, ◌*◌, ◌≤◌}
use native.Mathlib.Omega.{arith}
use mathlib.Core.Path.{◌≡◌, refl, ap}
use Rattle.distances.specs.Walks.{Walk, stop, step}

-- The constructor as a function, whose implicit arguments come from the goal before its last argument is looked at.
unfoldable pub next : {W : ℕ → ℕ → ℕ → Type 0} {t s n : ℕ} (u w m : ℕ) → W s u w → Walk W t u m → n ≡ w + m → Walk W t s n
next u w m r c e = step u w m r c e

-- One edge is a walk.
pub lone : {W : ℕ → ℕ → ℕ → Type 0} {s t n : ℕ} → W s t n → Walk W t s n
lone {t = t} {n = n} r = next t n 0 r (stop refl refl) (omega arith)

-- A walk of an equal weight, or from an equal cue.
pub reweigh : {W : ℕ → ℕ → ℕ → Type 0} {t s n m : ℕ} → n ≡ m → Walk W t s n → Walk W t s m
reweigh e c = rw e at c

pub restart : {W : ℕ → ℕ → ℕ → Type 0} {t s r n : ℕ} → r ≡ s → Walk W t s n → Walk W t r n
restart e c = rw (← e) at c

-- Two walks, one after the other.
pub walk_append : {W : ℕ → ℕ → ℕ → Type 0} {u s t n m : ℕ} → Walk W u s n → Walk W t u m → Walk W t s (n + m)
walk_append (stop p q) d = restart p (reweigh (omega arith) d)
walk_append (step u w m r c q) d = next u w _ r (walk_append c d) (omega arith)

-- Each edge of W is one of X.
pub walk_map : {W X : ℕ → ℕ → ℕ → Type 0} {t s n : ℕ} → ((u v w : ℕ) → W u v w → X u v w) → Walk W t s n → Walk X t s n
walk_map f (stop p q) = stop p q
walk_map f (step u w m r c q) = step u w m (f _ u w r) (walk_map f c) q

-- Each edge of W stands for a walk of its weight over X between the images of its ends.
pub walk_carry : {W X : ℕ → ℕ → ℕ → Type 0} {t s n : ℕ} (f : ℕ → ℕ) → ((u v w : ℕ) → W u v w → Walk X (f v) (f u) w) → Walk W t s n
    → Walk X (f t) (f s) n
walk_carry f g (stop p q) = stop (ap f p) q
walk_carry f g (step u w m r c q) = reweigh (omega arith) (walk_append (g _ u w r) (walk_carry f g c))

-- Each edge of W stands for a walk of its weight over X.
pub walk_bind : {W X : ℕ → ℕ → ℕ → Type 0} {s t n : ℕ} → ((u v w : ℕ) → W u v w → Walk X v u w) → Walk W t s n → Walk X t s n
walk_bind g c = walk_carry (λ v. v) g c

-- Where every edge of W has one of X that weighs no more, so has every walk.
pub walk_lighter : {W X : ℕ → ℕ → ℕ → Type 0} {t s n : ℕ} → ((u v w : ℕ) → W u v w → (x : ℕ) × X u v x × (x ≤ w)) → Walk W t s n
    → (m : ℕ) × Walk X t s m × (m ≤ n)
walk_lighter f (stop p q) = (0, stop p refl, omega arith)
walk_lighter f (step u w m r c e) =
    let (x, a, h) = f _ u w r in
    let (k, b, g) = walk_lighter f c in
    (x + k, next u x k a b refl, omega arith)

-- How many edges a walk has.
unfoldable pub edges : {W : ℕ → ℕ → ℕ → Type 0} {t s n : ℕ} → Walk W t s n → ℕ
edges (stop p q) = 0
edges (step u w m r c q) = suc (edges c)

-- Where no edge weighs more than most, a walk weighs at most that for each edge.
pub weighs_at_most : {W : ℕ → ℕ → ℕ → Type 0} {t s n : ℕ} (most : ℕ) → ((u v w : ℕ) → W u v w → w ≤ most) → (c : Walk W t s n)
    → n ≤ edges c * most
unfolding edges
weighs_at_most most h (stop p q) = omega arith
weighs_at_most most h (step u w m r c q) = omega (arith, h _ u w r, weighs_at_most most h c)
