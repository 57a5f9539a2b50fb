-- Chains one after the other, cut in two, and over more links; and that they are walks over priced links.
use Prim.Native.Nat.{ℕ, zero, suc, ◌+◌}
use native.Mathlib.Omega.{arith}
use native.Mathlib.Nat.{zero-add, suc-add}
use mathlib.Core.Path.{◌≡◌, refl}
use mathlib.Core.List.{List, Memᴰ}
use Rattle.model.specs.Blocks.{Link}
use Rattle.model.specs.Chains.{followed}
use Rattle.distances.specs.Walks.{Walk, stop, step, Price, each-one, Linked}
use Rattle.distances.proofs.Walks.{next, walk_map, edges}
use Rattle.shows.proofs.Followed.{followed-is, followed-has}
use Rattle.distances.specs.Demand.{Chain, here, link}

-- Two chains, one after the other.
pub chain-append : {E : List Link} {u s t n m : ℕ} → Chain E u s n → Chain E t u m → Chain E t s (n + m)
chain-append here d = rw zero-add d
chain-append (link l i c) d = rw suc-add (link l i (chain-append c d))

-- A chain is one over any links that have all of its own.
pub chain-weaken : {E F : List Link} {t s n : ℕ} → ((l : Link) → Memᴰ l E → Memᴰ l F) → Chain E t s n → Chain F t s n
chain-weaken f here = here
chain-weaken f (link l i c) = link l (f l i) (chain-weaken f c)

-- A chain of n + m links has a cue after n links.
pub chain-split : (E : List Link) (s t n m : ℕ) → Chain E t s (n + m) → (u : ℕ) × Chain E u s n × Chain E t u m
chain-split E s t zero m c = (s, here, rw zero-add at c)
chain-split E s t (suc n) m c = go (λ s c. chain-split E s t n m c) (rw suc-add at c)
  where
    go : {s : ℕ} → ((s : ℕ) → Chain E t s (n + m) → (u : ℕ) × Chain E u s n × Chain E t u m)
        → Chain E t s (suc (n + m)) → (u : ℕ) × Chain E u s (suc n) × Chain E t u m
    go below (link l i c) = let (u, a, b) = below l.to c in (u, link l i a, b)

-- A chain of no links stays where it is.
pub chain-nought : {E : List Link} {s t n : ℕ} → Chain E t s n → n ≡ 0 → s ≡ t
chain-nought here e = refl
chain-nought (link l i c) e = absurd (omega arith)

-- The last link of a chain.
pub chain-last : {E : List Link} {s t n : ℕ} → Chain E t s (suc n) → (l : Link) × Memᴰ l E × Chain E l.from s n × (l.to ≡ t)
chain-last {E} {s} {t} {n} c = let e : suc n ≡ n + 1 = omega arith in let (u, a, d) = chain-split E s t n 1 (rw e at c) in go a d
  where
    go : {u : ℕ} → Chain E u s n → Chain E t u 1 → (l : Link) × Memᴰ l E × Chain E l.from s n × (l.to ≡ t)
    go a (link l i c) = (l, i, a, chain-nought c refl)

-- Chains of followed links are the walks over links that count 1 each.
pub chain-walk : {E : List Link} {t s n : ℕ} → Chain (followed E) t s n → Walk (Linked each-one E) t s n
chain-walk here = stop refl refl
chain-walk {E} (link l i c) =
    let (j, h) = followed-is E l i in
    next l.to 1 _ (l, j, refl, refl, (h, refl)) (chain-walk c) (omega arith)

pub walk_chain : {E : List Link} {t s n : ℕ} → Walk (Linked each-one E) t s n → Chain (followed E) t s n
walk_chain (stop p q) = rw (p, q) here
walk_chain {E} {t} {s} {n} (step u w m (l, i, p, q, (h, o)) c e) =
    let d : Chain (followed E) t s (suc m) = rw p at (link l (followed-has E l i h) (rw (← q) at (walk_chain c))) in
    let k : suc m ≡ n = omega arith in
    rw k at d

-- The weight of such a walk is the number of its links.
pub walk_count : {E : List Link} {t s n : ℕ} (c : Walk (Linked each-one E) t s n) → n ≡ edges c
unfolding edges
walk_count (stop p q) = q
walk_count (step u w m (l, i, p, q, o) c e) = omega (arith, walk_count c)

-- A walk is one over any links that have all of its own.
pub walk_weaken : (price : Price) {E F : List Link} {s t n : ℕ} → ((l : Link) → Memᴰ l E → Memᴰ l F)
    → Walk (Linked price E) t s n → Walk (Linked price F) t s n
walk_weaken price {E} {F} f c = walk_map (λ u v w e. at u v w e) c
  where
    at : (u v w : ℕ) → Linked price E u v w → Linked price F u v w
    at u v w (l, i, x, y, o) = (l, f l i, x, y, o)
