-- The pigeonhole principle for walks: a walk whose edges all start at one of some cues, and that ends at one of them, can be cut to
-- one with fewer edges than there are such cues, and that weighs no more. So every chain can be cut to one with fewer links than
-- there are cues. No list without repeats is needed: from the start's last visit on, the start is taken off the cues.
use Prim.Native.Nat.{ℕ, zero, suc, ◌+◌, ◌≤◌, ◌<◌}
use native.Mathlib.Omega.{arith}
use native.Mathlib.Decide.{ℕ_discrete}
use mathlib.Core.Path.{◌≡◌, refl, sym, ◌∙◌, ap}
use mathlib.Core.Logic.{◌⊎◌, inl, inr, ◌≢◌}
use mathlib.Core.List.Memᴰ
use mathlib.Core.List.{List, ◌∷◌, Memᴰ}
use lib.ListN.{length}
use Rattle.model.specs.Blocks.{Link}
use Rattle.model.specs.Chains.{followed}
use Rattle.distances.specs.Walks.{Walk, stop, step}
use Rattle.distances.proofs.Walks.{next, walk_map, edges}
use Rattle.distances.proofs.Chains.{chain-walk, walk_chain, walk_count}
use Rattle.distances.specs.Demand.{Chain}

-- x taken off a list that has it: what is left is one shorter and has all else.
pub record Without (x : ℕ) (cs : List ℕ) : Type 0 where
  pub left : List ℕ
  pub shorter : length cs ≡ suc (length left)
  pub rest : (y : ℕ) → Memᴰ y cs → y ≢ x → Memᴰ y left

pub without : {x : ℕ} {cs : List ℕ} → Memᴰ x cs → Without x cs
without {x} (Memᴰ.head {x = y} {xs = ys} e) =
    record { left = ys; shorter = refl; rest = λ z i n. out z n (Memᴰ.cases_cons i) }
  where
    out : (z : ℕ) → z ≢ x → (z ≡ y) ⊎ Memᴰ z ys → Memᴰ z ys
    out z n (inl p) = absurd (n (p ∙ sym e))
    out z n (inr i) = i
without {x} (Memᴰ.tail {x = y} {xs = ys} i) = go (without i)
  where
    go : Without x ys → Without x (y ∷ ys)
    go r = record { left = y ∷ r.left; shorter = ap suc r.shorter; rest = λ z j n. out z n (Memᴰ.cases_cons j) }
      where
        out : (z : ℕ) → z ≢ x → (z ≡ y) ⊎ Memᴰ z ys → Memᴰ z (y ∷ r.left)
        out z n (inl p) = Memᴰ.head p
        out z n (inr j) = Memᴰ.tail (r.rest z j n)

-- Edges that start at one of some cues; edges that don't start at x.
abbrev pub From : (ℕ → ℕ → ℕ → Type 0) → List ℕ → ℕ → ℕ → ℕ → Type 0
From W cs u v w = W u v w × Memᴰ u cs

abbrev pub NotFrom : (ℕ → ℕ → ℕ → Type 0) → ℕ → ℕ → ℕ → ℕ → Type 0
NotFrom W x u v w = W u v w × (u ≢ x)

-- A walk from x to t of weight at most n: an edge, and then no further edge from x.
pub record After (W : ℕ → ℕ → ℕ → Type 0) (x t n : ℕ) : Type 0 where
  pub to : ℕ
  pub first : ℕ
  pub then : ℕ
  pub edge : W x to first
  pub walk : Walk (NotFrom W x) t to then
  pub weight : first + then ≤ n

-- A walk of at most most edges and of weight at most n.
pub record Cut (W : ℕ → ℕ → ℕ → Type 0) (t s n most : ℕ) : Type 0 where
  pub total : ℕ
  pub walk : Walk W t s total
  pub weight : total ≤ n
  pub few : edges walk ≤ most

module _ {W : ℕ → ℕ → ℕ → Type 0} where
  -- Either no edge of a walk starts at x, or the walk from its last visit of x on is at hand.
  pub last-visit : {t s n : ℕ} (x : ℕ) → Walk W t s n → Walk (NotFrom W x) t s n ⊎ After W x t n
  last-visit x (stop p q) = inl (stop p q)
  last-visit {t} {s} {n} x (step u w m r c q) = go (last-visit x c) (ℕ_discrete s x)
    where
      go : Walk (NotFrom W x) t u m ⊎ After W x t m → Dec (s ≡ x) → Walk (NotFrom W x) t s n ⊎ After W x t n
      go (inr a) d = inr (record { to = a.to; first = a.first; then = a.then; edge = a.edge; walk = a.walk; weight = omega (arith, a.weight) })
      go (inl d) (yes e) = inr (record { to = u; first = w; then = m; edge = rw e at r; walk = d; weight = omega arith })
      go (inl d) (no e) = inl (step u w m (r, e) d q)

  -- A walk up to its first visit of its end.
  pub first-visit : {t s n : ℕ} → Walk W t s n → (m : ℕ) × Walk (NotFrom W t) t s m × (m ≤ n)
  first-visit (stop p q) = (0, stop p refl, omega arith)
  first-visit {t} {s} {n} (step u w m r c q) = go (first-visit c) (ℕ_discrete s t)
    where
      go : (k : ℕ) × Walk (NotFrom W t) t u k × (k ≤ m) → Dec (s ≡ t) → (k : ℕ) × Walk (NotFrom W t) t s k × (k ≤ n)
      go (k, d, h) (yes e) = (0, stop e refl, omega arith)
      go (k, d, h) (no e) = (w + k, next u w k (r, e) d refl, omega arith)

module _ {W : ℕ → ℕ → ℕ → Type 0} where
  -- No edge starts at x, so they all start at what is left without x.
  leave : {x t s n : ℕ} {cs : List ℕ} (o : Without x cs) → Walk (NotFrom (From W cs) x) t s n → Walk (From W o.left) t s n
  leave o c = walk_map (λ u v w e. (e.0.0, o.rest u e.0.1 e.1)) c

  -- A walk whose edges all start at one of k cues can be cut to k edges.
  pub cut : {t s n : ℕ} (k : ℕ) (cs : List ℕ) → length cs ≡ k → Walk (From W cs) t s n → Cut W t s n k
  unfolding edges next
  cut zero cs e (stop p q) = record { total = 0; walk = stop p refl; weight = omega arith; few = omega arith }
  cut zero cs e (step u w m r c q) =
      let shorter : length cs ≡ suc (length (without r.1).left) = (without r.1).shorter in absurd (omega arith)
  cut (suc k) cs e (stop p q) = record { total = 0; walk = stop p refl; weight = omega arith; few = omega arith }
  cut {t} {s} {n} (suc k) cs e (step u w m r c q) = go (λ ds v j h d. cut k ds h d) (without r.1) (last-visit s c)
    where
      Below : Type 0
      Below = (ds : List ℕ) (v j : ℕ) → length ds ≡ k → Walk (From W ds) t v j → Cut W t v j k

      done : Below → Without s cs → (v x j : ℕ) → W s v x → Walk (NotFrom (From W cs) s) t v j → x + j ≤ n → Cut W t s n (suc k)
      done below o v x j a d h =
          let shorter : length cs ≡ suc (length o.left) = o.shorter in
          let y : Cut W t v j k = below o.left v j (omega arith) (leave o d) in
          record { total = x + y.total; walk = next v x y.total a y.walk refl; weight = omega (arith, y.weight); few = omega (arith, y.few) }

      go : Below → Without s cs → Walk (NotFrom (From W cs) s) t u m ⊎ After (From W cs) s t m → Cut W t s n (suc k)
      go below o (inl d) = done below o u w m r.0 d (omega arith)
      go below o (inr a) = done below o a.to a.first a.then a.edge.0 a.walk (omega (arith, a.weight))

  -- If it ends at one of them as well, it can be cut to fewer edges than there are such cues.
  pub shorten : {t s n : ℕ} (cs : List ℕ) → Memᴰ t cs → Walk (From W cs) t s n
      → (m : ℕ) × (c : Walk W t s m) × (m ≤ n) × (edges c < length cs)
  shorten {t} {s} {n} cs i c =
      let o : Without t cs = without i in
      let shorter : length cs ≡ suc (length o.left) = o.shorter in
      let (j, d, h) = first-visit c in
      let y : Cut W t s j (length o.left) = cut (length o.left) o.left refl (leave o d) in
      (y.total, y.walk, omega (arith, y.weight), omega (arith, y.few))

-- Every chain can be cut to one with fewer links than there are cues.
pub chain_shorten : {E : List Link} {s t n : ℕ} (cs : List ℕ) → ((l : Link) → Memᴰ l E → Memᴰ l.from cs) → Memᴰ t cs
    → Chain (followed E) t s n → (m : ℕ) × Chain (followed E) t s m × (m ≤ n) × (m < length cs)
chain_shorten {E} cs starts i c =
    let (m, d, h, k) = shorten cs i (walk_map (λ u v w e. (e, rw (← e.2) (starts e.0 e.1))) (chain-walk c)) in
    (m, walk_chain d, h, omega (arith, walk_count d))
