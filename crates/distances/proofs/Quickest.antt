-- The model's quickest is the least sum of waits over all chains, whether waits are 0 or not, and is none exactly where fewest is none. Its two cases, stop
-- and step, are those of a walk; that chains of fewer links than there are cues are enough is what Pigeonhole says of walks of any weights.
use Prim.Native.Nat.{ℕ, zero, suc, ◌+◌, ◌-◌, ◌≤◌, ◌<◌}
use native.Mathlib.Omega.{arith}
use native.Mathlib.Decide.{ℕ_discrete, dec_lt}
use mathlib.Core.Path.{◌≡◌, refl, sym, ◌∙◌, ap}
use mathlib.Core.Logic.{◌⊎◌, inl, inr}
use mathlib.Core.List.{List, [], ◌∷◌, Memᴰ}
use lib.ListN.{get_or}
use Rattle.model.specs.Choice.{if_lt, if_eq}
use Rattle.model.specs.Lists.{range}
use Rattle.model.specs.Blocks.{Link}
use Rattle.model.specs.Chains.{Distance, Far, Unreachable, followed, fewest}
use Rattle.model.specs.Quickest.{quicker, with_wait, quickest_over, quickest_within, quickest}
use Rattle.basics.proofs.Choices.{lt_then, lt_else, eq_then, eq_else}
use Rattle.basics.proofs.Members.{range-mem, range_length}
use Rattle.shows.proofs.Followed.{followed-is, followed-has}
use Rattle.distances.specs.Walks.{Walk, stop, step, Price, Linked, each-one}
use Rattle.distances.specs.Lightest.{Lightest}
use Rattle.distances.specs.Quickest.{priced}
use Rattle.distances.proofs.Walks.{next, walk_map, edges}
use Rattle.distances.proofs.Pigeonhole.{shorten}
use Rattle.distances.proofs.Fewest.{Starts, far_same, far_not, fewest-shortest}
use Rattle.distances.proofs.Lightest.{shortest_lightest}

-- A number, and one of at most y.
abbrev AtMost : Distance → ℕ → Type 0
AtMost d y = (x : ℕ) × (d ≡ Far x) × (x ≤ y)

-- The smaller of two is one of them, and no larger than either.
quicker-from : (a b : Distance) (x : ℕ) → quicker a b ≡ Far x → (a ≡ Far x) ⊎ (b ≡ Far x)
unfolding quicker
quicker-from Unreachable b x e = inr e
quicker-from (Far n) Unreachable x e = inl e
quicker-from (Far n) (Far m) x e = go (dec_lt m n)
  where
    go : Dec (m < n) → (Far n ≡ Far x) ⊎ (Far m ≡ Far x)
    go (yes h) = inr (rw (lt_then m n m n h) at e)
    go (no h) = inl (rw (lt_else m n m n (omega arith)) at e)

-- The smaller of two numbers.
quicker-both : (n m y : ℕ) → (n ≤ y) ⊎ (m ≤ y) → AtMost (Far (if_lt m n m n)) y
quicker-both n m y h = go (dec_lt m n) h
  where
    go : Dec (m < n) → (n ≤ y) ⊎ (m ≤ y) → AtMost (Far (if_lt m n m n)) y
    go (yes l) (inl o) = (m, ap Far (lt_then m n m n l), omega arith)
    go (yes l) (inr o) = (m, ap Far (lt_then m n m n l), o)
    go (no l) (inl o) = (n, ap Far (lt_else m n m n (omega arith)), o)
    go (no l) (inr o) = (n, ap Far (lt_else m n m n (omega arith)), omega arith)

quicker-left : (a b : Distance) (y : ℕ) → AtMost a y → AtMost (quicker a b) y
unfolding quicker
quicker-left Unreachable b y (x, e, h) = absurd (far_not (sym e))
quicker-left (Far n) Unreachable y (x, e, h) = (x, e, h)
quicker-left (Far n) (Far m) y (x, e, h) = quicker-both n m y (inl (omega (arith, far_same e)))

quicker-right : (a b : Distance) (y : ℕ) → AtMost b y → AtMost (quicker a b) y
unfolding quicker
quicker-right Unreachable b y h = h
quicker-right (Far n) Unreachable y (x, e, h) = absurd (far_not (sym e))
quicker-right (Far n) (Far m) y (x, e, h) = quicker-both n m y (inr (omega (arith, far_same e)))

with_wait_far : (w x : ℕ) (d : Distance) → with_wait w d ≡ Far x → (y : ℕ) × (d ≡ Far y) × (x ≡ w + y)
unfolding with_wait
with_wait_far w x Unreachable e = absurd (far_not (sym e))
with_wait_far w x (Far y) e = (y, refl, sym (far_same e))

-- Over the links from one cue.
module _ (waits : List ℕ) (rest : ℕ → Distance) (v : ℕ) where
  abbrev wait : Link → ℕ
  wait l = get_or waits l.label 0

  abbrev over : List Link → Distance → Distance
  over E d = quickest_over waits rest v E d

  -- x is d, or the sum of a chain that begins with one of these links.
  abbrev By : List Link → Distance → ℕ → Type 0
  By E d x = (d ≡ Far x) ⊎ ((l : Link) × (y : ℕ) × Memᴰ l E × (l.from ≡ v) × (rest l.to ≡ Far y) × (x ≡ wait l + y))

  -- The first link leads from v, or it does not.
  over-on : (l : Link) (E : List Link) (d : Distance) → l.from ≡ v → over (l ∷ E) d ≡ quicker (with_wait (wait l) (rest l.to)) (over E d)
  unfolding quickest_over
  over-on l E d h = eq_then l.from v (quicker (with_wait (wait l) (rest l.to)) (over E d)) (over E d) h

  over-past : (l : Link) (E : List Link) (d : Distance) → (l.from ≡ v → ⊥) → over (l ∷ E) d ≡ over E d
  unfolding quickest_over
  over-past l E d h = eq_else l.from v (quicker (with_wait (wait l) (rest l.to)) (over E d)) (over E d) h

  over-from : (E : List Link) (d : Distance) (x : ℕ) → over E d ≡ Far x → By E d x
  unfolding quickest_over
  over-from [] d x e = inl e
  over-from (l ∷ E) d x e = go (λ f. over-from E d x f) (ℕ_discrete l.from v)
    where
      up : By E d x → By (l ∷ E) d x
      up (inl f) = inl f
      up (inr (k, y, i, f, g, h)) = inr (k, y, Memᴰ.tail i, f, g, h)

      go : (over E d ≡ Far x → By E d x) → Dec (l.from ≡ v) → By (l ∷ E) d x
      go below (no n) = up (below (sym (over-past l E d n) ∙ e))
      go below (yes p) = at (quicker-from (with_wait (wait l) (rest l.to)) (over E d) x (sym (over-on l E d p) ∙ e))
        where
          at : (with_wait (wait l) (rest l.to) ≡ Far x) ⊎ (over E d ≡ Far x) → By (l ∷ E) d x
          at (inl f) = let (y, g, h) = with_wait_far (wait l) x (rest l.to) f in inr (l, y, Memᴰ.head refl, p, g, h)
          at (inr f) = up (below f)

  -- One link more.
  over-more : (l : Link) (E : List Link) (d : Distance) (y : ℕ) → AtMost (over E d) y → AtMost (over (l ∷ E) d) y
  over-more l E d y h = go (ℕ_discrete l.from v)
    where
      go : Dec (l.from ≡ v) → AtMost (over (l ∷ E) d) y
      go (yes p) = rw (over-on l E d p) (quicker-right (with_wait (wait l) (rest l.to)) (over E d) y h)
      go (no n) = rw (over-past l E d n) h

  over-keeps : (E : List Link) (d : Distance) (y : ℕ) → d ≡ Far y → AtMost (over E d) y
  unfolding quickest_over
  over-keeps [] d y e = (y, e, omega arith)
  over-keeps (l ∷ E) d y e = over-more l E d y (over-keeps E d y e)

  over-takes : (l : Link) {E : List Link} (d : Distance) (y : ℕ) → Memᴰ l E → l.from ≡ v → rest l.to ≡ Far y
      → AtMost (over E d) (wait l + y)
  unfolding with_wait
  over-takes l d y (Memᴰ.head {x = k} {xs = E} e) f g =
      let h : with_wait (wait k) (rest k.to) ≡ Far (wait l + y) = (rw (← e) (ap (with_wait (wait l)) g)) in
      rw (over-on k E d (sym (ap (λ (r : Link). r.from) e) ∙ f))
      (quicker-left (with_wait (wait k) (rest k.to)) (over E d) (wait l + y) (wait l + y, h, omega arith))
  over-takes l d y (Memᴰ.tail {x = k} {xs = E} i) f g = over-more k E d (wait l + y) (over-takes l d y i f g)

-- At t itself.
here-from : (v t x : ℕ) → if_eq v t (Far 0) Unreachable ≡ Far x → (v ≡ t) × (x ≡ 0)
here-from v t x e = go (ℕ_discrete v t)
  where
    go : Dec (v ≡ t) → (v ≡ t) × (x ≡ 0)
    go (yes p) = (p, sym (far_same (rw (eq_then v t (Far 0) Unreachable p) at e)))
    go (no n) = absurd (far_not (sym (rw (eq_else v t (Far 0) Unreachable n) at e)))

module _ (waits : List ℕ) (E : List Link) (t : ℕ) where
  abbrev within : ℕ → ℕ → Distance
  within n v = quickest_within waits (followed E) t n v

  abbrev Way : ℕ → ℕ → Type 0
  Way v n = Walk (Linked (priced waits) E) t v n

  -- A number is the sum of a chain.
  within-sound : (n v x : ℕ) → within n v ≡ Far x → Way v x
  unfolding quickest_within
  within-sound zero v x e = let (p, q) = here-from v t x e in stop p q
  within-sound (suc n) v x e =
      go (λ u y f. within-sound n u y f) (over-from waits (within n) v (followed E) (if_eq v t (Far 0) Unreachable) x e)
    where
      go : ((u y : ℕ) → within n u ≡ Far y → Way u y) → By waits (within n) v (followed E) (if_eq v t (Far 0) Unreachable) x → Way v x
      go below (inl f) = let (p, q) = here-from v t x f in stop p q
      go below (inr (l, y, i, f, g, h)) =
          let (j, k) = followed-is E l i in
          next l.to (get_or waits l.label 0) y (l, j, f, refl, (k, refl)) (below l.to y g) h

  -- A chain of at most n links has a number that is no larger.
  within-covers : (n v m : ℕ) (c : Way v m) → edges c ≤ n → AtMost (within n v) m
  unfolding quickest_within edges
  within-covers zero v m (stop p q) h = (0, eq_then v t (Far 0) Unreachable p, omega arith)
  within-covers zero v m (step u w k r c q) h = absurd (omega arith)
  within-covers (suc n) v m (stop p q) h =
      let (x, e, l) = over-keeps waits (within n) v (followed E) (if_eq v t (Far 0) Unreachable) 0 (eq_then v t (Far 0) Unreachable p) in
      (x, e, omega arith)
  within-covers (suc n) v m (step u w k (l, i, a, b, (f, g)) c q) h =
      let (y, e, o) = within-covers n u k c (omega arith) in
      let (x, d, r) = over-takes waits (within n) v l (if_eq v t (Far 0) Unreachable) y (followed-has E l i f) a (rw b e) in
      (x, d, omega arith)

  -- "The quickest answer is the smallest sum of waits over all chains".
  pub quickest-lightest : (cues s : ℕ) → Starts E cues → 1 ≤ t → t ≤ cues → Lightest (priced waits) E s t (quickest waits E cues s t)
  unfolding quickest
  quickest-lightest cues s starts low high =
      record {
        has = λ n e. within-sound (cues - 1) s n e;
        found = λ m c. let (x, e, h) = short m c in (x, e);
        least = λ n m e c. let (x, f, h) = short m c in omega (arith, far_same {m = x} (sym e ∙ f));
      }
    where
      from : (u v w : ℕ) → Linked (priced waits) E u v w → Memᴰ u (range 1 cues)
      from u v w e = rw (← e.2) (range-mem 1 cues e.0.from (starts e.0 e.1).0 (omega (arith, (starts e.0 e.1).1)))

      short : (m : ℕ) → Way s m → AtMost (within (cues - 1) s) m
      short m c =
          let (k, d, h, l) = shorten (range 1 cues) (range-mem 1 cues t low (omega arith)) (walk_map (λ u v w e. (e, from u v w e)) c) in
          let (x, e, o) = within-covers (cues - 1) s k d (omega (arith, range_length 1 cues)) in
          (x, e, omega arith)

-- A walk over links at one price is one at any other that the same links have.
walk_reprice : (price other : Price) {E : List Link} {t s n : ℕ} → ((label w : ℕ) → price label w → (x : ℕ) × other label x)
    → Walk (Linked price E) t s n → (m : ℕ) × Walk (Linked other E) t s m
walk_reprice price other f (stop p q) = (0, stop p refl)
walk_reprice price other f (step u w m (l, i, x, y, o) c e) =
    let (z, r) = f l.label w o in
    let (k, d) = walk_reprice price other f c in
    (z + k, next u z k (l, i, x, y, r) d refl)

-- "It is none exactly where the fewest answer is none."
pub quickest-none : (waits : List ℕ) (E : List Link) (cues s t : ℕ) → Starts E cues → 1 ≤ t → t ≤ cues
    → (quickest waits E cues s t ≡ Unreachable → fewest E cues s t ≡ Unreachable)
    × (fewest E cues s t ≡ Unreachable → quickest waits E cues s t ≡ Unreachable)
quickest-none waits E cues s t starts low high = (λ e. one (fewest E cues s t) refl e, λ e. two (quickest waits E cues s t) refl e)
  where
    q : Lightest (priced waits) E s t (quickest waits E cues s t)
    q = quickest-lightest waits E t cues s starts low high

    f : Lightest each-one E s t (fewest E cues s t)
    f = shortest_lightest (fewest-shortest E cues s t starts low high)

    one : (d : Distance) → fewest E cues s t ≡ d → quickest waits E cues s t ≡ Unreachable → fewest E cues s t ≡ Unreachable
    one Unreachable e h = e
    one (Far n) e h =
        let (m, c) = walk_reprice each-one (priced waits) (λ label w o. (get_or waits label 0, (o.0, refl))) (f.has n e) in
        let (x, g) = q.found m c in absurd (far_not (sym g ∙ h))

    two : (d : Distance) → quickest waits E cues s t ≡ d → fewest E cues s t ≡ Unreachable → quickest waits E cues s t ≡ Unreachable
    two Unreachable e h = e
    two (Far n) e h =
        let (m, c) = walk_reprice (priced waits) each-one (λ label w o. (1, (o.0, refl))) (q.has n e) in
        let (x, g) = f.found m c in absurd (far_not (sym g ∙ h))
