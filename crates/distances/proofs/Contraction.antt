-- Walks and copies. A walk of the whole that begins among a copy's numbers leaves the copy at one of its joins, or never does; one that
-- ends there last comes in at one of its joins, or always was there. And a walk between two cues of a block's own copy is the block's
-- own links together with stretches inside its parts from join to join; the weights add up.
use Prim.Native.Nat.{ℕ, ◌+◌}
use native.Mathlib.Omega.{arith}
use mathlib.Core.Path.{◌≡◌, refl}
use mathlib.Core.Logic.{◌⊎◌, inl, inr}
use mathlib.Core.List.Memᴰ
use mathlib.Core.List.{Memᴰ}
use Rattle.model.specs.Blocks.{total}
use Rattle.model.specs.Unfolding.{links}
use Rattle.distances.specs.Walks.{Walk, stop, step, Price, Linked}
use Rattle.distances.proofs.Walks.{next, lone, walk_map, walk_bind}
use Rattle.shows.proofs.Ranges.{Within, inner, join, parts_from-apart, Inside, uses-copy, links-within, last_within, Own, Whole, own-own, meets-own, arity}
use Rattle.shows.specs.Copies.{Part, Copy, number, own-links, part-links, all-links, meets, size, Sound, IsPart, InCopy}
use Rattle.shows.proofs.Locality.{part-own, not-inside, link-part, Under, under_sound, under_link}

-- A region: an edge with an end in it is one of P, and the edges of P end in it or at its border.
pub record Region (W P : ℕ → ℕ → ℕ → Type 0) (In Border : ℕ → Type 0) : Type 0 where
  pub within : (u v w : ℕ) → W u v w → In u ⊎ In v → P u v w
  pub ends : (u v w : ℕ) → P u v w → (In u ⊎ Border u) × (In v ⊎ Border v)

-- A walk over W to a cue at the border, and on over X.
pub record Through (W X : ℕ → ℕ → ℕ → Type 0) (Border : ℕ → Type 0) (t s n : ℕ) : Type 0 where
  pub cue : ℕ
  pub first : ℕ
  pub rest : ℕ
  pub border : Border cue
  pub before : Walk W cue s first
  pub behind : Walk X t cue rest
  pub sum : n ≡ first + rest

-- One edge more in front.
through_next : {W X : ℕ → ℕ → ℕ → Type 0} {Border : ℕ → Type 0} {t s n : ℕ} (u w m : ℕ) → W s u w → Through W X Border t u m → n ≡ w + m
    → Through W X Border t s n
through_next u w m x y e =
    record {
      cue = y.cue;
      first = w + y.first;
      rest = y.rest;
      border = y.border;
      before = next u w y.first x y.before refl;
      behind = y.behind;
      sum = omega (arith, y.sum);
    }

module _ {W P : ℕ → ℕ → ℕ → Type 0} {In Border : ℕ → Type 0} (r : Region W P In Border) where
  -- A walk from inside the region stays in it, or comes to the border first.
  pub leave : {t s n : ℕ} → In s → Walk W t s n → (In t × Walk P t s n) ⊎ Through P W Border t s n
  leave h (stop p q) = inl (rw p at h, stop p q)
  leave {t} {s} {n} h (step u w m x c q) = go (λ i. leave i c) (r.ends s u w (r.within s u w x (inl h))).1
    where
      edge : P s u w
      edge = r.within s u w x (inl h)

      more : (In t × Walk P t u m) ⊎ Through P W Border t u m → (In t × Walk P t s n) ⊎ Through P W Border t s n
      more (inl (i, d)) = inl (i, next u w m edge d q)
      more (inr y) = inr (through_next u w m edge y q)

      go : (In u → (In t × Walk P t u m) ⊎ Through P W Border t u m) → In u ⊎ Border u → (In t × Walk P t s n) ⊎ Through P W Border t s n
      go below (inl i) = more (below i)
      go below (inr b) = inr (record { cue = u; first = w; rest = m; border = b; before = lone edge; behind = c; sum = q })

  -- A walk to the inside of the region was always in it, or comes in from the border last.
  pub enter : {t s n : ℕ} → In t → Walk W t s n → (In s × Walk P t s n) ⊎ Through W P Border t s n
  enter h (stop p q) = inl (rw (← p) at h, stop p q)
  enter {t} {s} {n} h (step u w m x c q) = go (enter h c)
    where
      at : Walk P t s n → In s ⊎ Border s → (In s × Walk P t s n) ⊎ Through W P Border t s n
      at d (inl i) = inl (i, d)
      at d (inr b) = inr (record { cue = s; first = 0; rest = n; border = b; before = stop refl refl; behind = d; sum = omega arith })

      go : (In u × Walk P t u m) ⊎ Through W P Border t u m → (In s × Walk P t s n) ⊎ Through W P Border t s n
      go (inl (i, d)) = let edge : P s u w = r.within s u w x (inr i) in at (next u w m edge d q) (r.ends s u w edge).0
      go (inr y) = inr (through_next u w m x y q)

module _ (I : Type 0) (L : ℕ → ℕ → ℕ → Type 0) (P : I → ℕ → ℕ → ℕ → Type 0) where
  -- An edge of the whole: one of its own, or one of a piece.
  pub data Edge : ℕ → ℕ → ℕ → Type 0 where
    own : {u v w : ℕ} → L u v w → Edge u v w
    piece : {u v w : ℕ} (i : I) → P i u v w → Edge u v w

  -- An edge of the contraction: one of its own, or a walk across a piece from border to border.
  pub data Stretch (Border : I → ℕ → Type 0) : ℕ → ℕ → ℕ → Type 0 where
    local : {u v w : ℕ} → L u v w → Stretch Border u v w
    across : {u v w : ℕ} (i : I) → Border i u → Border i v → Walk (P i) v u w → Stretch Border u v w

  -- Pieces that share no inner cue with each other, with a border or with an edge of the whole's own.
  pub record Pieces (In Border : I → ℕ → Type 0) : Type 0 where
    pub ends : (i : I) (u v w : ℕ) → P i u v w → (In i u ⊎ Border i u) × (In i v ⊎ Border i v)
    pub outside : (i j : I) (v : ℕ) → Border i v → In j v → ⊥
    pub free : (u v w : ℕ) → L u v w → (j : I) → (In j u → ⊥) × (In j v → ⊥)
    pub apart : (i j : I) (v : ℕ) → In i v → In j v → i ≡ j

module _ {I : Type 0} {L : ℕ → ℕ → ℕ → Type 0} {P : I → ℕ → ℕ → ℕ → Type 0} {Border : I → ℕ → Type 0} where
  -- Each stretch is a walk of the whole.
  pub expand : {s t n : ℕ} → Walk (Stretch I L P Border) t s n → Walk (Edge I L P) t s n
  expand c = walk_bind opened c
    where
      opened : (u v w : ℕ) → Stretch I L P Border u v w → Walk (Edge I L P) v u w
      opened u v w (local l) = lone (own l)
      opened u v w (across i a b c) = walk_map (λ u v w e. piece i e) c

  module _ {In : I → ℕ → Type 0} (ok : Pieces I L P In Border) where
    -- A walk to a free cue contracts from a free cue; from inside a piece it first comes to the piece's border.
    abbrev Contracts : ℕ → ℕ → ℕ → Type 0
    Contracts t v n =
        (((j : I) → In j v → ⊥) → Walk (Stretch I L P Border) t v n)
        × ((i : I) → In i v → Through (P i) (Stretch I L P Border) (Border i) t v n)

    contracts : {t s n : ℕ} → ((j : I) → In j t → ⊥) → Walk (Edge I L P) t s n → Contracts t s n
    contracts free (stop p q) = (λ h. stop p q, λ i h. absurd (free i (rw p at h)))
    contracts {t} {s} {n} free (step u w m (own l) c e) =
        (λ h. next u w m (local l) ((contracts free c).0 (λ j. (ok.free s u w l j).1)) e, λ j h. absurd ((ok.free s u w l j).0 h))
    contracts {t} {s} {n} free (step u w m (piece i l) c e) =
        let way : Through (P i) (Stretch I L P Border) (Border i) t s n = out (contracts free c) (ok.ends i s u w l).1 in
        (λ h. cross way (at-border h (ok.ends i s u w l).0), λ j h. same way j h (ok.ends i s u w l).0)
      where
        out : Contracts t u m → In i u ⊎ Border i u → Through (P i) (Stretch I L P Border) (Border i) t s n
        out r (inl x) = through_next u w m l (r.1 i x) e
        out r (inr b) =
            record { cue = u; first = w; rest = m; border = b; before = lone l; behind = r.0 (λ j. ok.outside i j u b); sum = e }

        at-border : ((j : I) → In j s → ⊥) → In i s ⊎ Border i s → Border i s
        at-border h (inl x) = absurd (h i x)
        at-border h (inr b) = b

        cross : Through (P i) (Stretch I L P Border) (Border i) t s n → Border i s → Walk (Stretch I L P Border) t s n
        cross y b = next y.cue y.first y.rest (across i b y.border y.before) y.behind y.sum

        same : Through (P i) (Stretch I L P Border) (Border i) t s n → (j : I) → In j s → In i s ⊎ Border i s
            → Through (P j) (Stretch I L P Border) (Border j) t s n
        same y j h (inl x) = rw (ok.apart i j s x h) at y
        same y j h (inr b) = absurd (ok.outside i j s b h)

    -- A walk between free cues contracts to one of the same weight.
    pub contract : {t s n : ℕ} → ((j : I) → In j s → ⊥) → ((j : I) → In j t → ⊥) → Walk (Edge I L P) t s n → Walk (Stretch I L P Border) t s n
    contract h k c = (contracts k c).0 h

-- The own links of a copy, the links of one of its parts, the part's numbers and the cues that its joins meet.
abbrev pub OwnLink : Price → Copy → ℕ → ℕ → ℕ → Type 0
OwnLink price z u v w = Linked price (own-links z) u v w

abbrev pub PartLink : Price → Copy → Part → ℕ → ℕ → ℕ → Type 0
PartLink price z p u v w = IsPart z p × Linked price (part-own z p) u v w

abbrev pub InPart : Copy → Part → ℕ → Type 0
InPart z p v = IsPart z p × Inside (total z.blocks) p v

abbrev pub AtJoin : Copy → Part → ℕ → Type 0
AtJoin z p v = IsPart z p × Memᴰ v (meets z p)

-- An own link, or a walk inside a part from join to join.
abbrev pub Crossing : Price → Copy → ℕ → ℕ → ℕ → Type 0
Crossing price z = Stretch Part (OwnLink price z) (PartLink price z) (AtJoin z)

module _ (price : Price) {z : Copy} (g : Sound z) where
  -- The parts of a copy are such pieces.
  pub pieces : Pieces Part (OwnLink price z) (PartLink price z) (InPart z) (AtJoin z)
  pieces =
      record {
        ends = λ p u v w e. ends p u v w e;
        outside = λ p q v x y. not-inside g q v y.0 (meets-own g.fit p x.0 v x.1) y.1;
        free = λ u v w e q. free u v w e q;
        apart = λ p q v x y.
            parts_from-apart (total z.blocks) (z.base + z.block.own) z.block.uses p q v x.0 y.0 x.1 y.1;
      }
    where
      place : (p : Part) → IsPart z p → (v : ℕ) → Within p.base (size z p) (meets z p) v → InPart z p v ⊎ AtJoin z p v
      place p i v (inner x y) = inl (i, (x, y))
      place p i v (join j) = inr (i, j)

      ends : (p : Part) (u v w : ℕ) → PartLink price z p u v w
          → (InPart z p u ⊎ AtJoin z p u) × (InPart z p v ⊎ AtJoin z p v)
      ends p u v w (i, (l, j, x, y, o)) =
          let (f, t) = links-within z.blocks g.good p.of.block p.base (meets z p) (arity g.fit p i) l j in
          (place p i u (rw x at f), place p i v (rw y at t))

      free : (u v w : ℕ) → OwnLink price z u v w → (q : Part) → (InPart z q u → ⊥) × (InPart z q v → ⊥)
      free u v w (l, j, x, y, o) q =
          let (f, t) = own-own g.fit l j in
          (λ h. not-inside g q u h.0 (rw x at f) h.1, λ h. not-inside g q v h.0 (rw y at t) h.1)

  -- The links of a copy are its own and its parts'.
  to-edge : (u v w : ℕ) → Linked price (all-links z) u v w → Edge Part (OwnLink price z) (PartLink price z) u v w
  to-edge u v w (l, i, x, y, o) = go (Memᴰ.append_cases (own-links z) i)
    where
      go : Memᴰ l (own-links z) ⊎ Memᴰ l (part-links z) → Edge Part (OwnLink price z) (PartLink price z) u v w
      go (inl j) = own (l, j, x, y, o)
      go (inr j) =
          let (p, k, m) = uses-copy (total z.blocks) (links z.blocks) (number z) (z.base + z.block.own) z.block.uses l j in
          piece p (k, (l, m, x, y, o))

  pub from-edge : (u v w : ℕ) → Edge Part (OwnLink price z) (PartLink price z) u v w → Linked price (all-links z) u v w
  from-edge u v w (own (l, i, x, y, o)) = (l, Memᴰ.append_left _ i, x, y, o)
  from-edge u v w (piece p (k, (l, m, x, y, o))) = (l, link-part g p k l m, x, y, o)

  -- A walk between two cues of the block itself goes over own links and across parts from join to join.
  pub contracted : {s t n : ℕ} → Own z s → Own z t → Walk (Linked price (all-links z)) t s n → Walk (Crossing price z) t s n
  contracted {s} {t} x y c =
      contract pieces (λ p h. not-inside g p s h.0 x h.1) (λ p h. not-inside g p t h.0 y h.1) (walk_map to-edge c)

  -- And back.
  pub expanded : {s t n : ℕ} → Walk (Crossing price z) t s n → Walk (Linked price (all-links z)) t s n
  expanded c = walk_map from-edge (expand c)

  -- The numbers of a copy at any depth are a region of the whole, with its joins as border.
  pub region : {y : Copy} → Under z y → Region (Linked price (all-links z)) (Linked price (all-links y)) (InCopy y) (λ v. Memᴰ v y.met)
  region {y} u =
      record {
        within = λ a b w e h. (e.0, under_link g u e.0 e.1 (at e h), e.2, e.3, e.4);
        ends = λ a b w e.
            let (f, t) = last_within (under_sound g u).fit (links-within y.blocks (under_sound g u).good) e.0 e.1 in
            (place a (rw e.2 at f), place b (rw e.3 at t));
      }
    where
      at : {a b w : ℕ} (e : Linked price (all-links z) a b w) → InCopy y a ⊎ InCopy y b → InCopy y e.0.from ⊎ InCopy y e.0.to
      at e (inl h) = inl (rw (← e.2) at h)
      at e (inr h) = inr (rw (← e.3) at h)

      place : (v : ℕ) → Whole y v → InCopy y v ⊎ Memᴰ v y.met
      place v (inner a b) = inl (a, b)
      place v (join j) = inr j
