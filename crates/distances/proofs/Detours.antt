-- From copy to copy. Up: the least weights inside a part from a cue s of it, at its joins, lead to those inside the copy around it. Down:
-- the least weights in the whole show from s at the joins of a copy lead to those at every cue of its block, by way of outside or not.
use Prim.Native.Nat.{ℕ, suc, ◌+◌, ◌-◌, ◌≤◌, ◌<◌}
use native.Mathlib.Omega.{arith}
use native.Mathlib.Decide.{dec_lt}
use mathlib.Core.Path.{◌≡◌, refl, sym, ◌∙◌, ap}
use mathlib.Core.Logic.{◌⊎◌, inl, inr}
use mathlib.Core.List.{Memᴰ}
use lib.ListN.{length, get_or}
use Rattle.model.specs.Blocks.{Block, joins_of, block_at}
use Rattle.shows.specs.WellFormed.{Cue}
use Rattle.distances.specs.Walks.{Walk, stop, Price, Linked}
use Rattle.distances.proofs.Chains.{walk_weaken}
use Rattle.basics.proofs.Members.{mem_at, get_d_map_in}
use Rattle.shows.specs.Copies.{Part, Copy, number, all-links, meets, Sound, IsPart, InCopy, part-copy}
use Rattle.shows.proofs.Ranges.{number-own, part-use, cue_at-own, cue_at-join}
use Rattle.shows.proofs.BlockAt.{Lower}
use Rattle.shows.proofs.Locality.{not-inside, part-total, Under, itself, part_of, under_sound, link-under}
use Rattle.distances.proofs.Contraction.{Through, leave, enter, region}
use Rattle.distances.specs.Tells.{Join, met_by, Local, ExactTable, Tells, FromPart}
use Rattle.distances.proofs.Closure.{join_at, Estimates, Covered, estimates-told, At, at-covers}

-- The number of join i of a copy is that of the cue it meets.
pub join_number : (z : Copy) (i : ℕ) → 1 ≤ i → number z (z.block.own + i) ≡ get_or z.met (i - 1) 0
join_number z i h =
    let e : z.block.own + i - z.block.own - 1 ≡ i - 1 = omega arith in
    cue_at-join z.block.own z.base z.met (z.block.own + i) (omega arith) ∙ ap (λ (n : ℕ). get_or z.met n 0) e

-- Join i of a part has the number of the cue that the use names for it.
pub part_join : {z : Copy} → Sound z → (p : Part) → IsPart z p → (i : ℕ) → Join z.blocks p.of.block i
    → number (part-copy z p) ((block_at z.blocks p.of.block).own + i) ≡ number z (met_by p.of i)
part_join {z} g p m i h =
    let n : length p.of.at ≡ joins_of z.blocks p.of.block = (part-use g.fit p m).arity in
    join_number (part-copy z p) i h.0 ∙ get_d_map_in (number z) p.of.at (i - 1) (omega arith)

-- The least weights inside part p from s, at the part's joins.
abbrev pub PartTold : Price → Copy → Part → ℕ → ℕ → (ℕ → ℕ) → Type 0
PartTold price z p inf s e =
    (i : ℕ) → Join z.blocks p.of.block i → Tells price (all-links (part-copy z p)) inf s (number z (met_by p.of i)) (e i)

module _ (price : Price) {z : Copy} (g : Sound z) (p : Part) (m : IsPart z p) (inf s : ℕ) (inside : InCopy (part-copy z p) s) (e : ℕ → ℕ)
    (told : PartTold price z p inf s e) where
  under : Under z (part-copy z p)
  under = part_of z (itself refl) p m refl

  -- What such estimates begin with is sound.
  pub part-starts : (a x : ℕ) → FromPart z.blocks p.of e a x → x < inf → Walk (Linked price (all-links z)) (number z a) s x
  part-starts a x (i, h, q, r) l = rw (ap (number z) q, sym r) at (walk_weaken price (link-under g under) ((told i h).reached (omega arith)))

  -- And it covers every walk inside the copy: each leaves the part at one of its joins.
  pub part-covers : (c n : ℕ) → Cue z.block c → Walk (Linked price (all-links z)) (number z c) s n
      → Covered price z (FromPart z.blocks p.of e) c n
  part-covers c n h x = go (leave (region price g under) inside x)
    where
      go : (InCopy (part-copy z p) (number z c) × Walk (Linked price (all-links (part-copy z p))) (number z c) s n)
          ⊎ Through (Linked price (all-links (part-copy z p))) (Linked price (all-links z)) (λ v. Memᴰ v (meets z p)) (number z c) s n
          → Covered price z (FromPart z.blocks p.of e) c n
      go (inl (k, y)) =
          absurd (not-inside g p (number z c) m (number-own g.fit c h) (omega (arith, k, part-total g p m)))
      go (inr y) =
          let (i, j, k, q) = join_at price g p m y.cue y.border in
          let l : e i ≤ y.first = (told i j).least y.first (rw (← q) at y.before) in
          record {
            start = met_by p.of i;
            first = e i;
            rest = y.rest;
            cue = k;
            begins = (i, j, refl, refl);
            walk = rw (← q) at y.behind;
            weight = omega (arith, y.sum);
          }

-- Up: estimates of the copy around a part, begun with what was found inside the part, tell the least weights inside that copy.
pub up_told : (price : Price) {z : Copy} (g : Sound z) (limit : ℕ) → Lower z.block.uses limit → (table : ℕ → ℕ → ℕ → ℕ → Type 0)
    → ExactTable price z.blocks limit table → (inf : ℕ) (p : Part) → IsPart z p → (s : ℕ) → InCopy (part-copy z p) s → (e : ℕ → ℕ)
    → PartTold price z p inf s e → {d : ℕ → ℕ}
    → Estimates (Local price table z.blocks z.block) (Cue z.block) inf (FromPart z.blocks p.of e) d
    → (c : ℕ) → Cue z.block c → Tells price (all-links z) inf s (number z c) (d c)
up_told price {z} g limit lower table exact inf p m s inside e told estimates c h =
    estimates-told price g limit lower table exact inf estimates (all-links z) s (λ l i. i)
    (λ a x k b l. part-starts price g p m inf s inside e told a x b l) (λ c n k x. part-covers price g p m inf s inside e told c n k x) c h

-- What estimates of copy y may begin with on account of walks that stay in y: it is sound in the whole z, and covers every such walk.
pub record BeginsFor (price : Price) (z y : Copy) (inf s : ℕ) (begun : ℕ → ℕ → Type 0) : Type 0 where
  pub sound : (a x : ℕ) → Cue y.block a → begun a x → x < inf → Walk (Linked price (all-links z)) (number y a) s x
  pub covers : InCopy y s → (c n : ℕ) → Cue y.block c → Walk (Linked price (all-links y)) (number y c) s n → Covered price y begun c n

module _ (price : Price) {z y : Copy} (g : Sound z) (u : Under z y) (inf s : ℕ) where
  -- Nothing, where s is no number of y.
  pub begins-nowhere : (InCopy y s → ⊥) → BeginsFor price z y inf s (λ a x. ⊥)
  begins-nowhere h = record { sound = λ a x k b l. absurd b; covers = λ i c n k x. absurd (h i) }

  -- 0 at s, where s is an own cue of y.
  pub begins-at : (a : ℕ) → Cue y.block a → number y a ≡ s → BeginsFor price z y inf s (At a)
  begins-at a h e =
      record {
        sound = λ b x k q l. stop (sym (ap (number y) q.0 ∙ e)) q.1;
        covers = λ i c n k x. at-covers price y a h c n (rw (← e) at x);
      }

  -- What was found at the joins of the part of y that has s.
  pub begins-part : (p : Part) (m : IsPart y p) → InCopy (part-copy y p) s → (e : ℕ → ℕ) → PartTold price y p inf s e
      → BeginsFor price z y inf s (FromPart y.blocks p.of e)
  begins-part p m inside e told =
      record {
        sound = λ a x k b l. walk_weaken price (link-under g u) (part-starts price (under_sound g u) p m inf s inside e told a x b l);
        covers = λ i c n k x. part-covers price (under_sound g u) p m inf s inside e told c n k x;
      }

-- Estimates that begin at the joins of a block with what was found there, and with what is begun inside.
abbrev pub FromJoins : Block → (ℕ → ℕ) → (ℕ → ℕ → Type 0) → ℕ → ℕ → Type 0
FromJoins b e begun a x = ((i : ℕ) × (1 ≤ i) × (i ≤ b.joins) × (a ≡ b.own + i) × (x ≡ e i)) ⊎ begun a x

-- The least weights in the whole z from s, at the joins of y.
abbrev pub JoinsTold : Price → Copy → Copy → ℕ → ℕ → (ℕ → ℕ) → Type 0
JoinsTold price z y inf s e =
    (i : ℕ) → 1 ≤ i → i ≤ y.block.joins → Tells price (all-links z) inf s (number y (y.block.own + i)) (e i)

module _ (price : Price) {z y : Copy} (g : Sound z) (u : Under z y) (inf s : ℕ) (e : ℕ → ℕ) (joins : JoinsTold price z y inf s e)
    {begun : ℕ → ℕ → Type 0} (begins : BeginsFor price z y inf s begun) where
  starts_sound : (a x : ℕ) → Cue y.block a → FromJoins y.block e begun a x → x < inf
      → Walk (Linked price (all-links z)) (number y a) s x
  starts_sound a x h (inl (i, j, k, q, r)) l = rw (← q, ← r) at ((joins i j k).reached (omega arith))
  starts_sound a x h (inr b) l = begins.sound a x h b l

  -- A walk of the whole to a cue of y: it ends at a join, or came in at a join last, or always was in y.
  joins-cover : (c n : ℕ) → Cue y.block c → Walk (Linked price (all-links z)) (number y c) s n
      → Covered price y (FromJoins y.block e begun) c n
  joins-cover c n h x = go (dec_lt y.block.own c)
    where
      later : Covered price y begun c n → Covered price y (FromJoins y.block e begun) c n
      later v =
          record {
            start = v.start;
            first = v.first;
            rest = v.rest;
            cue = v.cue;
            begins = inr v.begins;
            walk = v.walk;
            weight = v.weight;
          }

      at : (InCopy y s × Walk (Linked price (all-links y)) (number y c) s n)
          ⊎ Through (Linked price (all-links z)) (Linked price (all-links y)) (λ v. Memᴰ v y.met) (number y c) s n
          → Covered price y (FromJoins y.block e begun) c n
      at (inl (k, w)) = later (begins.covers k c n h w)
      at (inr w) =
          let (i, l, q) = mem_at w.cue w.border in
          let fits : length y.met ≡ y.block.joins = (under_sound g u).fit.fits in
          let o : suc i - 1 ≡ i = omega arith in
          let r : number y (y.block.own + suc i) ≡ w.cue =
          join_number y (suc i) (omega arith) ∙ ap (λ (k : ℕ). get_or y.met k 0) o ∙ q in
          let m : e (suc i) ≤ w.first = (joins (suc i) (omega arith) (omega arith)).least w.first (rw (← r) at w.before) in
          record {
            start = y.block.own + suc i;
            first = e (suc i);
            rest = w.rest;
            cue = omega arith;
            begins = inl (suc i, omega arith, omega arith, refl, refl);
            walk = rw (← r) at w.behind;
            weight = omega (arith, w.sum);
          }

      go : Dec (y.block.own < c) → Covered price y (FromJoins y.block e begun) c n
      go (yes l) =
          let i : ℕ = c - y.block.own in
          let q : y.block.own + i ≡ c = omega arith in
          let m : e i ≤ n = (joins i (omega arith) (omega arith)).least n (rw q x) in
          record {
            start = c;
            first = e i;
            rest = 0;
            cue = h;
            begins = inl (i, omega arith, omega arith, sym q, refl);
            walk = stop refl refl;
            weight = omega arith;
          }
      go (no l) =
          let q : number y c ≡ y.base + c = cue_at-own y.block.own y.base y.met c (omega arith) in
          at (enter (region price g u) (omega arith) x)

  -- Down: estimates of a copy in the whole, begun with the least weights in the whole at its joins, tell the least weights in the whole.
  pub down_told : (limit : ℕ) → Lower y.block.uses limit → (table : ℕ → ℕ → ℕ → ℕ → Type 0) → ExactTable price y.blocks limit table
      → {d : ℕ → ℕ} → Estimates (Local price table y.blocks y.block) (Cue y.block) inf (FromJoins y.block e begun) d
      → (c : ℕ) → Cue y.block c → Tells price (all-links z) inf s (number y c) (d c)
  down_told limit lower table exact estimates c h =
      estimates-told price (under_sound g u) limit lower table exact inf estimates (all-links z) s (λ l i. link-under g u l i) starts_sound
      joins-cover c h
