-- Locality: every link of a copy that has an end among the numbers of one of its parts is a link of that part, at any depth. What it
-- takes for this holds of the show and of a block that stands alone, and passes from a copy to its parts.
use Prim.Native.Nat.{ℕ, suc, ◌+◌, ◌-◌, ◌≤◌, ◌<◌}
use native.Mathlib.Omega.{arith}
use native.Mathlib.Decide.{dec_lt, dec_le}
use mathlib.Core.Path.{◌≡◌, refl, sym, ◌∙◌, ap}
use mathlib.Core.Logic.{◌⊎◌, inl, inr}
use mathlib.Core.List.Memᴰ
use mathlib.Core.List.{
  List,
  [],
  ◌∷◌,
  ◌++◌,
  Memᴰ,
}
use lib.ListN.{length, get_or, length-map}
use Rattle.model.specs.Blocks.{Link, Use, Block, joins_of, sum_over, total, last_block, count}
use Rattle.model.specs.Unfolding.{cue_at, links, show_links}
use Rattle.model.specs.Lists.{range}
use Rattle.model.specs.Summaries.{block_links}
use Rattle.shows.specs.WellFormed.{Cue, GoodUse, Good}
use Rattle.basics.proofs.Members.{get_d_mem, get_d_map_in, range_length, range-bounds, range-apart}
use Rattle.basics.specs.Members.{Apart}
use Rattle.shows.proofs.Ranges.{Within, inner, join, parts_from-apart, Inside, uses-copy, copy-uses, links-within, Own, own-own, meets-own, part-use, arity, part-range, cue_at-own, cue_at-join}
use Rattle.shows.specs.Copies.{Part, parts_from, Copy, number, own-links, part-links, all-links, extent, meets, size, copy_of, Clear, Sound, IsPart, InCopy, part-copy, show_copy, Low}
use Rattle.shows.proofs.BlockAt.{Lower, total-at, links-at, fit_at}

-- Where the joins meet different cues outside the copy, different cues have different numbers.
module _ (own base size : ℕ) (met : List ℕ) (clear : Clear base size met) (fits : own ≤ size) (apart : Apart met) where
  -- An own cue's number lies inside, a join's outside.
  own-join : (c e : ℕ) → 1 ≤ c → c ≤ own → own < e → e ≤ own + length met → cue_at own base met c ≡ cue_at own base met e → ⊥
  own-join c e x y h k q = go (clear (get_or met (e - own - 1) 0) (get_d_mem met (e - own - 1) (omega arith)))
    where
      go : (get_or met (e - own - 1) 0 ≤ base) ⊎ (base + size < get_or met (e - own - 1) 0) → ⊥
      go (inl o) = omega (arith, cue_at-own own base met c y, cue_at-join own base met e h)
      go (inr o) = omega (arith, cue_at-own own base met c y, cue_at-join own base met e h)

  pub cue_at-apart : (c e : ℕ) → (1 ≤ c) × (c ≤ own + length met) → (1 ≤ e) × (e ≤ own + length met)
      → cue_at own base met c ≡ cue_at own base met e → c ≡ e
  cue_at-apart c e x y q = go (dec_lt own c) (dec_lt own e)
    where
      go : Dec (own < c) → Dec (own < e) → c ≡ e
      go (no h) (no k) = omega (arith, cue_at-own own base met c (omega arith), cue_at-own own base met e (omega arith))
      go (no h) (yes k) = absurd (own-join c e x.0 (omega arith) k y.1 q)
      go (yes h) (no k) = absurd (own-join e c y.0 (omega arith) h x.1 (sym q))
      go (yes h) (yes k) =
          let s : c - own - 1 ≡ e - own - 1 =
          apart (c - own - 1) (e - own - 1) (omega arith) (omega arith)
          (sym (cue_at-join own base met c h) ∙ q ∙ cue_at-join own base met e k) in
          omega arith

abbrev pub part-own : Copy → Part → List Link
part-own z p = links z.blocks p.of.block p.base (meets z p)

module _ {z : Copy} (g : Sound z) where
  -- A cue of the block itself is a number of no part.
  pub not-inside : (p : Part) (v : ℕ) → IsPart z p → Own z v → Inside (total z.blocks) p v → ⊥
  not-inside p v i (inner x y) h = omega (arith, part-range g.fit p i)
  not-inside p v i (join j) h = go (g.clear v j)
    where
      go : (v ≤ z.base) ⊎ (z.base + extent z < v) → ⊥
      go (inl k) = omega (arith, part-range g.fit p i)
      go (inr k) = omega (arith, part-range g.fit p i)

  -- The links of a part are links of the copy.
  pub link-part : (p : Part) → IsPart z p → (l : Link) → Memᴰ l (part-own z p) → Memᴰ l (all-links z)
  link-part p i l j =
      Memᴰ.append_right (own-links z)
      (copy-uses (total z.blocks) (links z.blocks) (number z) (z.base + z.block.own) z.block.uses l p i j)

  -- L2: a link of the copy with an end among a part's numbers is a link of that part.
  pub part-link : (p : Part) → IsPart z p → (l : Link) → Memᴰ l (all-links z)
      → Inside (total z.blocks) p l.from ⊎ Inside (total z.blocks) p l.to → Memᴰ l (part-own z p)
  part-link p i l j h = go h (Memᴰ.append_cases (own-links z) j)
    where
      same : (q : Part) → IsPart z q → Memᴰ l (part-own z q) → (v : ℕ) → Within q.base (size z q) (meets z q) v
          → Inside (total z.blocks) p v → Memᴰ l (part-own z p)
      same q k m v (inner x y) h =
          let e : q ≡ p = parts_from-apart (total z.blocks) (z.base + z.block.own) z.block.uses q p v k i (x, y) h in
          rw e at m
      same q k m v (join x) h = absurd (not-inside p v i (meets-own g.fit q k v x) h)

      go : Inside (total z.blocks) p l.from ⊎ Inside (total z.blocks) p l.to
          → Memᴰ l (own-links z) ⊎ Memᴰ l (part-links z) → Memᴰ l (part-own z p)
      go (inl h) (inl k) = absurd (not-inside p l.from i (own-own g.fit l k).0 h)
      go (inr h) (inl k) = absurd (not-inside p l.to i (own-own g.fit l k).1 h)
      go h (inr k) =
          let (q, m, o) = uses-copy (total z.blocks) (links z.blocks) (number z) (z.base + z.block.own) z.block.uses l k in
          let (x, y) = links-within z.blocks g.good q.of.block q.base (meets z q) (arity g.fit q m) l o in
          ends q m o x y h
        where
          ends : (q : Part) → IsPart z q → Memᴰ l (part-own z q) → Within q.base (size z q) (meets z q) l.from
              → Within q.base (size z q) (meets z q) l.to
              → Inside (total z.blocks) p l.from ⊎ Inside (total z.blocks) p l.to → Memᴰ l (part-own z p)
          ends q m o x y (inl h) = same q m o l.from x h
          ends q m o x y (inr h) = same q m o l.to y h

  -- The cues that a part's joins meet lie outside the part.
  pub part-clear : (p : Part) → IsPart z p → Clear p.base (size z p) (meets z p)
  part-clear p i v j = go (dec_le v p.base) (dec_le v (p.base + size z p))
    where
      go : Dec (v ≤ p.base) → Dec (v ≤ p.base + size z p) → (v ≤ p.base) ⊎ (p.base + size z p < v)
      go (yes h) d = inl h
      go (no h) (no k) = inr (omega arith)
      go (no h) (yes k) = absurd (not-inside p v i (meets-own g.fit p i v j) (omega arith, k))

  -- Different cues of the block have different numbers.
  pub number-apart : (c e : ℕ) → Cue z.block c → Cue z.block e → number z c ≡ number z e → c ≡ e
  number-apart c e x y q =
      cue_at-apart z.block.own z.base (extent z) z.met g.clear (omega arith) g.apart c e (omega (arith, x, g.fit.fits))
      (omega (arith, y, g.fit.fits)) q

  -- The joins of a part meet different cues.
  pub meets-apart : (p : Part) → IsPart z p → Apart (meets z p)
  meets-apart p i a b x y e =
      let u : GoodUse z.blocks z.block p.of = part-use g.fit p i in
      let n : length (meets z p) ≡ length p.of.at = length-map p.of.at (number z) in
      let c : ℕ = get_or p.of.at a 0 in
      let d : ℕ = get_or p.of.at b 0 in
      u.apart a b (omega arith) (omega arith)
      (number-apart c d (u.cues c (get_d_mem p.of.at a (omega arith))) (u.cues d (get_d_mem p.of.at b (omega arith)))
      (sym (get_d_map_in (number z) p.of.at a (omega arith)) ∙ e ∙ get_d_map_in (number z) p.of.at b (omega arith)))

  -- So a part is as sound as the copy.
  pub part_sound : (p : Part) → IsPart z p → Sound (part-copy z p)
  part_sound p i =
      record {
        fit = fit_at z.blocks g.good p.of.block p.base (meets z p) (arity g.fit p i);
        good = g.good;
        clear = rw (total-at z.blocks g.good p.of.block p.base (meets z p)) at (part-clear p i);
        apart = meets-apart p i;
      }

-- The uses of a copy's block name blocks that there are.
pub sound-lower : {z : Copy} → Sound z → Lower z.block.uses (length z.blocks)
sound-lower g u i = (g.fit.good.uses u i).lower

-- y is a copy that stands in z at some depth: z itself, or a part of such a copy.
pub data Under (z : Copy) : Copy → Type 0 where
  itself : {y : Copy} → y ≡ z → Under z y
  part_of : {x : Copy} (y : Copy) → Under z y → (p : Part) → IsPart y p → x ≡ part-copy y p → Under z x

-- The same, beginning with a part of z.
pub under_part : {z : Copy} (p : Part) {x : Copy} → IsPart z p → Under (part-copy z p) x → Under z x
under_part {z} p i (itself e) = part_of z (itself refl) p i e
under_part p i (part_of y u q j e) = part_of y (under_part p i u) q j e

-- It has the same blocks.
pub under_blocks : {z y : Copy} → Under z y → y.blocks ≡ z.blocks
under_blocks (itself e) = ap (λ (x : Copy). x.blocks) e
under_blocks (part_of y u p i e) = ap (λ (x : Copy). x.blocks) e ∙ under_blocks u

-- And it is as sound.
pub under_sound : {z y : Copy} → Sound z → Under z y → Sound y
under_sound g (itself e) = rw e g
under_sound g (part_of y u p i e) = rw e (part_sound (under_sound g u) p i)

-- The numbers of a part are numbers of the copy, and its links, and L2.
module _ {z : Copy} (g : Sound z) (p : Part) (i : IsPart z p) where
  pub part-total : total z.blocks p.of.block ≡ extent (part-copy z p)
  part-total = total-at z.blocks g.good p.of.block p.base (meets z p)

  pub part-numbered : (v : ℕ) → InCopy (part-copy z p) v → InCopy z v
  part-numbered v h = omega (arith, h, part-range g.fit p i, part-total)

  pub part-links_at : part-own z p ≡ all-links (part-copy z p)
  part-links_at = links-at z.blocks g.good p.of.block p.base (meets z p)

  one_deeper : (l : Link) → Memᴰ l (all-links z) → InCopy (part-copy z p) l.from ⊎ InCopy (part-copy z p) l.to
      → Memᴰ l (all-links (part-copy z p))
  one_deeper l j h = rw part-links_at at (part-link g p i l j (go h))
    where
      go : InCopy (part-copy z p) l.from ⊎ InCopy (part-copy z p) l.to
          → Inside (total z.blocks) p l.from ⊎ Inside (total z.blocks) p l.to
      go (inl h) = inl (omega (arith, h, part-total))
      go (inr h) = inr (omega (arith, h, part-total))

  one-higher : (l : Link) → Memᴰ l (all-links (part-copy z p)) → Memᴰ l (all-links z)
  one-higher l j = link-part g p i l (rw (← part-links_at) at j)

pub under_numbered : {z y : Copy} → Sound z → Under z y → (v : ℕ) → InCopy y v → InCopy z v
under_numbered g (itself e) v h = rw e at h
under_numbered g (part_of y u p i e) v h = under_numbered g u v (part-numbered (under_sound g u) p i v (rw e at h))

pub link-under : {z y : Copy} → Sound z → Under z y → (l : Link) → Memᴰ l (all-links y) → Memᴰ l (all-links z)
link-under g (itself e) l j = rw e at j
link-under g (part_of y u p i e) l j = link-under g u l (one-higher (under_sound g u) p i l (rw e at j))

-- L2 at any depth.
pub under_link : {z y : Copy} → Sound z → Under z y → (l : Link) → Memᴰ l (all-links z) → InCopy y l.from ⊎ InCopy y l.to
    → Memᴰ l (all-links y)
under_link g (itself e) l j h = rw e j
under_link g (part_of y u p i e) l j h =
    let d : InCopy (part-copy y p) l.from ⊎ InCopy (part-copy y p) l.to = rw e at h in
    rw e (one_deeper (under_sound g u) p i l (under_link g u l j (up d)) d)
  where
    up : InCopy (part-copy y p) l.from ⊎ InCopy (part-copy y p) l.to → InCopy y l.from ⊎ InCopy y l.to
    up (inl h) = inl (part-numbered (under_sound g u) p i l.from h)
    up (inr h) = inr (part-numbered (under_sound g u) p i l.to h)

-- Every number of a copy is that of an own cue, or a number of one of its parts.
parts_from-find : (width : ℕ → ℕ) (base : ℕ) (us : List Use) (v : ℕ) → base < v → v ≤ base + sum_over width us
    → (p : Part) × Memᴰ p (parts_from width base us) × Inside width p v
unfolding parts_from sum_over
parts_from-find width base [] v x y = absurd (omega arith)
parts_from-find width base (u ∷ us) v x y =
    go (λ h. parts_from-find width (base + width u.block) us v h (omega arith)) (dec_lt (base + width u.block) v)
  where
    go : (base + width u.block < v → (p : Part) × Memᴰ p (parts_from width (base + width u.block) us) × Inside width p v)
        → Dec (base + width u.block < v) → (p : Part) × Memᴰ p (parts_from width base (u ∷ us)) × Inside width p v
    go below (yes h) = let (p, i, k) = below h in (p, Memᴰ.tail i, k)
    go below (no h) = (record { of = u; base = base }, Memᴰ.head refl, (x, omega arith))

pub numbered-cases : {z : Copy} → Sound z → (v : ℕ) → InCopy z v
    → ((c : ℕ) × (1 ≤ c) × (c ≤ z.block.own) × (number z c ≡ v)) ⊎ ((p : Part) × IsPart z p × InCopy (part-copy z p) v)
numbered-cases {z} g v h = go (dec_lt (z.base + z.block.own) v)
  where
    go : Dec (z.base + z.block.own < v)
        → ((c : ℕ) × (1 ≤ c) × (c ≤ z.block.own) × (number z c ≡ v)) ⊎ ((p : Part) × IsPart z p × InCopy (part-copy z p) v)
    go (yes l) =
        let (p, i, k) = parts_from-find (total z.blocks) (z.base + z.block.own) z.block.uses v l (omega arith) in
        inr (p, i, omega (arith, k, part-total g p i))
    go (no l) =
        inl (
          v - z.base,
          omega arith,
          omega arith,
          omega (arith, cue_at-own z.block.own z.base z.met (v - z.base) (omega arith)),
        )

pub under_low : {z y : Copy} → Sound z → Low z → Under z y → Low y
under_low g low (itself e) = rw e low
under_low g low (part_of y u p i e) = rw e (λ v j. at (under_low g low u) v (meets-own (under_sound g u).fit p i v j))
  where
    at : Low y → (v : ℕ) → Own y v → v ≤ p.base
    at below v (inner x h) = omega (arith, part-range (under_sound g u).fit p i)
    at below v (join j) = omega (arith, below v j, part-range (under_sound g u).fit p i)

-- The use behind some others stands for the copy that begins where theirs end.
pub parts_from-here : (width : ℕ → ℕ) (base : ℕ) (before : List Use) (u : Use) (behind : List Use)
    → Memᴰ (record { of = u; base = base + sum_over width before }) (parts_from width base (before ++ u ∷ behind))
unfolding parts_from sum_over
parts_from-here width base [] u behind =
    let e : base + 0 ≡ base = omega arith in Memᴰ.head (ap (λ (n : ℕ). record { of = u; base = n }) e)
parts_from-here width base (w ∷ before) u behind =
    let e : base + (width w.block + sum_over width before) ≡ base + width w.block + sum_over width before = omega arith in
    rw e (Memᴰ.tail (parts_from-here width (base + width w.block) before u behind))

abbrev pub alone_copy : List Block → ℕ → Copy
alone_copy bs k = copy_of bs k 0 (range (suc (total bs k)) (joins_of bs k))

module _ (bs : List Block) (good : Good bs) where
  pub show_sound : joins_of bs (last_block bs) ≡ 0 → Sound (show_copy bs)
  show_sound closed =
      record {
        fit = fit_at bs good (last_block bs) 0 [] (sym closed);
        good = good;
        clear = λ v i. absurd (Memᴰ.not-nil i);
        apart = λ i j x y e. absurd (omega arith);
      }

  pub show_low : Low (show_copy bs)
  show_low v i = absurd (Memᴰ.not-nil i)

  pub show_links_at : show_links bs ≡ all-links (show_copy bs)
  unfolding show_links
  show_links_at = links-at bs good (last_block bs) 0 []

  pub show_count : count bs ≡ extent (show_copy bs)
  unfolding count
  show_count = total-at bs good (last_block bs) 0 []

  module _ (k : ℕ) where
    pub alone_total : total bs k ≡ extent (alone_copy bs k)
    alone_total = total-at bs good k 0 (range (suc (total bs k)) (joins_of bs k))

    pub alone_sound : Sound (alone_copy bs k)
    alone_sound =
        record {
          fit = fit_at bs good k 0 (range (suc (total bs k)) (joins_of bs k)) (range_length (suc (total bs k)) (joins_of bs k));
          good = good;
          clear = λ v i. inr (omega (arith, alone_total, range-bounds (suc (total bs k)) (joins_of bs k) v i));
          apart = range-apart (suc (total bs k)) (joins_of bs k);
        }

    pub alone_links_at : block_links bs k ≡ all-links (alone_copy bs k)
    unfolding block_links
    alone_links_at = links-at bs good k 0 (range (suc (total bs k)) (joins_of bs k))
