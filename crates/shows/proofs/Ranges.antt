-- Which numbers a copy has: its links end among the numbers (base, base + total] and the cues that its joins meet, and the copies of a
-- block's uses lie inside the block's own copy, apart from each other.
use Prim.Native.Nat.{ℕ, ◌+◌, ◌-◌, ◌≤◌, ◌<◌}
use native.Mathlib.Omega.{arith}
use native.Mathlib.Decide.{dec_lt}
use mathlib.Core.Path.{◌≡◌, refl, sym, ◌∙◌, ap}
use mathlib.Core.Logic.{◌⊎◌, inl, inr}
use mathlib.Core.Bool.{Bool, true, false}
use mathlib.Core.List.Memᴰ
use mathlib.Core.List.{List, [], ◌∷◌, map, Memᴰ}
use lib.ListN.{length, get_or, length-map}
use lib.Dec.{eqb}
use borrow.Author.Tests.{lt-ltb, le-ltb}
use Rattle.model.specs.Choice.{if_lt}
use Rattle.model.specs.Blocks.{Link, Use, Block, joins_of, sum_over, total}
use Rattle.model.specs.Unfolding.{cue_at, renamed, uses_links, links}
use Rattle.shows.specs.WellFormed.{Cue, GoodLink, GoodUse, Good, more}
use Rattle.shows.proofs.AtBlock.{joins_of-hit, joins_of-skip, total-hit, total-skip, links-hit, links-skip}
use Rattle.basics.proofs.Members.{get_d_mem, map-mem}
use Rattle.shows.specs.Copies.{Part, parts_from, Copy, number, own-links, parts, part-links, all-links, extent, meets, size, Fit}

-- The number of an own cue, and of a join.
pub cue_at-own : (own base : ℕ) (met : List ℕ) (c : ℕ) → c ≤ own → cue_at own base met c ≡ base + c
unfolding cue_at if_lt
cue_at-own own base met c h = rw (le-ltb own c h) refl

pub cue_at-join : (own base : ℕ) (met : List ℕ) (c : ℕ) → own < c → cue_at own base met c ≡ get_or met (c - own - 1) 0
unfolding cue_at if_lt
cue_at-join own base met c h = rw (lt-ltb own c h) refl

-- v is one of the size numbers after base, or a cue that a join meets.
pub data Within (base size : ℕ) (met : List ℕ) (v : ℕ) : Type 0 where
  inner : base < v → v ≤ base + size → Within base size met v
  join : Memᴰ v met → Within base size met v

pub widen : {base size base' size' : ℕ} {met : List ℕ} {v : ℕ} → base' ≤ base → base + size ≤ base' + size' → Within base size met v
    → Within base' size' met v
widen a b (inner x y) = inner (omega arith) (omega arith)
widen a b (join i) = join i

pub cue_at-within : (own base : ℕ) (met : List ℕ) (c : ℕ) → 1 ≤ c → c ≤ own + length met → Within base own met (cue_at own base met c)
cue_at-within own base met c low high = go (dec_lt own c)
  where
    go : Dec (own < c) → Within base own met (cue_at own base met c)
    go (yes h) = rw (cue_at-join own base met c h) (join (get_d_mem met (c - own - 1) (omega arith)))
    go (no h) = rw (cue_at-own own base met c (omega arith)) (inner (omega arith) (omega arith))

-- Each copy stands for one of the uses, and each use has one.
pub parts_from-use : (size : ℕ → ℕ) (base : ℕ) (us : List Use) (p : Part) → Memᴰ p (parts_from size base us) → Memᴰ p.of us
unfolding parts_from
parts_from-use size base [] p i = absurd (Memᴰ.not-nil i)
parts_from-use size base (u ∷ us) p i = go (λ j. parts_from-use size (base + size u.block) us p j) (Memᴰ.cases_cons i)
  where
    go : (Memᴰ p (parts_from size (base + size u.block) us) → Memᴰ p.of us)
        → (p ≡ record { of = u; base = base }) ⊎ Memᴰ p (parts_from size (base + size u.block) us) → Memᴰ p.of (u ∷ us)
    go rest (inl e) = Memᴰ.head (ap (λ (q : Part). q.of) e)
    go rest (inr j) = Memᴰ.tail (rest j)

used_part : (size : ℕ → ℕ) (q : Use) (base : ℕ) (us : List Use) → Memᴰ q us → (p : Part) × Memᴰ p (parts_from size base us) × (p.of ≡ q)
unfolding parts_from
used_part size q base us (Memᴰ.head {x = u} {xs = us'} e) = (record { of = u; base = base }, Memᴰ.head refl, sym e)
used_part size q base us (Memᴰ.tail {x = u} {xs = us'} i) =
    let (p, j, e) = used_part size q (base + size u.block) us' i in (p, Memᴰ.tail j, e)

pub parts_from-of : (size : ℕ → ℕ) (base : ℕ) (us : List Use) (q : Use) → Memᴰ q us
    → (p : Part) × Memᴰ p (parts_from size base us) × (p.of ≡ q)
parts_from-of size base us q i = used_part size q base us i

module _ (size : ℕ → ℕ) where
  -- Every copy lies in the range of them all.
  pub parts_from-range : (base : ℕ) (us : List Use) (p : Part) → Memᴰ p (parts_from size base us)
      → (base ≤ p.base) × (p.base + size p.of.block ≤ base + sum_over size us)
  unfolding parts_from sum_over
  parts_from-range base [] p i = absurd (Memᴰ.not-nil i)
  parts_from-range base (u ∷ us) p i = go (λ j. parts_from-range (base + size u.block) us p j) (Memᴰ.cases_cons i)
    where
      go : (Memᴰ p (parts_from size (base + size u.block) us)
          → (base + size u.block ≤ p.base) × (p.base + size p.of.block ≤ base + size u.block + sum_over size us))
          → (p ≡ record { of = u; base = base }) ⊎ Memᴰ p (parts_from size (base + size u.block) us)
          → (base ≤ p.base) × (p.base + size p.of.block ≤ base + (size u.block + sum_over size us))
      go below (inl e) = omega (arith, ap (λ (q : Part). q.base) e, ap (λ (q : Part). size q.of.block) e)
      go below (inr j) = omega (arith, below j)

  -- v is a number of copy p.
  abbrev pub Inside : Part → ℕ → Type 0
  Inside p v = (p.base < v) × (v ≤ p.base + size p.of.block)

  -- Two copies that share a number are one.
  pub parts_from-apart : (base : ℕ) (us : List Use) (p q : Part) (v : ℕ) → Memᴰ p (parts_from size base us) → Memᴰ q (parts_from size base us)
      → Inside p v → Inside q v → p ≡ q
  unfolding parts_from
  parts_from-apart base [] p q v i j x y = absurd (Memᴰ.not-nil i)
  parts_from-apart base (u ∷ us) p q v i j x y =
      go (λ i j. parts_from-apart (base + size u.block) us p q v i j x y) (Memᴰ.cases_cons i) (Memᴰ.cases_cons j)
    where
      Rest : Part → Type 0
      Rest r = Memᴰ r (parts_from size (base + size u.block) us)

      first : Part
      first = record { of = u; base = base }

      clash : (p q : Part) → Inside p v → Inside q v → p ≡ first → Rest q → ⊥
      clash p q x y e j =
          omega (arith, ap (λ (q : Part). q.base) e, ap (λ (q : Part). size q.of.block) e, parts_from-range (base + size u.block) us q j)

      go : (Rest p → Rest q → p ≡ q) → (p ≡ first) ⊎ Rest p → (q ≡ first) ⊎ Rest q → p ≡ q
      go below (inl a) (inl b) = a ∙ sym b
      go below (inl a) (inr b) = absurd (clash p q x y a b)
      go below (inr a) (inl b) = absurd (clash q p y x b a)
      go below (inr a) (inr b) = below a b

  module _ (below : ℕ → ℕ → List ℕ → List Link) (number : ℕ → ℕ) where
    -- The links of a copy.
    abbrev pub links_of : Part → List Link
    links_of p = below p.of.block p.base (map number p.of.at)

    -- The links of some uses are those of the copies that stand for them.
    pub uses-copy : (base : ℕ) (us : List Use) (l : Link) → Memᴰ l (uses_links size below number base us)
        → (p : Part) × Memᴰ p (parts_from size base us) × Memᴰ l (links_of p)
    unfolding parts_from uses_links
    uses-copy base [] l i = absurd (Memᴰ.not-nil i)
    uses-copy base (u ∷ us) l i =
        go (λ j. uses-copy (base + size u.block) us l j) (Memᴰ.append_cases (below u.block base (map number u.at)) i)
      where
        go : (Memᴰ l (uses_links size below number (base + size u.block) us)
            → (p : Part) × Memᴰ p (parts_from size (base + size u.block) us) × Memᴰ l (links_of p))
            → Memᴰ l (below u.block base (map number u.at)) ⊎ Memᴰ l (uses_links size below number (base + size u.block) us)
            → (p : Part) × Memᴰ p (parts_from size base (u ∷ us)) × Memᴰ l (links_of p)
        go rest (inl j) = (record { of = u; base = base }, Memᴰ.head refl, j)
        go rest (inr j) = let (p, k, m) = rest j in (p, Memᴰ.tail k, m)

    pub copy-uses : (base : ℕ) (us : List Use) (l : Link) (p : Part) → Memᴰ p (parts_from size base us) → Memᴰ l (links_of p)
        → Memᴰ l (uses_links size below number base us)
    unfolding parts_from uses_links
    copy-uses base [] l p i m = absurd (Memᴰ.not-nil i)
    copy-uses base (u ∷ us) l p i m = go (λ j. copy-uses (base + size u.block) us l p j m) (Memᴰ.cases_cons i)
      where
        go : (Memᴰ p (parts_from size (base + size u.block) us) → Memᴰ l (uses_links size below number (base + size u.block) us))
            → (p ≡ record { of = u; base = base }) ⊎ Memᴰ p (parts_from size (base + size u.block) us)
            → Memᴰ l (uses_links size below number base (u ∷ us))
        go rest (inl e) = Memᴰ.append_left _ (rw e at m)
        go rest (inr j) = Memᴰ.append_right (below u.block base (map number u.at)) (rest j)

-- v is an own cue, or a cue that a join meets.
abbrev pub Own : Copy → ℕ → Type 0
Own z v = Within z.base z.block.own z.met v

-- v is one of all the cues of the copy, or a cue that a join meets.
abbrev pub Whole : Copy → ℕ → Type 0
Whole z v = Within z.base (extent z) z.met v

-- L1 for every copy of every block: both ends of each link lie within the copy.
abbrev pub LinksKept : List Block → Type 0
LinksKept bs =
    (k base : ℕ) (met : List ℕ) → length met ≡ joins_of bs k → (l : Link) → Memᴰ l (links bs k base met)
    → Within base (total bs k) met l.from × Within base (total bs k) met l.to

module _ {z : Copy} (g : Fit z) where
  pub number-own : (c : ℕ) → Cue z.block c → Own z (number z c)
  number-own c h = cue_at-within z.block.own z.base z.met c h.0 (omega (arith, h.1, g.fits))

  pub own-own : (l : Link) → Memᴰ l (own-links z) → Own z l.from × Own z l.to
  unfolding renamed
  own-own l i =
      let (k, j, e) = map-mem (renamed (number z)) l z.block.links i in
      let q : GoodLink z.block k = g.good.links k j in
      rw e (number-own k.from q.from, number-own k.to q.to)

  pub part-use : (p : Part) → Memᴰ p (parts z) → GoodUse z.blocks z.block p.of
  part-use p i = g.good.uses p.of (parts_from-use (total z.blocks) (z.base + z.block.own) z.block.uses p i)

  pub meets-own : (p : Part) → Memᴰ p (parts z) → (v : ℕ) → Memᴰ v (meets z p) → Own z v
  meets-own p i v j = let (c, k, e) = map-mem (number z) v p.of.at j in rw e (number-own c ((part-use p i).cues c k))

  pub arity : (p : Part) → Memᴰ p (parts z) → length (meets z p) ≡ joins_of z.blocks p.of.block
  arity p i = length-map p.of.at (number z) ∙ (part-use p i).arity

  -- A part's numbers come after the own cues and lie inside the copy.
  pub part-range : (p : Part) → Memᴰ p (parts z) → (z.base + z.block.own ≤ p.base) × (p.base + size z p ≤ z.base + extent z)
  part-range p i = omega (arith, parts_from-range (total z.blocks) (z.base + z.block.own) z.block.uses p i)

  pub part-whole : (p : Part) → Memᴰ p (parts z) → (v : ℕ) → Within p.base (size z p) (meets z p) v → Whole z v
  part-whole p i v (inner x y) = let r = part-range p i in inner (omega arith) (omega arith)
  part-whole p i v (join j) = widen (omega arith) (omega arith) (meets-own p i v j)

  pub last_within : LinksKept z.blocks → (l : Link) → Memᴰ l (all-links z) → Whole z l.from × Whole z l.to
  last_within kept l i = go (Memᴰ.append_cases (own-links z) i)
    where
      go : Memᴰ l (own-links z) ⊎ Memᴰ l (part-links z) → Whole z l.from × Whole z l.to
      go (inl j) = let (x, y) = own-own l j in (widen (omega arith) (omega arith) x, widen (omega arith) (omega arith) y)
      go (inr j) =
          let (p, k, m) = uses-copy (total z.blocks) (links z.blocks) (number z) (z.base + z.block.own) z.block.uses l j in
          let (x, y) = kept p.of.block p.base (meets z p) (arity p k) l m in
          (part-whole p k l.from x, part-whole p k l.to y)

no_links : (k base : ℕ) (met : List ℕ) (l : Link) → Memᴰ l (links [] k base met) → ⊥
unfolding links
no_links k base met l i = Memᴰ.not-nil i

-- L1: every link of a copy has both ends among the copy's numbers or at its joins.
pub links-within : (bs : List Block) → Good bs → LinksKept bs
links-within [] good k base met fits l i = absurd (no_links k base met l i)
links-within (b ∷ earlier) (more ok good) k base met fits l i = go (links-within earlier good) (eqb k (length earlier)) refl
  where
    go : LinksKept earlier → (t : Bool) → eqb k (length earlier) ≡ t
        → Within base (total (b ∷ earlier) k) met l.from × Within base (total (b ∷ earlier) k) met l.to
    go kept true e =
        rw (total-hit b earlier k e)
        (last_within {z = record { block = b; blocks = earlier; base = base; met = met }}
        (record { good = ok; fits = fits ∙ joins_of-hit b earlier k e }) kept l (rw (links-hit b earlier k base met e) at i))
    go kept false e =
        rw (total-skip b earlier k e)
        (kept k base met (fits ∙ joins_of-skip b earlier k e) l (rw (links-skip b earlier k base met e) at i))
