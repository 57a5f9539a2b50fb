-- Copies by path: the copy at the end of a path stands in the copy where the path begins, and the number of a path and an own cue is the
-- number of that cue there. So whatever holds of every copy that stands in the show holds at the end of every path.
use Prim.Native.Nat.{ℕ, zero, suc, ◌+◌, ◌-◌, ◌≤◌, ◌<◌}
use native.Mathlib.Omega.{arith}
use native.Mathlib.Decide.{dec_lt}
use mathlib.Core.Path.{◌≡◌, refl, sym, ◌∙◌, ap, ap₂}
use mathlib.Core.Logic.{◌≢◌}
use mathlib.Core.Bool.{Bool, true, false}
use mathlib.Core.List.Memᴰ
use mathlib.Core.List.{List, [], ◌∷◌, ◌++◌}
use lib.ListN.{length, take, drop}
use lib.Seq.{split_at}
use lib.Dec.{eqb}
use borrow.Author.Tests.{lt-ltb, le-ltb, ne_eqb}
use Rattle.model.specs.Choice.{if_lt, if_eq}
use Rattle.model.specs.Blocks.{Use, Block, joins_of, sum_over, total, last_block, block_at, no_block}
use Rattle.model.specs.Paths.{own_number, uses_number, copy_number, number_in}
use Rattle.shows.specs.WellFormed.{GoodBlock, Good, more}
use Rattle.shows.proofs.AtBlock.{total-skip, block_at_hit, block_at_skip}
use Rattle.shows.specs.Copies.{Part, Copy, number, meets, copy_of, Sound, IsPart, part-copy, Low, show_copy, nth_use, part_at, after, Steps, ends, goes}
use Rattle.shows.proofs.Ranges.{cue_at-own}
use Rattle.shows.proofs.BlockAt.{Lower, lower_skip, good-at}
use Rattle.shows.proofs.Locality.{Under, itself, under_part, under_sound, under_low, parts_from-here, show_sound, show_low}

pub part-at_part : (z : Copy) (p : ℕ) → 1 ≤ p → p ≤ length z.block.uses → IsPart z (part_at z p)
unfolding nth_use
part-at_part z p low high =
    let us : List Use = z.block.uses in
    rw (← split_at us (p - 1) (record { block = 0; at = [] }) (omega arith)) at
    (parts_from-here (total z.blocks) (z.base + z.block.own) (take (p - 1) us) (nth_use us p) (drop (suc (p - 1)) us))

pub after-under : (z : Copy) (path : List ℕ) → Steps z path → Under z (after z path)
unfolding after
after-under z [] ends = itself refl
after-under z (p ∷ path) (goes x y s) = under_part (part_at z p) (part-at_part z p x y) (after-under (part-copy z (part_at z p)) path s)

-- One step more.
pub after-snoc : (z : Copy) (path : List ℕ) (p : ℕ) → after z (path ++ p ∷ []) ≡ part-copy (after z path) (part_at (after z path) p)
unfolding after
after-snoc z [] p = refl
after-snoc z (q ∷ path) p = after-snoc (part-copy z (part_at z q)) path p

-- The number of a path into some uses: that of the rest of the path in the p-th of them, and 0 where there is no p-th.
uses-number : (size : ℕ → ℕ) (below : ℕ → ℕ → List ℕ → ℕ → ℕ) (base : ℕ) (us : List Use) (p : ℕ) (path : List ℕ) (c : ℕ)
    → 1 ≤ p → p ≤ length us
    → uses_number size below base us p path c ≡ below (nth_use us p).block (base + sum_over size (take (p - 1) us)) path c
unfolding uses_number nth_use sum_over if_eq
uses-number size below base [] p path c x y = absurd (omega arith)
uses-number size below base (u ∷ us) zero path c x y = absurd (omega arith)
uses-number size below base (u ∷ us) (suc zero) path c x y = let e : base + 0 ≡ base = omega arith in rw e refl
uses-number size below base (u ∷ us) (suc (suc p)) path c x y =
    let ne : eqb (suc (suc p)) 1 ≡ false = ne_eqb (suc (suc p)) 1 (λ e. omega arith) in
    let q : suc (suc p) - 1 ≡ suc p = omega arith in
    let r : suc p - 1 ≡ p = omega arith in
    let s : base + (size u.block + sum_over size (take p us)) ≡ base + size u.block + sum_over size (take p us) = omega arith in
    rw (ne, q, s) (rw r at (uses-number size below (base + size u.block) us (suc p) path c (omega arith) (omega arith)))

uses-nowhere : (size : ℕ → ℕ) (below : ℕ → ℕ → List ℕ → ℕ → ℕ) (base : ℕ) (us : List Use) (p : ℕ) (path : List ℕ) (c : ℕ)
    → uses_number size below base us p path c ≢ 0 → (1 ≤ p) × (p ≤ length us)
unfolding uses_number if_eq
uses-nowhere size below base [] p path c h = absurd (h refl)
uses-nowhere size below base (u ∷ us) zero path c h = absurd (omega (arith, uses-nowhere size below (base + size u.block) us 0 path c h))
uses-nowhere size below base (u ∷ us) (suc zero) path c h = omega arith
uses-nowhere size below base (u ∷ us) (suc (suc p)) path c h =
    let ne : eqb (suc (suc p)) 1 ≡ false = ne_eqb (suc (suc p)) 1 (λ e. omega arith) in
    let q : suc (suc p) - 1 ≡ suc p = omega arith in
    omega (arith, uses-nowhere size below (base + size u.block) us (suc p) path c (rw (ne, q) at h))

-- The number of a path in block k, over all blocks.
module _ (b : Block) (earlier : List Block) where
  uses-more : (base : ℕ) (us : List Use) (p : ℕ) (path : List ℕ) (c : ℕ) → Lower us (length earlier)
      → uses_number (total earlier) (number_in earlier) base us p path c
      ≡ uses_number (total (b ∷ earlier)) (number_in (b ∷ earlier)) base us p path c
  unfolding uses_number number_in
  uses-more base [] p path c h = refl
  uses-more base (u ∷ us) p path c h =
      let e : eqb u.block (length earlier) ≡ false = lower_skip b earlier u.block (h u (Memᴰ.head refl)) in
      ap₂ (if_eq p 1) (sym (number_in_skip base e))
      (uses-more (base + total earlier u.block) us (p - 1) path c (λ w i. h w (Memᴰ.tail i))
      ∙ ap (λ (n : ℕ). uses_number (total (b ∷ earlier)) (number_in (b ∷ earlier)) (base + n) us (p - 1) path c)
      (sym (total-skip b earlier u.block e)))
    where
      number_in_skip : (base : ℕ) → eqb u.block (length earlier) ≡ false
          → number_in (b ∷ earlier) u.block base path c ≡ number_in earlier u.block base path c
      number_in_skip base e = rw (e, number_in)

  copy_more : (a : Block) (base : ℕ) (path : List ℕ) (c : ℕ) → Lower a.uses (length earlier)
      → copy_number (total earlier) (number_in earlier) a base path c ≡ copy_number (total (b ∷ earlier)) (number_in (b ∷ earlier)) a base path c
  unfolding copy_number
  copy_more a base [] c h = refl
  copy_more a base (p ∷ path) c h = uses-more (base + a.own) a.uses p path c h

own-none : (base c : ℕ) → own_number 0 base c ≡ 0
unfolding own_number if_lt
own-none base zero = refl
own-none base (suc c) = rw (le-ltb (suc c) 1 (omega arith), lt-ltb 0 (suc c) (omega arith)) refl

pub number_in_at : (bs : List Block) → Good bs → (k base : ℕ) (path : List ℕ) (c : ℕ)
    → number_in bs k base path c ≡ copy_number (total bs) (number_in bs) (block_at bs k) base path c
unfolding number_in block_at no_block copy_number uses_number
number_in_at [] good k base [] c = sym (own-none base c)
number_in_at [] good k base (p ∷ path) c = refl
number_in_at (b ∷ earlier) (more ok good) k base path c = go (number_in_at earlier good k base path c) (eqb k (length earlier)) refl
  where
    go : number_in earlier k base path c ≡ copy_number (total earlier) (number_in earlier) (block_at earlier k) base path c
        → (t : Bool) → eqb k (length earlier) ≡ t
        → number_in (b ∷ earlier) k base path c ≡ copy_number (total (b ∷ earlier)) (number_in (b ∷ earlier)) (block_at (b ∷ earlier) k) base path c
    go h true e = rw (block_at_hit b earlier k e) ((rw (e, number_in)) ∙ copy_more b earlier b base path c (λ u i. (ok.uses u i).lower))
    go h false e =
        let g : GoodBlock earlier (block_at earlier k) = good-at earlier good k in
        rw (block_at_skip b earlier k e) ((rw (e, number_in)) ∙ h ∙ copy_more b earlier (block_at earlier k) base path c (λ u i. (g.uses u i).lower))

own-number : (own base c : ℕ) → 1 ≤ c → c ≤ own → own_number own base c ≡ base + c
unfolding own_number if_lt
own-number own base c x y = rw (le-ltb c 1 x, le-ltb own c y) refl

own-nowhere : (own base c : ℕ) → own_number own base c ≢ 0 → (1 ≤ c) × (c ≤ own)
unfolding own_number if_lt
own-nowhere own base c h = go (dec_lt c 1) (dec_lt own c)
  where
    go : Dec (c < 1) → Dec (own < c) → (1 ≤ c) × (c ≤ own)
    go (yes x) d = absurd (h (rw (lt-ltb c 1 x) refl))
    go (no x) (yes y) = absurd (h (rw (le-ltb c 1 (omega arith), lt-ltb own c y) refl))
    go (no x) (no y) = omega arith

module _ (bs : List Block) (good : Good bs) where
  -- The number of a path and an own cue is the number of that cue in the copy at the path's end.
  pub number-after : (k base : ℕ) (met path : List ℕ) (c : ℕ) → Steps (copy_of bs k base met) path
      → 1 ≤ c → c ≤ (after (copy_of bs k base met) path).block.own → number_in bs k base path c ≡ number (after (copy_of bs k base met) path) c
  unfolding after copy_number
  number-after k base met [] c s x y =
      number_in_at bs good k base [] c ∙ own-number (block_at bs k).own base c x y ∙ sym (cue_at-own (block_at bs k).own base met c y)
  number-after k base met (p ∷ path) c (goes a b s) x y =
      let z : Copy = copy_of bs k base met in
      let q : Part = part_at z p in
      number_in_at bs good k base (p ∷ path) c
      ∙ uses-number (total bs) (number_in bs) (base + (block_at bs k).own) (block_at bs k).uses p path c a b
      ∙ number-after q.of.block q.base (meets z q) path c s x y

  -- A path and an own cue that have a number: each step is a use, and the cue is an own one of the copy at the end.
  pub steps-after : (k base : ℕ) (met path : List ℕ) (c : ℕ) → number_in bs k base path c ≢ 0
      → Steps (copy_of bs k base met) path × (1 ≤ c) × (c ≤ (after (copy_of bs k base met) path).block.own)
  unfolding after copy_number
  steps-after k base met [] c h =
      let (x, y) = own-nowhere (block_at bs k).own base c (rw (number_in_at bs good k base [] c) at h) in (ends, x, y)
  steps-after k base met (p ∷ path) c h =
      let z : Copy = copy_of bs k base met in
      let q : Part = part_at z p in
      let n : uses_number (total bs) (number_in bs) (base + (block_at bs k).own) (block_at bs k).uses p path c ≢ 0 =
      rw (number_in_at bs good k base (p ∷ path) c) at h in
      let (a, b) = uses-nowhere (total bs) (number_in bs) (base + (block_at bs k).own) (block_at bs k).uses p path c n in
      let (s, x, y) = steps-after q.of.block q.base (meets z q) path c
      (rw (uses-number (total bs) (number_in bs) (base + (block_at bs k).own) (block_at bs k).uses p path c a b) at n) in
      (goes a b s, x, y)

  -- In a show: the copy at the end of a path that has a number is sound, its joins meet lower numbers, and its cue has that number.
  pub record Arrives (path : List ℕ) (c : ℕ) : Type 0 where
    pub under : Under (show_copy bs) (after (show_copy bs) path)
    pub sound : Sound (after (show_copy bs) path)
    pub low : Low (after (show_copy bs) path)
    pub own : (1 ≤ c) × (c ≤ (after (show_copy bs) path).block.own)
    pub number_is : number (after (show_copy bs) path) c ≡ number_in bs (last_block bs) 0 path c

  pub arrives : joins_of bs (last_block bs) ≡ 0 → (path : List ℕ) (c : ℕ) → number_in bs (last_block bs) 0 path c ≢ 0 → Arrives path c
  arrives closed path c h =
      let (s, x, y) = steps-after (last_block bs) 0 [] path c h in
      let u : Under (show_copy bs) (after (show_copy bs) path) = after-under (show_copy bs) path s in
      record {
        under = u;
        sound = under_sound (show_sound bs good closed) u;
        low = under_low (show_sound bs good closed) (show_low bs good) u;
        own = (x, y);
        number_is = sym (number-after (last_block bs) 0 [] path c s x y);
      }
