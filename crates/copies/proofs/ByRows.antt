-- The copies that the rows of a place lead to: which block each is a copy of, which part of the
-- copy around it, and which of them have a cue.
use Prim.Native.Nat.{ℕ, zero, suc, ◌+◌, ◌*◌, ◌-◌, ◌≤◌, ◌<◌}
use native.Mathlib.Omega.{arith}
use native.Mathlib.Decide.{dec_lt}
use mathlib.Core.Path.{◌≡◌, refl, sym, ◌∙◌, ap}
use mathlib.Core.List.{List, [], ◌∷◌}
use lib.ListN.{length, get_or, take}
use lib.Seq.{take-suc, take-length}
use Rattle.model.specs.Limits.{max_own}
use Rattle.model.specs.Blocks.{Use, Block, block_at, own_of, sum_over, total, last_block, blocks_of}
use Rattle.shows.specs.Copies.{Part, Copy, number, meets, copy_of, Sound, IsPart, InCopy, part-copy, show_copy, nth_use, part_at, after, Steps, ends, goes}
use Rattle.shows.proofs.Ranges.{part-use, cue_at-own}
use Rattle.shows.proofs.BlockAt.{own_of_at}
use Rattle.shows.proofs.Locality.{part-total, part-numbered, Under, itself, part_of, under_sound, show_sound}
use Rattle.shows.proofs.Trails.{part-at_part, after-snoc, number-after, steps-after}
use Rattle.verdicts.specs.Index.{use_at}
use Rattle.blocks.specs.Loaded.{Loaded, IsBlock, uses_begin, UseRows}
use Rattle.blocks.specs.Places.{block_on, UsesTo, Takes, Found}
use Rattle.blocks.specs.declared.Place.{Place}
use Rattle.blocks.proofs.Loaded.{uses_from-length, uses_from-at, loaded-show, use_rows, own-few as block-own-few}
use Rattle.blocks.proofs.Places.{uses-fewer}
use Rattle.copies.specs.ByRows.{step_on, copy_on}

-- Each step of a path is a use of the copy that it goes on from.
steps-at : (z : Copy) (path : List ℕ) → Steps z path → (l : ℕ) → l < length path
    → (1 ≤ get_or path l 0) × (get_or path l 0 ≤ length (after z (take l path)).block.uses)
unfolding after
steps-at z [] ends l h = absurd (omega arith)
steps-at z (p ∷ path) (goes x y s) zero h = (x, y)
steps-at z (p ∷ path) (goes x y s) (suc l) h = steps-at (part-copy z (part_at z p)) path s l (omega arith)

-- One level more.
pub copy-suc : (xs t rows : List ℕ) (l : ℕ)
    → copy_on xs t rows (suc l) ≡ part-copy (copy_on xs t rows l) (part_at (copy_on xs t rows l) (step_on xs t rows l))
unfolding copy_on
copy-suc xs t rows l = refl

pub block-suc : (xs rows : List ℕ) (l : ℕ) → block_on xs rows (suc l) ≡ (use_at xs (blocks_of xs) (get_or rows l 0)).block
unfolding block_on
block-suc xs rows l = refl

module _ {xs t : List ℕ} (g : Loaded xs t) where
  abbrev bs : List Block
  bs = blocks_of xs

  abbrev top : Copy
  top = show_copy bs

  pub top_sound : Sound top
  top_sound = show_sound bs (loaded-show g).good (loaded-show g).no_joins

  -- The use that step p of block k takes.
  use_of : (k p r : ℕ) → IsBlock xs k → Takes t k p r → 1 ≤ p → p ≤ length (block_at bs k).uses
      → nth_use (block_at bs k).uses p ≡ use_at xs bs r
  unfolding nth_use
  use_of k p r h e low high =
      let end : ℕ = get_or t (4 * k + 2) 0 in
      let rows : UseRows xs t k (uses_begin t k) end = use_rows g k h _ (uses_begin t k) _ end refl refl refl refl in
      let n : length (block_at bs k).uses ≡ end - uses_begin t k =
      ap length rows.uses ∙ uses_from-length xs bs (uses_begin t k) (end - uses_begin t k) in
      let q : uses_begin t k + (p - 1) ≡ r = omega arith in
      ap (λ (us : List Use). nth_use us p) rows.uses ∙ uses_from-at xs bs (uses_begin t k) (end - uses_begin t k) (p - 1) _ (omega arith)
      ∙ ap (use_at xs bs) q

  -- The copy at level l.
  pub record Level (rows : List ℕ) (l : ℕ) : Type 0 where
    pub known : IsBlock xs (block_on xs rows l)
    pub base : ℕ
    pub met : List ℕ
    pub is : copy_on xs t rows l ≡ copy_of bs (block_on xs rows l) base met
    pub under : Under top (copy_of bs (block_on xs rows l) base met)

  module _ {rows : List ℕ} {q : Place} (f : Found xs t rows q) where
    abbrev path : List ℕ
    path = f.path

    shape : Steps top path × (1 ≤ q.own) × (q.own ≤ (after top path).block.own)
    shape = steps-after bs (loaded-show g).good (last_block bs) 0 [] path q.own (λ e. omega (arith, f.number, f.some))

    pub step_is : (l : ℕ) → l < q.depth → step_on xs t rows l ≡ get_or path l 0
    step_is l h = omega (arith, f.along.steps l (omega (arith, f.depth)))

    -- Along the rows, and along the path.
    copy-after : (l : ℕ) → l ≤ q.depth → copy_on xs t rows l ≡ after top (take l path)
    unfolding copy_on after
    copy-after zero h = refl
    copy-after (suc l) h =
        let z : Copy = after top (take l path) in
        ap (λ (y : Copy). part-copy y (part_at y (step_on xs t rows l))) (copy-after l (omega arith))
        ∙ ap (λ (p : ℕ). part-copy z (part_at z p)) (step_is l (omega arith))
        ∙ sym (after-snoc top (take l path) (get_or path l 0))
        ∙ sym (ap (after top) (take-suc path l 0 (omega (arith, f.depth))))

    step_in : (l : ℕ) → l < q.depth → Level rows l
        → (1 ≤ step_on xs t rows l) × (step_on xs t rows l ≤ length (block_at bs (block_on xs rows l)).uses)
    step_in l h v =
        let s = steps-at top path shape.0 l (omega (arith, f.depth)) in
        let e : (after top (take l path)).block.uses ≡ (block_at bs (block_on xs rows l)).uses =
        ap (λ (z : Copy). z.block.uses) (sym (copy-after l (omega arith)) ∙ v.is) in
        (omega (arith, s, step_is l h), omega (arith, s, step_is l h, ap length e))

    use_is : (l : ℕ) → l < q.depth → Level rows l
        → nth_use (block_at bs (block_on xs rows l)).uses (step_on xs t rows l) ≡ use_at xs bs (get_or rows l 0)
    use_is l h v =
        let s = step_in l h v in
        let e : Takes t (block_on xs rows l) (step_on xs t rows l) (get_or rows l 0) = omega (arith, s) in
        use_of (block_on xs rows l) (step_on xs t rows l) (get_or rows l 0) v.known e s.0 s.1

    level-first : Level rows 0
    unfolding copy_on block_on last_block
    level-first = record { known = omega (arith, (loaded-show g).blocks); base = 0; met = []; is = refl; under = itself refl }

    level-next : (l : ℕ) → l < q.depth → Level rows l → Level rows (suc l)
    level-next l h v =
        let y : Copy = copy_of bs (block_on xs rows l) v.base v.met in
        let s = step_in l h v in
        let p : Part = part_at y (step_on xs t rows l) in
        let m : IsPart y p = part-at_part y (step_on xs t rows l) s.0 s.1 in
        let e : p.of.block ≡ block_on xs rows (suc l) = ap (λ (u : Use). u.block) (use_is l h v) ∙ sym (block-suc xs rows l) in
        let lower : p.of.block < length bs = (part-use (under_sound top_sound v.under).fit p m).lower in
        record {
          known = rw e at lower;
          base = p.base;
          met = meets y p;
          is = copy-suc xs t rows l ∙ ap (λ (z : Copy). part-copy z (part_at z (step_on xs t rows l))) v.is
              ∙ ap (λ (b : ℕ). copy_of bs b p.base (meets y p)) e;
          under = rw (← e) (part_of y v.under p m refl);
        }

    pub levels : (l : ℕ) → l ≤ q.depth → Level rows l
    levels zero h = level-first
    levels (suc l) h = level-next l (omega arith) (levels l (omega arith))

    -- The copy at level l, and the part of it that is the copy at the next level.
    abbrev pub here : (l : ℕ) → l ≤ q.depth → Copy
    here l h = copy_of bs (block_on xs rows l) (levels l h).base (levels l h).met

    pub here-sound : (l : ℕ) (h : l ≤ q.depth) → Sound (here l h)
    here-sound l h = under_sound top_sound (levels l h).under

    abbrev pub part-on : (l : ℕ) → l ≤ q.depth → Part
    part-on l h = part_at (here l h) (step_on xs t rows l)

    pub step-bounds : (l : ℕ) → l < q.depth
        → (1 ≤ step_on xs t rows l) × (step_on xs t rows l ≤ length (block_at bs (block_on xs rows l)).uses)
    step-bounds l h = step_in l h (levels l (omega arith))

    pub is-part : (l : ℕ) → l < q.depth → (k : l ≤ q.depth) → IsPart (here l k) (part-on l k)
    is-part l h k = let s = step-bounds l h in part-at_part (here l k) (step_on xs t rows l) s.0 s.1

    pub part-use_is : (l : ℕ) → l < q.depth → (k : l ≤ q.depth) → (part-on l k).of ≡ use_at xs bs (get_or rows l 0)
    part-use_is l h k = use_is l h (levels l k)

    pub next-is : (l : ℕ) (k : l ≤ q.depth) → copy_on xs t rows (suc l) ≡ part-copy (here l k) (part-on l k)
    next-is l k = copy-suc xs t rows l ∙ ap (λ (z : Copy). part-copy z (part_at z (step_on xs t rows l))) (levels l k).is

    -- The own cue at the end, and its number.
    pub end_after : copy_on xs t rows q.depth ≡ after top path
    end_after = copy-after q.depth (omega arith) ∙ ap (after top) (ap (λ (n : ℕ). take n path) f.depth ∙ take-length path)

    pub own-bounds : (1 ≤ q.own) × (q.own ≤ (copy_on xs t rows q.depth).block.own)
    own-bounds = rw end_after (shape.1, shape.2)

    pub cue-is : number (copy_on xs t rows q.depth) q.own ≡ q.cue
    cue-is =
        ap (λ (z : Copy). number z q.own) end_after
        ∙ sym (number-after bs (loaded-show g).good (last_block bs) 0 [] path q.own shape.0 shape.1 shape.2) ∙ f.number

    -- Its block, and the rows that lead there.
    pub place-block : IsBlock xs q.block
    place-block = rw f.block (levels q.depth (omega arith)).known

    pub own-known : q.own ≤ own_of bs q.block
    own-known =
        let h : q.depth ≤ q.depth = omega arith in
        let e : (copy_on xs t rows q.depth).block.own ≡ (block_at bs (block_on xs rows q.depth)).own =
        ap (λ (z : Copy). z.block.own) (levels q.depth h).is in
        rw (f.block, own_of_at bs (block_on xs rows q.depth)) (omega (arith, own-bounds))

    pub own-few : q.own ≤ max_own
    own-few = omega (arith, own-known, block-own-few g q.block place-block)

    pub rows-to : (l : ℕ) → l ≤ q.depth → UsesTo xs rows l
    rows-to l h = uses-fewer l f.along.uses (omega (arith, f.depth))

    -- A number of a copy is one of the copies around it.
    numbered_next : (s l : ℕ) → l < q.depth → InCopy (copy_on xs t rows (suc l)) s → InCopy (copy_on xs t rows l) s
    numbered_next s l h n =
        let k : l ≤ q.depth = omega arith in
        rw (levels l k).is (part-numbered (here-sound l k) (part-on l k) (is-part l h k) s (rw (next-is l k) at n))

    pub numbered-up : (s n l : ℕ) → l + n ≤ q.depth → InCopy (copy_on xs t rows (l + n)) s → InCopy (copy_on xs t rows l) s
    numbered-up s zero l h n = let e : l + 0 ≡ l = omega arith in rw e at n
    numbered-up s (suc m) l h n =
        let e : l + suc m ≡ suc (l + m) =
        omega arith in numbered-up s m l (omega arith) (numbered_next s (l + m) (omega arith) (rw e at n))

    -- So every copy on the way has the cue.
    pub cue-numbered : (l : ℕ) → l ≤ q.depth → InCopy (copy_on xs t rows l) q.cue
    cue-numbered l h =
        let e : l + (q.depth - l) ≡ q.depth = omega arith in
        numbered-up q.cue (q.depth - l) l (omega arith) (rw e end)
      where
        end : InCopy (copy_on xs t rows q.depth) q.cue
        end =
            let y : Copy = copy_on xs t rows q.depth in
            omega (arith, cue_at-own y.block.own y.base y.met q.own own-bounds.1, own-bounds, cue-is)

-- Rows that are the same lead to the same copies.
module _ (xs t a b : List ℕ) (n : ℕ) (same : (j : ℕ) → j < n → get_or a j 0 ≡ get_or b j 0) where
  pub block_same : (l : ℕ) → l ≤ n → block_on xs a l ≡ block_on xs b l
  unfolding block_on
  block_same zero h = refl
  block_same (suc l) h = ap (λ (r : ℕ). (use_at xs (blocks_of xs) r).block) (same l (omega arith))

  pub copy-same : (l : ℕ) → l ≤ n → copy_on xs t a l ≡ copy_on xs t b l
  unfolding copy_on
  copy-same zero h = refl
  copy-same (suc l) h =
      let s : step_on xs t a l ≡ step_on xs t b l = rw (same l (omega arith), block_same l (omega arith)) in
      ap (λ (z : Copy). part-copy z (part_at z (step_on xs t a l))) (copy-same l (omega arith))
      ∙ ap (λ (p : ℕ). part-copy (copy_on xs t b l) (part_at (copy_on xs t b l) p)) s

-- Two parts of a copy by different steps share no number.
sum-take : (f : ℕ → ℕ) (us : List Use) (n m : ℕ) → n < m → n < length us
    → sum_over f (take n us) + f (get_or us n (record { block = 0; at = [] })).block ≤ sum_over f (take m us)
unfolding sum_over
sum-take f [] n m h l = absurd (omega arith)
sum-take f (u ∷ us) n zero h l = absurd (omega arith)
sum-take f (u ∷ us) zero (suc m) h l = omega arith
sum-take f (u ∷ us) (suc n) (suc m) h l = omega (arith, sum-take f us n m (omega arith) (omega arith))

module _ {z : Copy} (g : Sound z) where
  ordered_apart : (p q s : ℕ) → 1 ≤ p → p < q → q ≤ length z.block.uses → InCopy (part-copy z (part_at z p)) s
      → InCopy (part-copy z (part_at z q)) s → ⊥
  unfolding nth_use
  ordered_apart p q s low less high a b =
      omega (
        arith,
        a,
        b,
        sum-take (total z.blocks) z.block.uses (p - 1) (q - 1) (omega arith) (omega arith),
        part-total g (part_at z p) (part-at_part z p low (omega arith)),
      )

  pub parts-apart : (p q s : ℕ) → 1 ≤ p → p ≤ length z.block.uses → 1 ≤ q → q ≤ length z.block.uses → (p ≡ q → ⊥)
      → InCopy (part-copy z (part_at z p)) s → InCopy (part-copy z (part_at z q)) s → ⊥
  parts-apart p q s lp hp lq hq n a b = go (dec_lt p q)
    where
      go : Dec (p < q) → ⊥
      go (yes h) = ordered_apart p q s lp h hq a b
      go (no h) = ordered_apart q p s lq (omega (arith, n)) hp b a
