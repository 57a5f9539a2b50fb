-- Blocks by number: what a block means does not depend on the blocks behind which it stands, so every equation of the definitions
-- holds with the whole list of blocks in place of the earlier ones.
use Prim.Native.Nat.{ℕ, ◌+◌, ◌<◌}
use native.Mathlib.Omega.{arith}
use mathlib.Core.Path.{◌≡◌, refl, sym, ◌∙◌, ap, ap₂}
use mathlib.Core.Bool.{Bool, true, false}
use mathlib.Core.List.Memᴰ
use mathlib.Core.List.{List, [], ◌∷◌, ◌++◌, map, Memᴰ}
use lib.ListN.{length}
use lib.Dec.{eqb}
use borrow.Author.Tests.{eqb-true, ne_eqb}
use Rattle.model.specs.Blocks.{Link, Use, Block, no_block, block_at, joins_of, own_of, sum_over, total}
use Rattle.model.specs.Unfolding.{cue_at, renamed, uses_links, links}
use Rattle.shows.specs.WellFormed.{GoodUse, GoodBlock, Good, more}
use Rattle.shows.proofs.AtBlock.{joins_of-skip, total-hit, total-skip, links-hit, links-skip, block_at_hit, block_at_skip}
use Rattle.shows.specs.Copies.{Fit, all-links, extent, copy_of}

pub joins_of-at : (bs : List Block) (k : ℕ) → joins_of bs k ≡ (block_at bs k).joins
unfolding joins_of
joins_of-at bs k = refl

pub own_of_at : (bs : List Block) (k : ℕ) → own_of bs k ≡ (block_at bs k).own
unfolding own_of
own_of_at bs k = refl

-- One block more changes nothing for uses of lower blocks.
abbrev pub Lower : List Use → ℕ → Type 0
Lower us n = (u : Use) → Memᴰ u us → u.block < n

module _ (b : Block) (earlier : List Block) where
  pub lower_skip : (k : ℕ) → k < length earlier → eqb k (length earlier) ≡ false
  lower_skip k h = ne_eqb k (length earlier) (λ e. omega arith)

  sum_more : (us : List Use) → Lower us (length earlier) → sum_over (total earlier) us ≡ sum_over (total (b ∷ earlier)) us
  unfolding sum_over
  sum_more [] h = refl
  sum_more (u ∷ us) h =
      ap₂ ◌+◌ (sym (total-skip b earlier u.block (lower_skip u.block (h u (Memᴰ.head refl))))) (sum_more us (λ w i. h w (Memᴰ.tail i)))

  uses-more : (number : ℕ → ℕ) (base : ℕ) (us : List Use) → Lower us (length earlier)
      → uses_links (total earlier) (links earlier) number base us ≡ uses_links (total (b ∷ earlier)) (links (b ∷ earlier)) number base us
  unfolding uses_links
  uses-more number base [] h = refl
  uses-more number base (u ∷ us) h =
      let e : eqb u.block (length earlier) ≡ false = lower_skip u.block (h u (Memᴰ.head refl)) in
      ap₂ ◌++◌ (sym (links-skip b earlier u.block base (map number u.at) e))
      (uses-more number (base + total earlier u.block) us (λ w i. h w (Memᴰ.tail i))
      ∙ ap (λ (n : ℕ). uses_links (total (b ∷ earlier)) (links (b ∷ earlier)) number (base + n) us) (sym (total-skip b earlier u.block e)))

  use_more : {c : Block} {u : Use} → GoodUse earlier c u → GoodUse (b ∷ earlier) c u
  use_more {c} {u} g =
      record {
        lower = omega (arith, g.lower);
        arity = g.arity ∙ sym (joins_of-skip b earlier u.block (lower_skip u.block g.lower));
        cues = g.cues;
        apart = g.apart;
      }

  block_more : {c : Block} → GoodBlock earlier c → GoodBlock (b ∷ earlier) c
  block_more g = record { links = g.links; uses = λ u i. use_more (g.uses u i) }

-- Every block is well formed among all of them, and its uses name lower blocks.
pub good-at : (bs : List Block) → Good bs → (k : ℕ) → GoodBlock bs (block_at bs k)
unfolding block_at no_block
good-at [] good k =
    record { links = λ l i. absurd (Memᴰ.not-nil i); uses = λ u i. absurd (Memᴰ.not-nil i) }
good-at (b ∷ earlier) (more ok good) k = go (good-at earlier good k) (eqb k (length earlier)) refl
  where
    go : GoodBlock earlier (block_at earlier k) → (t : Bool) → eqb k (length earlier) ≡ t → GoodBlock (b ∷ earlier) (block_at (b ∷ earlier) k)
    go h true e = rw (block_at_hit b earlier k e) (block_more b earlier ok)
    go h false e = rw (block_at_skip b earlier k e) (block_more b earlier h)

pub lower-at : (bs : List Block) → Good bs → (k : ℕ) → Lower (block_at bs k).uses k
unfolding block_at no_block
lower-at [] good k u i = absurd (Memᴰ.not-nil i)
lower-at (b ∷ earlier) (more ok good) k u i = go (λ j. lower-at earlier good k u j) (eqb k (length earlier)) refl
  where
    go : (Memᴰ u (block_at earlier k).uses → u.block < k) → (t : Bool) → eqb k (length earlier) ≡ t → u.block < k
    go h true e = omega (arith, (ok.uses u (rw (block_at_hit b earlier k e) at i)).lower, eqb-true k (length earlier) e)
    go h false e = h (rw (block_at_skip b earlier k e) at i)

-- The total of block k, over all blocks.
pub total-at : (bs : List Block) → Good bs → (k base : ℕ) (met : List ℕ) → total bs k ≡ extent (copy_of bs k base met)
unfolding total block_at no_block sum_over
total-at [] good k base met = refl
total-at (b ∷ earlier) (more ok good) k base met = go (total-at earlier good k base met) (eqb k (length earlier)) refl
  where
    go : total earlier k ≡ extent (copy_of earlier k base met) → (t : Bool) → eqb k (length earlier) ≡ t
        → total (b ∷ earlier) k ≡ extent (copy_of (b ∷ earlier) k base met)
    go h true e =
        rw (block_at_hit b earlier k e)
        (total-hit b earlier k e ∙ ap (λ (n : ℕ). b.own + n) (sum_more b earlier b.uses (λ u i. (ok.uses u i).lower)))
    go h false e =
        let g : GoodBlock earlier (block_at earlier k) = good-at earlier good k in
        rw (block_at_skip b earlier k e)
        (total-skip b earlier k e ∙ h ∙ ap (λ (n : ℕ). (block_at earlier k).own + n) (sum_more b earlier (block_at earlier k).uses (λ u i. (g.uses u i).lower)))

-- The links of a copy of block k, over all blocks.
pub links-at : (bs : List Block) → Good bs → (k base : ℕ) (met : List ℕ) → links bs k base met ≡ all-links (copy_of bs k base met)
unfolding links block_at no_block uses_links
links-at [] good k base met = refl
links-at (b ∷ earlier) (more ok good) k base met = go (links-at earlier good k base met) (eqb k (length earlier)) refl
  where
    go : links earlier k base met ≡ all-links (copy_of earlier k base met) → (t : Bool) → eqb k (length earlier) ≡ t
        → links (b ∷ earlier) k base met ≡ all-links (copy_of (b ∷ earlier) k base met)
    go h true e =
        rw (block_at_hit b earlier k e)
        (links-hit b earlier k base met e
        ∙ ap (λ (E : List Link). map (renamed (cue_at b.own base met)) b.links ++ E)
        (uses-more b earlier (cue_at b.own base met) (base + b.own) b.uses (λ u i. (ok.uses u i).lower)))
    go h false e =
        let g : GoodBlock earlier (block_at earlier k) = good-at earlier good k in
        let c : Block = block_at earlier k in
        rw (block_at_skip b earlier k e)
        (links-skip b earlier k base met e ∙ h
        ∙ ap (λ (E : List Link). map (renamed (cue_at c.own base met)) c.links ++ E)
        (uses-more b earlier (cue_at c.own base met) (base + c.own) c.uses (λ u i. (g.uses u i).lower)))

pub fit_at : (bs : List Block) → Good bs → (k base : ℕ) (met : List ℕ) → length met ≡ joins_of bs k → Fit (copy_of bs k base met)
fit_at bs good k base met fits = record { good = good-at bs good k; fits = fits ∙ joins_of-at bs k }
