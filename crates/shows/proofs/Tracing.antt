-- The links of a copy with their origins: over all blocks, by the parts of the copy, and that they are the links of the unfolding.
use Prim.Native.Nat.{ℕ, suc, ◌+◌}
use mathlib.Core.Path.{◌≡◌, refl, sym, ◌∙◌, ap, ap₂}
use mathlib.Core.Bool.{Bool, true, false}
use mathlib.Core.List.Memᴰ
use mathlib.Core.List.{List, [], ◌∷◌, ◌++◌, map, map-append}
use lib.ListN.{length}
use lib.Dec.{eqb}
use Rattle.model.specs.Blocks.{Link, Use, Block, no_block, block_at, total}
use Rattle.model.specs.Unfolding.{cue_at, renamed, uses_links, links}
use Rattle.model.specs.Behind.{Traced, traced_into, rows_traced, uses_traced, traced}
use Rattle.shows.specs.WellFormed.{GoodBlock, Good, more}
use Rattle.shows.specs.Copies.{Copy, number, copy_of}
use Rattle.shows.proofs.AtBlock.{total-skip, block_at_hit, block_at_skip}
use Rattle.shows.proofs.BlockAt.{Lower, lower_skip, good-at}

-- Traced links without their origins.
abbrev pub link-of : Traced → Link
link-of x = x.link

into-links : (p : ℕ) (xs : List Traced) → map link-of (map (traced_into p) xs) ≡ map link-of xs
unfolding traced_into
into-links p [] = refl
into-links p (x ∷ xs) = ap (λ (E : List Link). x.link ∷ E) (into-links p xs)

pub rows-links : (number : ℕ → ℕ) (r : ℕ) (ls : List Link) → map link-of (rows_traced number r ls) ≡ map (renamed number) ls
unfolding rows_traced
rows-links number r [] = refl
rows-links number r (l ∷ ls) = ap (λ (E : List Link). renamed number l ∷ E) (rows-links number (suc r) ls)

uses-links : (size : ℕ → ℕ) (below : ℕ → ℕ → List ℕ → List Traced) (under : ℕ → ℕ → List ℕ → List Link)
    → ((k base : ℕ) (met : List ℕ) → map link-of (below k base met) ≡ under k base met)
    → (number : ℕ → ℕ) (p base : ℕ) (us : List Use)
    → map link-of (uses_traced size below number p base us) ≡ uses_links size under number base us
unfolding uses_traced uses_links
uses-links size below under same number p base [] = refl
uses-links size below under same number p base (u ∷ us) =
    map-append link-of (map (traced_into p) (below u.block base (map number u.at))) _
    ∙ ap₂ ◌++◌ (into-links p (below u.block base (map number u.at)) ∙ same u.block base (map number u.at))
    (uses-links size below under same number (suc p) (base + size u.block) us)

module _ (opening : ℕ → ℕ) where
  -- The links of a copy of block k: those of its rows, and those of its parts.
  abbrev pub own-traced : ℕ → Copy → List Traced
  own-traced k z = rows_traced (number z) (suc (opening k)) z.block.links

  abbrev pub parts-traced : Copy → List Traced
  parts-traced z = uses_traced (total z.blocks) (traced opening z.blocks) (number z) 1 (z.base + z.block.own) z.block.uses

  abbrev pub all-traced : ℕ → Copy → List Traced
  all-traced k z = own-traced k z ++ parts-traced z

  module _ (b : Block) (earlier : List Block) where
    pub traced-hit : (k base : ℕ) (met : List ℕ) → eqb k (length earlier) ≡ true
        → traced opening (b ∷ earlier) k base met
        ≡ rows_traced (cue_at b.own base met) (suc (opening k)) b.links
        ++ uses_traced (total earlier) (traced opening earlier) (cue_at b.own base met) 1 (base + b.own) b.uses
    unfolding traced
    traced-hit k base met e = rw (e, traced)

    pub traced-skip : (k base : ℕ) (met : List ℕ) → eqb k (length earlier) ≡ false
        → traced opening (b ∷ earlier) k base met ≡ traced opening earlier k base met
    unfolding traced
    traced-skip k base met e = rw (e, traced)

    -- One block more changes nothing for uses of lower blocks.
    traced-more : (number : ℕ → ℕ) (p base : ℕ) (us : List Use) → Lower us (length earlier)
        → uses_traced (total earlier) (traced opening earlier) number p base us
        ≡ uses_traced (total (b ∷ earlier)) (traced opening (b ∷ earlier)) number p base us
    unfolding uses_traced
    traced-more number p base [] h = refl
    traced-more number p base (u ∷ us) h =
        let e : eqb u.block (length earlier) ≡ false = lower_skip b earlier u.block (h u (Memᴰ.head refl)) in
        ap₂ ◌++◌ (ap (map (traced_into p)) (sym (traced-skip u.block base (map number u.at) e)))
        (traced-more number (suc p) (base + total earlier u.block) us (λ w i. h w (Memᴰ.tail i))
        ∙ ap (λ (n : ℕ). uses_traced (total (b ∷ earlier)) (traced opening (b ∷ earlier)) number (suc p) (base + n) us)
        (sym (total-skip b earlier u.block e)))

  pub traced-at : (bs : List Block) → Good bs → (k base : ℕ) (met : List ℕ) → traced opening bs k base met ≡ all-traced k (copy_of bs k base met)
  unfolding traced block_at no_block uses_traced rows_traced
  traced-at [] good k base met = refl
  traced-at (b ∷ earlier) (more ok good) k base met = go (traced-at earlier good k base met) (eqb k (length earlier)) refl
    where
      go : traced opening earlier k base met ≡ all-traced k (copy_of earlier k base met) → (t : Bool) → eqb k (length earlier) ≡ t
          → traced opening (b ∷ earlier) k base met ≡ all-traced k (copy_of (b ∷ earlier) k base met)
      go h true e =
          rw (block_at_hit b earlier k e)
          (traced-hit b earlier k base met e
          ∙ ap (λ (X : List Traced). rows_traced (cue_at b.own base met) (suc (opening k)) b.links ++ X)
          (traced-more b earlier (cue_at b.own base met) 1 (base + b.own) b.uses (λ u i. (ok.uses u i).lower)))
      go h false e =
          let g : GoodBlock earlier (block_at earlier k) = good-at earlier good k in
          let c : Block = block_at earlier k in
          rw (block_at_skip b earlier k e)
          (traced-skip b earlier k base met e ∙ h
          ∙ ap (λ (X : List Traced). rows_traced (cue_at c.own base met) (suc (opening k)) c.links ++ X)
          (traced-more b earlier (cue_at c.own base met) 1 (base + c.own) c.uses (λ u i. (g.uses u i).lower)))

  -- Without their origins they are the links of the copy.
  pub traced-links : (bs : List Block) (k base : ℕ) (met : List ℕ) → map link-of (traced opening bs k base met) ≡ links bs k base met
  unfolding traced links
  traced-links [] k base met = refl
  traced-links (b ∷ earlier) k base met = go (traced-links earlier) (eqb k (length earlier)) refl
    where
      go : ((k base : ℕ) (met : List ℕ) → map link-of (traced opening earlier k base met) ≡ links earlier k base met)
          → (t : Bool) → eqb k (length earlier) ≡ t → map link-of (traced opening (b ∷ earlier) k base met) ≡ links (b ∷ earlier) k base met
      go below true e =
          rw (e, traced, links)
          (map-append link-of (rows_traced (cue_at b.own base met) (suc (opening k)) b.links) _
          ∙ ap₂ ◌++◌ (rows-links (cue_at b.own base met) (suc (opening k)) b.links)
          (uses-links (total earlier) (traced opening earlier) (links earlier) below (cue_at b.own base met) 1 (base + b.own) b.uses))
      go below false e = rw (e, traced, links) (below k base met)
