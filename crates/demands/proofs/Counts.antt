-- How many copies are put in for a use, and for the uses that stand.
use Prim.Native.Nat.{ℕ, suc, ◌+◌, ◌<◌}
use native.Mathlib.Omega.{arith}
use mathlib.Core.Path.{◌≡◌, refl, sym, ◌∙◌, ap, ap₂}
use mathlib.Core.Bool.{Bool, true, false}
use mathlib.Core.List.Memᴰ
use mathlib.Core.List.{List, [], ◌∷◌, ◌++◌}
use lib.ListN.{length}
use lib.Dec.{eqb}
use borrow.Author.Tests.{eqb-false}
use Rattle.model.specs.Blocks.{Use, Block, block_at, sum_over}
use Rattle.shows.specs.WellFormed.{Good, more}
use Rattle.shows.proofs.AtBlock.{block_at_hit, block_at_skip}
use Rattle.shows.proofs.BlockAt.{Lower, lower_skip, good-at}
use Rattle.demands.specs.Replacement.{Node, Standing, standing, copies}

module _ (b : Block) (earlier : List Block) where
  -- The copies for a use of the list's first block, and of the blocks behind it.
  copies-hit : (k : ℕ) → eqb k (length earlier) ≡ true → copies (b ∷ earlier) k ≡ suc (sum_over (copies earlier) b.uses)
  unfolding copies
  copies-hit k e = rw (e, copies)

  copies_skip : (k : ℕ) → eqb k (length earlier) ≡ false → copies (b ∷ earlier) k ≡ copies earlier k
  unfolding copies
  copies_skip k e = rw (e, copies)

  -- One block more changes nothing for uses of lower blocks.
  sum_more : (us : List Use) → Lower us (length earlier) → sum_over (copies earlier) us ≡ sum_over (copies (b ∷ earlier)) us
  unfolding sum_over
  sum_more [] h = refl
  sum_more (u ∷ us) h =
      let e : eqb u.block (length earlier) ≡ false = lower_skip b earlier u.block (h u (Memᴰ.head refl)) in
      ap₂ ◌+◌ (sym (copies_skip u.block e)) (sum_more us (λ w i. h w (Memᴰ.tail i)))

-- The copies for a use of block k, over all blocks.
pub copies_at : (bs : List Block) → Good bs → (k : ℕ) → k < length bs → copies bs k ≡ suc (sum_over (copies bs) (block_at bs k).uses)
copies_at [] good k l = absurd (omega arith)
copies_at (b ∷ earlier) (more ok good) k l = go (copies_at earlier good k) (eqb k (length earlier)) refl
  where
    go : (k < length earlier → copies earlier k ≡ suc (sum_over (copies earlier) (block_at earlier k).uses))
        → (t : Bool) → eqb k (length earlier) ≡ t
        → copies (b ∷ earlier) k ≡ suc (sum_over (copies (b ∷ earlier)) (block_at (b ∷ earlier) k).uses)
    go h true e =
        rw (block_at_hit b earlier k e)
        (copies-hit b earlier k e ∙ ap suc (sum_more b earlier b.uses (λ u i. (ok.uses u i).lower)))
    go h false e =
        rw (block_at_skip b earlier k e)
        (copies_skip b earlier k e ∙ h (omega (arith, eqb-false k (length earlier) e))
        ∙ ap suc (sum_more b earlier (block_at earlier k).uses (λ u i. ((good-at earlier good k).uses u i).lower)))

-- The copies for all the uses that stand.
module _ (bs : List Block) where
  unfoldable pub left : List Standing → ℕ
  left [] = 0
  left (u ∷ us) = copies bs u.block + left us

  -- Of two lists of uses, and of the uses that a step leaves.
  pub left-append : (us ws : List Standing) → left (us ++ ws) ≡ left us + left ws
  unfolding left
  left-append [] ws = omega arith
  left-append (u ∷ us) ws = omega (arith, left-append us ws)

  pub left-standing : (cues : List Node) (path : List ℕ) (p : ℕ) (us : List Use) → left (standing cues path p us) ≡ sum_over (copies bs) us
  unfolding left standing sum_over
  left-standing cues path p [] = refl
  left-standing cues path p (u ∷ us) = ap (λ (n : ℕ). copies bs u.block + n) (left-standing cues path (suc p) us)
