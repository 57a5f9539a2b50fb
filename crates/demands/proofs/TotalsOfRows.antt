-- The totals that the rows speak of: those of the blocks that the rows make are totals of the rows, and there are no others.
use Prim.Native.Nat.{ℕ, zero, suc, ◌+◌, ◌<◌}
use native.Mathlib.Omega.{arith}
use mathlib.Core.Path.{◌≡◌, refl, sym, ◌∙◌, ap, ap₂}
use mathlib.Core.List.{List, [], ◌∷◌, Memᴰ}
use lib.ListN.{length}
use Rattle.model.specs.Rows.{rows_of}
use Rattle.model.specs.Blocks.{Use, block_at, sum_over, total, blocks_of}
use Rattle.shows.specs.WellFormed.{Good}
use Rattle.shows.proofs.BlockAt.{lower-at, total-at}
use Rattle.demands.specs.Acceptance.{nth_row, joins_in, own_in, uses_total, AreTotals}
use Rattle.demands.proofs.RowByRow.{RowsPassed}
use Rattle.demands.proofs.PartsOfRows.{total-of_uses}
use Rattle.demands.proofs.BlocksOfRows.{OpenedBy, opening_of, opened-lower, blocks-are}

-- Functions that agree on the blocks used.
sum_same : (f g : ℕ → ℕ) (us : List Use) → ((u : Use) → Memᴰ u us → f u.block ≡ g u.block) → sum_over f us ≡ sum_over g us
unfolding sum_over
sum_same f g [] h = refl
sum_same f g (u ∷ us) h = ap₂ ◌+◌ (h u (Memᴰ.head refl)) (sum_same f g us (λ v i. h v (Memᴰ.tail i)))

-- Of rows that have passed.
module _ (xs : List ℕ) (passed : RowsPassed xs) where
  -- The blocks are well formed.
  good : Good (blocks_of xs)
  good = passed.knows.tracks.good

  -- The uses of a block are its use rows.
  uses-are : (f : ℕ → ℕ) (n : ℕ) → n < length (blocks_of xs) → sum_over f (block_at (blocks_of xs) n).uses ≡ uses_total f n (rows_of xs)
  uses-are f n h = ap (sum_over f) ((blocks-are xs passed).uses n h) ∙ total-of_uses (joins_in xs) f n (rows_of xs)

  -- "own cues plus the totals of its uses", which the totals of the blocks are,
  abbrev IsTotal : (ℕ → ℕ) → ℕ → Type 0
  IsTotal T n = T n ≡ own_in xs n + uses_total T n (rows_of xs)

  total-is : (n : ℕ) → n < length (blocks_of xs) → IsTotal (total (blocks_of xs)) n
  total-is n h =
      total-at (blocks_of xs) good n 0 [] ∙ ap₂ ◌+◌ ((blocks-are xs passed).own n h) (uses-are (total (blocks_of xs)) n h)

  -- and so is whatever gives totals.
  module _ (T : ℕ → ℕ) (a : AreTotals xs T) where
    totals-at : (n : ℕ) → n < length (blocks_of xs) → IsTotal T n
    totals-at n h = let o : OpenedBy xs n (block_at (blocks_of xs) n) = opening_of xs passed n h in rw o.block at (a o.row o.is o.opens)

    -- It is the same at a block if it is the same at the lower ones,
    same_next : (n : ℕ) → n < length (blocks_of xs) → ((j : ℕ) → j < n → T j ≡ total (blocks_of xs) j) → T n ≡ total (blocks_of xs) n
    same_next n h below =
        totals-at n h
        ∙ ap (λ (m : ℕ). own_in xs n + m)
        (sym (uses-are T n h)
        ∙ sum_same T (total (blocks_of xs)) _ (λ u i. below u.block (lower-at (blocks_of xs) good n u i))
        ∙ uses-are (total (blocks_of xs)) n h)
        ∙ sym (total-is n h)

    -- so at all of them.
    same-below : (m n : ℕ) → n < m → n < length (blocks_of xs) → T n ≡ total (blocks_of xs) n
    same-below zero n l h = absurd (omega arith)
    same-below (suc m) n l h = same_next n h (λ j b. same-below m j (omega arith) (omega arith))

  -- There are totals, those of the blocks, and they are the only ones.
  pub totals-are : AreTotals xs (total (blocks_of xs))
      × ((T : ℕ → ℕ) → AreTotals xs T → (n : ℕ) → n < length (blocks_of xs) → T n ≡ total (blocks_of xs) n)
  totals-are = (
    λ r i o. total-is (nth_row xs r).block (opened-lower xs passed r i o),
    λ T a n h. same-below T a (suc n) n (omega arith) h,
  )
