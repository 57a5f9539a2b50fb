-- The blocks that are asked about are those that accepted rows stand for, and their totals are those of the rows.
use Prim.Native.Nat.{ℕ, ◌-◌, ◌<◌}
use native.Mathlib.Omega.{arith}
use mathlib.Core.Path.{◌≡◌}
use mathlib.Core.List.{List}
use lib.ListN.{length}
use Rattle.model.specs.Rows.{row_count}
use Rattle.model.specs.Blocks.{blocks_of, total, last_block, count}
use Rattle.model.specs.Verdicts.{verdict, Accepted}
use Rattle.shows.proofs.Accepted.{Passes, passes, counted, accepted-show}
use Rattle.demands.specs.Acceptance.{nth_row, AreTotals}
use Rattle.demands.specs.Blocks.{AreBlocks}
use Rattle.demands.proofs.RowByRow.{RowsPassed, rows-passed}
use Rattle.demands.proofs.BlocksOfRows.{blocks-are}
use Rattle.demands.proofs.TotalsOfRows.{totals-are}

-- What is known of accepted rows.
all-passed : (xs : List ℕ) → verdict xs ≡ Accepted → RowsPassed xs
all-passed xs ok = let p : Passes xs = passes xs ok in rows-passed xs (counted xs p.count).1 p.rows

pub are-blocks : (xs : List ℕ) → verdict xs ≡ Accepted → AreBlocks xs (blocks_of xs)
are-blocks xs ok = blocks-are xs (all-passed xs ok)

-- The show is one of them.
pub last-low : (xs : List ℕ) → verdict xs ≡ Accepted → last_block (blocks_of xs) < length (blocks_of xs)
unfolding last_block
last-low xs ok = omega (arith, (accepted-show xs ok).blocks)

-- Their totals are totals of the rows, and the count is the total of the show, whoever gives the totals.
pub rows-totals : (xs : List ℕ) → verdict xs ≡ Accepted → (T : ℕ → ℕ) × AreTotals xs T
rows-totals xs ok = (total (blocks_of xs), (totals-are xs (all-passed xs ok)).0)

pub count-total : (xs : List ℕ) → verdict xs ≡ Accepted → (T : ℕ → ℕ) → AreTotals xs T → T (nth_row xs (row_count xs)).block ≡ count (blocks_of xs)
unfolding count last_block
count-total xs ok T a =
    let many = (are-blocks xs ok).many in
    let e : length (blocks_of xs) - 1 ≡ (nth_row xs (row_count xs)).block = omega arith in
    rw e ((totals-are xs (all-passed xs ok)).1 T a (nth_row xs (row_count xs)).block (omega arith))
