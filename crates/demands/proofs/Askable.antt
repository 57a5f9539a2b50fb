-- A question that meets none of refusals 4 to 12.
use Prim.Native.Nat.{ℕ, ◌≤◌}
use native.Mathlib.Omega.{arith}
use mathlib.Core.Path.{◌≡◌, refl}
use mathlib.Core.Logic.{⊎_elim}
use lib.ListN.{replicate, length-replicate}
use Rattle.model.specs.Choice.{if_eq}
use Rattle.model.specs.Rows.{cell, row_at, rows_from, row_count, rows_of}
use Rattle.model.specs.Blocks.{block_at, add_link, add_use, add_row, add_rows, blocks_of, sum_over, total, last_block, count}
use Rattle.model.specs.Ring.{ring}
use Rattle.demands.specs.Refusals.{NoCue}
use Rattle.demands.specs.Quickest.{Askable}
use Rattle.demands.proofs.Acceptance.{accepted-exactly}
use Rattle.demands.proofs.Ring.{ring-accepted}

-- The ring has five cues.
five : count (blocks_of ring) ≡ 5
unfolding blocks_of count rows_of rows_from row_count row_at cell add_rows add_row add_link add_use if_eq total sum_over block_at last_block
five = refl

known : (n : ℕ) → 1 ≤ n → n ≤ 5 → NoCue ring n → ⊥
known n low high k = ⊎_elim (λ z. omega arith) (λ h. omega (arith, five)) k

pub ring-askable : Askable ring 1 2 (replicate 16384 0)
ring-askable =
    record {
      lawful = (accepted-exactly ring).0 ring-accepted;
      room = omega (arith, length-replicate {A = ℕ} 16384 0);
      start = known 1 (omega arith) (omega arith);
      end = known 2 (omega arith) (omega arith);
    }
