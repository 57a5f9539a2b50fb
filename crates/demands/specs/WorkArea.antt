-- The work area as an answer of fewest leaves it, in the words of document 01, "Questions". What a block's own unfolding is: `Replacement.Unfolds`; which of
-- its links a chain may have: `Notes.ChainLinks`.
use Rattle.std.specs.Prelude.{ℕ, ◌+◌, ◌*◌, ◌-◌, ◌≤◌, ◌<◌, ◌≡◌, List}
use Rattle.std.proofs.Math.ListN.{length, get_or}
use Rattle.model.specs.Blocks.{Link, total, blocks_of}
use Rattle.distances.specs.Demand.{Summarised}
use Rattle.demands.specs.Acceptance.{joins_in}

-- "its first 64 × blocks numbers hold the summaries": how many of them a block has.
abbrev pub block_numbers : ℕ
block_numbers = 64

-- "for block k, join i to join j (both from 1) at place 64 × k + 8 × (i − 1) + (j − 1), counted from 0".
abbrev pub place : ℕ → ℕ → ℕ → ℕ
place k i j = block_numbers * k + 8 * (i - 1) + (j - 1)

-- Inside gives, for each block, the links of its own unfolding that a chain may have.
pub record IsWorkArea (xs : List ℕ) (Inside : ℕ → List Link) (work after : List ℕ) : Type 0 where
  -- At its place, "the fewest follow-ons inside that block's own unfolding."
  pub summaries : (k i j : ℕ) → k < length (blocks_of xs) → 1 ≤ i → i ≤ 8 → 1 ≤ j → j ≤ 8
      → Summarised (Inside k) (total (blocks_of xs) k) (joins_in xs k) i j (get_or after (place k i j) 0)
  -- "The others up to 16,384 are 0; beyond that nothing changes."
  pub others : (p : ℕ) → block_numbers * length (blocks_of xs) ≤ p → p < 16384 → get_or after p 0 ≡ 0
  pub beyond : (p : ℕ) → 16384 ≤ p → get_or after p 0 ≡ get_or work p 0
  pub size : length after ≡ length work
