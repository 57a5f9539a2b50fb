-- What is known of accepted rows.
use Rattle.std.specs.Prelude.{ℕ, suc, ◌≤◌, ◌<◌, ◌%◌, ◌≡◌, List, length, get_or}
use Rattle.model.specs.Limits.{row_size, max_rows, max_blocks, max_total}
use Rattle.model.specs.Rows.{row_count}
use Rattle.model.specs.Blocks.{joins_of, own_of, total, blocks_of, last_block}
use Rattle.shows.specs.WellFormed.{Good, Small}

pub record Show (xs : List ℕ) : Type 0 where
  -- the rows: whole ones, 1 to 1,024, every value of at most three digits
  pub whole : length xs % row_size ≡ 0
  pub rows : (1 ≤ row_count xs) × (row_count xs ≤ max_rows)
  pub values : (i : ℕ) → get_or xs i 0 ≤ 999
  -- the blocks: well formed, none too large, 1 to 128
  pub good : Good (blocks_of xs)
  pub small : Small (blocks_of xs)
  pub blocks : (1 ≤ length (blocks_of xs)) × (length (blocks_of xs) ≤ max_blocks)
  -- the last block is the show: no joins, at least one own cue; every other block has joins
  pub no_joins : joins_of (blocks_of xs) (last_block (blocks_of xs)) ≡ 0
  pub own : 1 ≤ own_of (blocks_of xs) (last_block (blocks_of xs))
  pub joins : (k : ℕ) → suc k < length (blocks_of xs) → 1 ≤ joins_of (blocks_of xs) k
  -- no total is too large
  pub totals : (k : ℕ) → total (blocks_of xs) k ≤ max_total
