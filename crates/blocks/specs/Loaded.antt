-- A loaded show, and the rows of its blocks. Rows are counted from 0 here.
use Rattle.std.specs.Prelude.{ℕ, ◌+◌, ◌*◌, ◌-◌, ◌≤◌, ◌<◌, ◌≡◌, length, get_or}
use mathlib.Core.List.{List, Memᴰ}
use Rattle.model.specs.Limits.{max_rows}
use Rattle.model.specs.Rows.{cell, row_count}
use Rattle.model.specs.Blocks.{block_at, joins_of, blocks_of}
use Rattle.model.specs.Verdicts.{verdict, Accepted}
use Rattle.model.specs.Behind.{opening_row}
use Rattle.shows.specs.WellFormed.{GoodUse, GoodLink}
use Rattle.verdicts.specs.Index.{link_at, links_from, use_at, uses_from, Indexed}

-- The rows xs are accepted, and t is the index of their blocks.
pub record Loaded (xs t : List ℕ) : Type 0 where
  pub accepted : verdict xs ≡ Accepted
  pub index : Indexed xs t

-- k is one of the blocks, r one of the rows.
abbrev pub IsBlock : List ℕ → ℕ → Type 0
IsBlock xs k = k < length (blocks_of xs)

abbrev pub IsRow : List ℕ → ℕ → Type 0
IsRow xs r = r < row_count xs

-- The row at which the uses of block k begin, as the index has it.
abbrev pub uses_begin : List ℕ → ℕ → ℕ
uses_begin t k = get_or t (4 * k + 1) 0

-- The rows from first on, before end, are those of block k's links; of its uses. Counted from 1, the row that opens the block is row first.
pub record LinkRows (xs : List ℕ) (k first end : ℕ) : Type 0 where
  pub opened : first ≡ opening_row xs k
  pub order : first ≤ end
  pub there : end ≤ row_count xs
  pub few : end ≤ max_rows
  pub links : (block_at (blocks_of xs) k).links ≡ links_from xs first (end - first)

pub record UseRows (xs t : List ℕ) (k first end : ℕ) : Type 0 where
  pub begin : first ≡ uses_begin t k
  pub order : first ≤ end
  pub there : end ≤ row_count xs
  pub few : end ≤ max_rows
  pub uses : (block_at (blocks_of xs) k).uses ≡ uses_from xs (blocks_of xs) first (end - first)

-- Column j of row r, the first being 0: in a use's row, the cue that join j + 1 of the used block meets.
abbrev pub column_at : List ℕ → ℕ → ℕ → ℕ
column_at xs r j = cell xs r (3 + j)

-- Row r is that of one of block k's links.
pub record LinkRow (xs : List ℕ) (k r : ℕ) : Type 0 where
  pub there : IsRow xs r
  pub few : r < max_rows
  pub member : Memᴰ (link_at xs r) (block_at (blocks_of xs) k).links
  pub good : GoodLink (block_at (blocks_of xs) k) (link_at xs r)

-- Row r is that of one of block k's uses.
pub record UseRow (xs : List ℕ) (k r : ℕ) : Type 0 where
  pub there : IsRow xs r
  pub few : r < max_rows
  pub block : IsBlock xs k
  pub member : Memᴰ (use_at xs (blocks_of xs) r) (block_at (blocks_of xs) k).uses
  pub good : GoodUse (blocks_of xs) (block_at (blocks_of xs) k) (use_at xs (blocks_of xs) r)
  pub lower : (use_at xs (blocks_of xs) r).block < k
  pub columns : (j : ℕ) → j < joins_of (blocks_of xs) (use_at xs (blocks_of xs) r).block → get_or (use_at xs (blocks_of xs) r).at j 0 ≡ column_at xs r j

-- Join i is the first one that meets cue c in the use of row r, or the number of its joins where none does.
pub record IsJoinAt (xs : List ℕ) (r joins c i : ℕ) : Type 0 where
  pub within : i ≤ joins
  pub found : i < joins → column_at xs r i ≡ c
  pub before : (n : ℕ) → n < i → column_at xs r n ≡ c → ⊥
