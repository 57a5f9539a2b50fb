-- What the index of blocks says of lent rows. Rows are counted from 0 here.
use Rattle.std.specs.Prelude.{ℕ, zero, suc, ◌+◌, ◌*◌, ◌-◌, ◌≤◌, ◌<◌, ◌≡◌, List, [], ◌∷◌, length, get_or, take}
use Rattle.model.specs.Limits.{max_blocks}
use Rattle.model.specs.Rows.{cell, row_at, row_count}
use Rattle.model.specs.Blocks.{Link, Use, Block, block_at, joins_of, total, blocks_of}
use Rattle.model.specs.Behind.{opening_row}

-- The link of row r, and those of n rows from r on.
unfoldable pub link_at : List ℕ → ℕ → Link
link_at xs r = record { from = cell xs r 3; to = cell xs r 4; label = cell xs r 2 }

unfoldable pub links_from : List ℕ → ℕ → ℕ → List Link
links_from xs r zero = []
links_from xs r (suc n) = link_at xs r ∷ links_from xs (r + 1) n

-- The use of row r among some blocks, and those of n rows from r on.
unfoldable pub use_at : List ℕ → List Block → ℕ → Use
use_at xs bs r = record { block = cell xs r 2; at = take (joins_of bs (cell xs r 2)) (row_at xs r).columns }

unfoldable pub uses_from : List ℕ → List Block → ℕ → ℕ → List Use
uses_from xs bs r zero = []
uses_from xs bs r (suc n) = use_at xs bs r ∷ uses_from xs bs (r + 1) n

-- The block that row f opens, whose links end before row u and whose uses end before row e.
unfoldable pub block_from : List ℕ → List Block → ℕ → ℕ → ℕ → Block
block_from xs bs f u e =
    record { joins = cell xs f 2; own = cell xs f 3; links = links_from xs (f + 1) (u - (f + 1)); uses = uses_from xs bs u (e - u) }

-- The numbers of the index: four for each of the most blocks.
abbrev pub index_size : ℕ
index_size = 4 * max_blocks

-- The four numbers of block k. The model counts rows from 1.
pub record IndexedBlock (xs t : List ℕ) (k : ℕ) : Type 0 where
  pub opening : opening_row xs k ≡ get_or t (4 * k) 0 + 1
  pub opens : get_or t (4 * k) 0 < get_or t (4 * k + 1) 0
  pub links : get_or t (4 * k + 1) 0 ≤ get_or t (4 * k + 2) 0
  pub ends : get_or t (4 * k + 2) 0 ≤ row_count xs
  pub block : block_at (blocks_of xs) k ≡ block_from xs (blocks_of xs) (get_or t (4 * k) 0) (get_or t (4 * k + 1) 0) (get_or t (4 * k + 2) 0)
  pub total : get_or t (4 * k + 3) 0 ≡ total (blocks_of xs) k

-- The table of accepted rows.
pub record Indexed (xs t : List ℕ) : Type 0 where
  pub size : length t ≡ index_size
  pub at : (k : ℕ) → k < length (blocks_of xs) → IndexedBlock xs t k
