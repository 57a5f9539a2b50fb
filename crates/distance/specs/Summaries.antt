-- The work area as it is filled with summaries.
use Rattle.std.specs.Prelude.{ℕ, suc, ◌+◌, ◌*◌, ◌≤◌, ◌<◌, ◌≡◌, List, length, get_or}
use Rattle.model.specs.Limits.{no_chain, summary_size, summary_width}
use Rattle.model.specs.Blocks.{Block, joins_of, own_of}
use Rattle.model.specs.Summaries.{summary}
use Rattle.distances.specs.Walks.{Price}
use Rattle.distances.specs.Tells.{Join}
use Rattle.searches.specs.Edges.{numbers, Only, SpreadIn}
use Rattle.searches.specs.Joins.{RowKept}
use Rattle.searches.specs.Parts.{part_of, with_part}

-- The rows before i of block k's numbers are its summary; the others say that there is no chain.
pub record RowsFilled (bs : List Block) (k i : ℕ) (v : List ℕ) : Type 0 where
  pub size : length v ≡ summary_size
  pub done : (a j : ℕ) → a < i → j < summary_width → get_or v (summary_width * a + j) 0 ≡ summary bs k (suc a) (suc j)
  pub rest : (a j : ℕ) → i ≤ a → a < summary_width → j < summary_width → get_or v (summary_width * a + j) 0 ≡ no_chain

-- Block k's part of the work area has been filled so far; nothing else has changed.
pub record PartFilled (bs : List Block) (k i : ℕ) (before work : List ℕ) : Type 0 where
  pub part : List ℕ
  pub is : work ≡ with_part before k part
  pub filled : RowsFilled bs k i part

-- The work area has the summaries of the blocks below k.
abbrev pub Below : List Block → ℕ → List ℕ → Type 0
Below bs k work = (m i j : ℕ) → m < k → Join bs m i → Join bs m j → numbers work m i j ≡ summary bs m i j

-- Row i of block k's part of the work area has the estimates from the block's join i + 1; nothing else has changed.
pub record RowFound (inf : ℕ) (price : Price) (bs : List Block) (k i : ℕ) (before work : List ℕ) : Type 0 where
  pub estimates : List ℕ
  pub spread : SpreadIn inf price bs before k (Only (own_of bs k + 1 + i)) estimates
  pub part : List ℕ
  pub row : RowKept (part_of before k) i estimates (own_of bs k + 1) (joins_of bs k) part
  pub size : length part ≡ summary_size
  pub is : work ≡ with_part before k part
