-- The blocks that accepted rows stand for, said of the rows: document 01, "The show file". The unfolding, numbers and lists are demanded of these.
use Rattle.std.specs.Prelude.{ℕ, suc, ◌<◌, ◌≡◌, List, [], ◌∷◌, length, take}
use Rattle.model.specs.Choice.{if_eq}
use Rattle.model.specs.Rows.{Row, row_count, rows_of}
use Rattle.model.specs.Blocks.{Link, Use, Block, block_at}
use Rattle.demands.specs.Acceptance.{nth_row, column, joins_in, own_in}

-- "Kind 1 is a link (a follow-on): label 1 to 255, from cue a to cue b": the links of block k among some rows, in order.
unfoldable pub links_in : ℕ → List Row → List Link
links_in k [] = []
links_in k (w ∷ ws) =
    if_eq w.kind 1
    (if_eq w.block k (record { from = column w 1; to = column w 2; label = w.label } ∷ links_in k ws) (links_in k ws))
    (links_in k ws)

-- "Kind 2 is a use: label is a lower block number than its own. The first columns, as many as that block has joins, name the cues its joins
-- meet": the uses of block k among some rows, in order; J says how many joins a block has.
unfoldable pub uses_in : (ℕ → ℕ) → ℕ → List Row → List Use
uses_in J k [] = []
uses_in J k (w ∷ ws) =
    if_eq w.kind 2
    (if_eq w.block k (record { block = w.label; at = take (J w.label) w.columns } ∷ uses_in J k ws) (uses_in J k ws))
    (uses_in J k ws)

-- Blocks bs, the last first, are those of rows xs: as many as the last row says, which is one of the last block, and each with the joins and the own
-- cues of its opening, its links and its uses.
pub record AreBlocks (xs : List ℕ) (bs : List Block) : Type 0 where
  pub many : length bs ≡ suc (nth_row xs (row_count xs)).block
  pub joins : (k : ℕ) → k < length bs → (block_at bs k).joins ≡ joins_in xs k
  pub own : (k : ℕ) → k < length bs → (block_at bs k).own ≡ own_in xs k
  pub links : (k : ℕ) → k < length bs → (block_at bs k).links ≡ links_in k (rows_of xs)
  pub uses : (k : ℕ) → k < length bs → (block_at bs k).uses ≡ uses_in (joins_in xs) k (rows_of xs)
