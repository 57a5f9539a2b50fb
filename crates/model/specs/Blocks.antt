-- Blocks, links and uses, and totals. Document 01, "The show file" and "Unfolding".
-- In the field's terms a show is a straight-line hyperedge replacement grammar: a block is a rule, its joins are the external
-- nodes of the rule's right-hand side and its own cues the internal ones, a link is a terminal edge and a use is a nonterminal edge.
-- The last block is the start graph.
use Rattle.std.specs.Prelude.{ℕ, ◌+◌, ◌-◌, true, false, List, [], ◌∷◌, ◌++◌, length, get_or, take, eqb}
use Rattle.model.specs.Choice.{if_eq}
use Rattle.model.specs.Rows.{Row, rows_of}

-- "Kind 1 is a link (a follow-on): label 1 to 255, from cue a to cue b".
pub record Link : Type 0 where
  pub from : ℕ
  pub to : ℕ
  pub label : ℕ

-- "Kind 2 is a use: label is a lower block number than its own. The first columns .. name the cues its joins meet".
pub record Use : Type 0 where
  pub block : ℕ
  pub at : List ℕ

-- "Kind 0 opens a block: label is its joins (0 to 8), a is its own cues (0 to 255)".
pub record Block : Type 0 where
  pub joins : ℕ
  pub own : ℕ
  pub links : List Link
  pub uses : List Use

-- A show is its blocks, the last one first, so that what a block means follows from the blocks behind it in the list.
-- Block k of a list is the one with k blocks behind it.
unfoldable pub no_block : Block
no_block = record { joins = 0; own = 0; links = []; uses = [] }

unfoldable pub block_at : List Block → ℕ → Block
block_at [] k = no_block
block_at (b ∷ earlier) k = elim (eqb k (length earlier)) [ true ↦ b | false ↦ block_at earlier k ]

unfoldable pub joins_of : List Block → ℕ → ℕ
joins_of bs k = (block_at bs k).joins

unfoldable pub own_of : List Block → ℕ → ℕ
own_of bs k = (block_at bs k).own

-- What a row adds: a block, or a link or a use of the current block.
unfoldable pub add_link : Link → List Block → List Block
add_link l [] = []
add_link l (b ∷ bs) = record { joins = b.joins; own = b.own; links = b.links ++ (l ∷ []); uses = b.uses } ∷ bs

unfoldable pub add_use : Use → List Block → List Block
add_use u [] = []
add_use u (b ∷ bs) = record { joins = b.joins; own = b.own; links = b.links; uses = b.uses ++ (u ∷ []) } ∷ bs

unfoldable pub add_row : List Block → Row → List Block
add_row bs w =
    if_eq w.kind 0
    (record { joins = w.label; own = get_or w.columns 0 0; links = []; uses = [] } ∷ bs)
    (if_eq w.kind 1
    (add_link (record { from = get_or w.columns 0 0; to = get_or w.columns 1 0; label = w.label }) bs)
    (add_use (record { block = w.label; at = take (joins_of bs w.label) w.columns }) bs))

unfoldable pub add_rows : List Block → List Row → List Block
add_rows bs [] = bs
add_rows bs (w ∷ ws) = add_rows (add_row bs w) ws

-- The blocks of lent rows.
unfoldable pub blocks_of : List ℕ → List Block
blocks_of xs = add_rows [] (rows_of xs)

-- "Total of a block: own cues plus the totals of its uses, each use counted."
unfoldable pub sum_over : (ℕ → ℕ) → List Use → ℕ
sum_over f [] = 0
sum_over f (u ∷ us) = f u.block + sum_over f us

unfoldable pub total : List Block → ℕ → ℕ
total [] k = 0
total (b ∷ earlier) k =
    elim (eqb k (length earlier)) [ true ↦ b.own + sum_over (total earlier) b.uses | false ↦ total earlier k ]

-- "The last block is the show"; "Count: the total of the show."
unfoldable pub last_block : List Block → ℕ
last_block bs = length bs - 1

unfoldable pub count : List Block → ℕ
count bs = total bs (last_block bs)
