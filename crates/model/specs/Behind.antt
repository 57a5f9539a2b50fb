-- The row behind a follow-on. Document 02, Paper 2. In the field's terms: which edge of which rule, at which node of the derivation tree, an edge
-- of the derived graph comes from.
use Rattle.std.specs.Prelude.{ℕ, suc, ◌+◌, Bool, true, false, List, [], ◌∷◌, ◌++◌, map, length, get_or, eqb, ltb}
use Rattle.model.specs.Choice.{if_lt, if_eq, if_true}
use Rattle.model.specs.Rows.{rows_of}
use Rattle.model.specs.Blocks.{Link, Use, Block, blocks_of, last_block, total}
use Rattle.model.specs.Verdicts.{opening_rows}
use Rattle.model.specs.Unfolding.{cue_at, renamed}

-- "the number of one link row, and the depth and path of the copy it stands in": where a link of the unfolded show comes from.
pub record Origin : Type 0 where
  pub path : List ℕ
  pub row : ℕ

-- A link of the unfolded show, with its origin.
pub record Traced : Type 0 where
  pub origin : Origin
  pub link : Link

-- One step more in front of the path.
unfoldable pub step_into : ℕ → Origin → Origin
step_into p o = record { path = p ∷ o.path; row = o.row }

unfoldable pub traced_into : ℕ → Traced → Traced
traced_into p x = record { origin = step_into p x.origin; link = x.link }

-- The links of a copy's own rows, the first of which is row r.
unfoldable pub rows_traced : (ℕ → ℕ) → ℕ → List Link → List Traced
rows_traced number r [] = []
rows_traced number r (l ∷ ls) = record { origin = record { path = []; row = r }; link = renamed number l } ∷ rows_traced number (suc r) ls

-- The links of the copies that stand for some uses, the first of which is the p-th of its block and begins after base.
unfoldable pub uses_traced : (ℕ → ℕ) → (ℕ → ℕ → List ℕ → List Traced) → (ℕ → ℕ) → ℕ → ℕ → List Use → List Traced
uses_traced size below number p base [] = []
uses_traced size below number p base (u ∷ us) =
    map (traced_into p) (below u.block base (map number u.at)) ++ uses_traced size below number (suc p) (base + size u.block) us

-- The links of a copy of block k whose own cues follow base and whose joins meet met, as the unfolding finds them (Unfolding.links), where
-- opening says which row opens a block: "A block's rows are its opening, its links, its uses." (01)
unfoldable pub traced : (ℕ → ℕ) → List Block → ℕ → ℕ → List ℕ → List Traced
traced opening [] k base met = []
traced opening (b ∷ earlier) k base met =
    elim (eqb k (length earlier)) [
      | true ↦ rows_traced (cue_at b.own base met) (suc (opening k)) b.links
          ++ uses_traced (total earlier) (traced opening earlier) (cue_at b.own base met) 1 (base + b.own) b.uses
      | false ↦ traced opening earlier k base met
    ]

-- The number of the row that opens block k.
unfoldable pub opening_row : List ℕ → ℕ → ℕ
opening_row xs k = get_or (opening_rows 1 (rows_of xs)) k 0

-- The links of the unfolded show, each with its origin.
unfoldable pub show_traced : List ℕ → List Traced
show_traced xs = traced (opening_row xs) (blocks_of xs) (last_block (blocks_of xs)) 0 []

-- The origins of the links from s to t.
unfoldable pub origins : ℕ → ℕ → List Traced → List Origin
origins s t [] = []
origins s t (x ∷ xs) =
    if_eq x.link.from s (if_eq x.link.to t (x.origin ∷ origins s t xs) (origins s t xs)) (origins s t xs)

-- "Where several links join s to t, the shortest path wins."
unfoldable pub depth_wins : ℕ → ℕ → Bool
depth_wins a b = ltb a b

-- "Among equal lengths, the path that is smaller at the first differing step wins, then the smaller row."
unfoldable pub steps_win : List ℕ → List ℕ → Bool → Bool
steps_win [] way rest = rest
steps_win (p ∷ path) [] rest = rest
steps_win (p ∷ path) (q ∷ way) rest = if_lt p q true (if_lt q p false (steps_win path way rest))

unfoldable pub better : Origin → Origin → Bool
better x y =
    if_true (depth_wins (length x.path) (length y.path)) true
    (if_true (depth_wins (length y.path) (length x.path)) false
    (steps_win x.path y.path (ltb x.row y.row)))

-- The best of some origins, if there is one.
pub data Behind : Type 0 where
  Stands : Origin → Behind
  Missing : Behind

unfoldable pub winner : Behind → Behind → Behind
winner Missing y = y
winner (Stands x) Missing = Stands x
winner (Stands x) (Stands y) = if_true (better y x) (Stands y) (Stands x)

unfoldable pub best : List Origin → Behind
best [] = Missing
best (x ∷ xs) = winner (Stands x) (best xs)

-- The row behind the follow-on from s to t.
unfoldable pub behind : List ℕ → ℕ → ℕ → Behind
behind xs s t = best (origins s t (show_traced xs))
