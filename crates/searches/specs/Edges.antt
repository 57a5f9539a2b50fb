-- The edges of a block, as the model has it: its links, and its uses by the numbers of the work
-- area. And estimates relaxed over them.
use Rattle.std.specs.Prelude.{ℕ, ◌+◌, ◌*◌, ◌≤◌, ◌<◌, ◌≡◌, ◌⊎◌, length, get_or}
use mathlib.Core.List.{List, Memᴰ}
use Rattle.model.specs.Limits.{summary_size, summary_width}
use Rattle.model.specs.Blocks.{Link, Use, Block, block_at, joins_of, own_of}
use Rattle.distances.specs.Walks.{Price}
use Rattle.distances.specs.Tells.{Join, met_by, summary_place, Local}
use Rattle.verdicts.specs.Index.{link_at}
use Rattle.blocks.specs.Loaded.{Loaded, IsBlock, IsRow, column_at}
use Rattle.searches.specs.Rounds.{Edges, One, Runs, Still}
use Rattle.searches.specs.Starts.{Beginnings, Cell, Started}

-- The number in the work area for joins i and j of block k.
abbrev pub numbers : List ℕ → ℕ → ℕ → ℕ → ℕ
numbers work k i j = get_or work (summary_place k i j) 0

-- The edges of each q from a on and before e.
abbrev pub Span : (ℕ → Edges) → ℕ → ℕ → Edges
Span S a e u v w = (q : ℕ) × (a ≤ q) × (q < e) × S q u v w

-- The edges of a use: between the cues that it names, by the numbers of its block.
unfoldable pub UseEdge : List Block → List ℕ → Use → Edges
UseEdge bs work p u v w =
    (i j : ℕ) × Join bs p.block i × Join bs p.block j × One (met_by p i) (met_by p j) (numbers work p.block i j) u v w

-- The same by a row: between the first m cues that row r names, by weights in rows of eight from
-- place q on.
unfoldable pub Mesh : List ℕ → List ℕ → ℕ → ℕ → ℕ → Edges
Mesh xs work r q m u v w =
    (i j : ℕ) × (i < m) × (j < m) × One (column_at xs r i) (column_at xs r j) (get_or work (q + summary_width * i + j) 0) u v w

-- Those between two of these cues, there and back.
unfoldable pub Between : List ℕ → List ℕ → ℕ → ℕ → ℕ → ℕ → Edges
Between xs work r q i j u v w =
    One (column_at xs r i) (column_at xs r j) (get_or work (q + summary_width * i + j) 0) u v w
    ⊎ One (column_at xs r j) (column_at xs r i) (get_or work (q + summary_width * j + i) 0) u v w

-- The edge of a link, if its label has a price. (Those of some links are `Linked price`.)
unfoldable pub LinkEdge : Price → Link → Edges
LinkEdge price l u v w = (l.from ≡ u) × (l.to ≡ v) × price l.label w

-- A label's links weigh w, and nothing else.
pub record Weighs (price : Price) (label w : ℕ) : Type 0 where
  pub is : price label w
  pub only : (v : ℕ) → price label v → v ≡ w

-- Row r is there, and the ends of its link have estimates among the n of a list.
pub record LinkEnds (xs : List ℕ) (r n : ℕ) : Type 0 where
  pub there : IsRow xs r
  pub from : (link_at xs r).from < n
  pub to : (link_at xs r).to < n

-- The edges of some uses.
unfoldable pub UseEdges : List Block → List ℕ → List Use → Edges
UseEdges bs work us u v w = (p : Use) × Memᴰ p us × UseEdge bs work p u v w

-- The edges of block k.
abbrev pub BlockEdge : Price → List Block → List ℕ → ℕ → Edges
BlockEdge price bs work k = Local price (λ m i j w. numbers work m i j ≡ w) bs (block_at bs k)

-- How many cues block k has.
abbrev pub cue_count : List Block → ℕ → ℕ
cue_count bs k = own_of bs k + joins_of bs k

-- Estimates d became e by rounds over W, and no edge of W improves one any more.
pub record SettledOver (W : Edges) (d e : List ℕ) : Type 0 where
  pub runs : Runs W d e
  pub still : Still W e

-- What settling the estimates of block k asks for: a loaded show, and the numbers of the lower blocks in the work area.
pub record MaySettle {A : Type 0} (xs t : List ℕ) (k : ℕ) (work : List A) : Type 0 where
  pub loaded : Loaded xs t
  pub block : IsBlock xs k
  pub room : summary_size * k ≤ length work

-- Estimates begin with 0 at one cue.
abbrev pub Only : ℕ → Beginnings
Only c = Cell c 0

-- Estimates of the cues up to n that began so, settled.
pub record Spread (inf : ℕ) (W : Edges) (n : ℕ) (begun : Beginnings) (e : List ℕ) : Type 0 where
  pub start : List ℕ
  pub begins : Started inf n begun start
  pub settled : SettledOver W start e

-- The same over the edges of block k.
abbrev pub SpreadIn : ℕ → Price → List Block → List ℕ → ℕ → Beginnings → List ℕ → Type 0
SpreadIn inf price bs work k begun e = Spread inf (BlockEdge price bs work k) (cue_count bs k) begun e
