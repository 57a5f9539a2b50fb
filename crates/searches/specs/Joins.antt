-- What estimates begin with at the joins of a block, and rows of kept numbers.
use Rattle.std.specs.Prelude.{ℕ, ◌+◌, ◌*◌, ◌≤◌, ◌<◌, ◌≡◌, ◌⊎◌, List, get_or}
use Rattle.model.specs.Limits.{summary_width}
use Rattle.model.specs.Blocks.{Use, Block, joins_of, own_of}
use Rattle.distances.specs.Tells.{met_by}
use Rattle.searches.specs.Starts.{Beginnings, Cell, EachOf}

-- At m cues from p on, with some numbers.
unfoldable pub JoinsAt : ℕ → List ℕ → ℕ → Beginnings
JoinsAt p e m = EachOf (λ i. Cell (p + i) (get_or e i 0)) m

-- At the joins of a block, with e i at join i.
abbrev pub AtJoins : Block → (ℕ → ℕ) → Beginnings
AtJoins b e a x = (i : ℕ) × (1 ≤ i) × (i ≤ b.joins) × (a ≡ b.own + i) × (x ≡ e i)

-- The estimate that join i of a use's block has from the cue that it meets.
abbrev pub passed : Use → List ℕ → ℕ → ℕ
passed u d i = get_or d (met_by u i) 0

-- Row i of some numbers, eight to a row, has been filled with the m estimates from cue p on.
pub record RowKept (v : List ℕ) (i : ℕ) (d : List ℕ) (p m : ℕ) (e : List ℕ) : Type 0 where
  pub at : (j : ℕ) → j < m → get_or e (summary_width * i + j) 0 ≡ get_or d (p + j) 0
  pub else : (x : ℕ) → (x < summary_width * i) ⊎ (summary_width * i + m ≤ x) → get_or e x 0 ≡ get_or v x 0

-- Row l has the estimates at the joins of block k.
abbrev pub JoinsKept : List Block → ℕ → List ℕ → ℕ → List ℕ → List ℕ → Type 0
JoinsKept bs k v l d e = RowKept v l d (own_of bs k + 1) (joins_of bs k) e
