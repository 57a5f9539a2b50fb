-- The text of a show file, said of its bytes, and what the laws of files are stated with. Document 01, "The show file".
use Rattle.std.specs.Prelude.{ℕ, zero, suc, ◌≤◌, ◌≡◌, List, [], ◌∷◌, ◌++◌, ◌≢◌, length}
use Rattle.model.specs.Limits.{row_size, max_bytes}
use Rattle.model.specs.Text.{comma, line_feed, names, ends}
use Rattle.basics.specs.Values.{SpellsValue}

-- "eleven values with single commas between", "Every line, the last too, ends in one line feed": the text of a line of values, each of
-- them with the byte behind it.
pub data SpellsLine : List ℕ → List ℕ → List ℕ → Type 0 where
  no_value : SpellsLine [] [] []
  value-then : {e : ℕ} {es t l vs : List ℕ} {v : ℕ} → SpellsValue t v → SpellsLine es l vs → SpellsLine (e ∷ es) (t ++ (e ∷ l)) (v ∷ vs)

-- "Each later line has eleven values": the text of such lines, and their numbers in order.
pub data SpellsLines : List ℕ → List ℕ → Type 0 where
  no_line : SpellsLines [] []
  line_then_lem : {l t vs xs : List ℕ} → SpellsLine ends l vs → SpellsLines t xs → SpellsLines (l ++ t) (vs ++ xs)

-- "A line of names, then lines of values"; "A file has at most 65,536 bytes". File f says the numbers xs.
pub record SpellsFile (f xs : List ℕ) : Type 0 where
  pub lines : List ℕ
  pub text : f ≡ names ++ lines
  pub values : SpellsLines lines xs
  pub short : length f ≤ max_bytes

-- "single commas between", "ends in one line feed": the byte behind each of n values of a line, for every kind of file.
unfoldable pub ends_of : ℕ → List ℕ
ends_of zero = []
ends_of (suc zero) = line_feed ∷ []
ends_of (suc (suc n)) = comma ∷ ends_of (suc n)

-- A byte is no line feed. Bytes that end in their only line feed.
abbrev pub Plain : ℕ → Type 0
Plain b = b ≢ line_feed

pub data OneLine : List ℕ → Type 0 where
  ended : OneLine (line_feed ∷ [])
  longer : {b : ℕ} {l : List ℕ} → Plain b → OneLine l → OneLine (b ∷ l)

-- Numbers that are lists of eleven, laid one behind the other.
pub data Rowed : List ℕ → Type 0 where
  none : Rowed []
  row : (vs xs : List ℕ) → length vs ≡ row_size → Rowed xs → Rowed (vs ++ xs)
