-- The text of a small file, said of its bytes: a line of names, then lines of values. Document 02, Paper 5: "Commas and line feeds stand as in a show
-- file, here and in later files." No file has a limit of length here: "Refusals 1 to 3 are for show files only."
use Rattle.std.specs.Prelude.{ℕ, suc, ◌+◌, ◌≤◌, ◌<◌, ◌≡◌, List, [], ◌∷◌, ◌++◌, length}
use Rattle.shows.specs.Files.{SpellsLine}

-- Lines of values, each with these bytes behind its values; the values are kept line by line.
pub data SpellsTable (ends : List ℕ) : List ℕ → List (List ℕ) → Type 0 where
  no_line : SpellsTable ends [] []
  line_then_lem : {l t vs : List ℕ} {vss : List (List ℕ)} → SpellsLine ends l vs → SpellsTable ends t vss → SpellsTable ends (l ++ t) (vs ∷ vss)

-- File f has these names, and its lines say these values.
pub record SpellsSmall (names ends f : List ℕ) (vss : List (List ℕ)) : Type 0 where
  pub lines : List ℕ
  pub text : f ≡ names ++ lines
  pub values : SpellsTable ends lines vss

-- "the first malformed line (line 1 for wrong names)": the text behind some lines of values goes on, and begins with no such line.
pub data BreaksAt (names ends f : List ℕ) : ℕ → Type 0 where
  wrong_names : ((lines : List ℕ) → f ≡ names ++ lines → ⊥) → BreaksAt names ends f 1
  wrong_line : {before broken : List ℕ} {vss : List (List ℕ)} → SpellsTable ends before vss → f ≡ names ++ (before ++ broken)
      → 1 ≤ length broken → ((l vs t : List ℕ) → SpellsLine ends l vs → broken ≡ l ++ t → ⊥) → BreaksAt names ends f (length vss + 2)

-- Line n of the file, counted from 1 at the names, is one of its lines of values, and has the values vs.
pub data LineIs : List (List ℕ) → ℕ → List ℕ → Type 0 where
  this : {vs : List ℕ} {vss : List (List ℕ)} → LineIs (vs ∷ vss) 2 vs
  next : {vs ws : List ℕ} {vss : List (List ℕ)} {n : ℕ} → LineIs vss n ws → LineIs (vs ∷ vss) (suc n) ws

-- n is the first line that is bad.
pub record FirstOf (Bad : ℕ → Type 0) (n : ℕ) : Type 0 where
  pub bad : Bad n
  pub before : (m : ℕ) → m < n → Bad m → ⊥
