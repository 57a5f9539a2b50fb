-- Small files: a line of names, then lines of values, as many as the names say. Document 02, Paper 5: "Commas and line feeds stand as in a show file, here
-- and in later files"; the values are those of `Values`. Nothing here knows how long a file may be: "Refusals 1 to 3 are for show files only."
use Rattle.std.specs.Prelude.{ℕ, suc, List, [], ◌∷◌}
use Rattle.model.specs.Choice.{if_true}
use Rattle.model.specs.Text.{Values, Malformed, values_of, lines_of}
use Rattle.model.specs.Verdicts.{same}

-- What a file says: the values of its lines, or the number of its first malformed line.
pub data Table : Type 0 where
  Lines : List (List ℕ) → Table
  Breaks : ℕ → Table

unfoldable pub line_then : List ℕ → Table → Table
line_then vs (Lines vss) = Lines (vs ∷ vss)
line_then vs (Breaks n) = Breaks n

-- Lines of values, each with these bytes behind its values; n is the number of the first of them.
unfoldable pub table_lines : List ℕ → ℕ → List (List ℕ) → Table
table_lines ends n [] = Lines []
table_lines ends n (l ∷ ls) =
    elim (values_of ends l) [ Values vs ↦ line_then vs (table_lines ends (suc n) ls) | Malformed ↦ Breaks n ]

-- "the first malformed line (line 1 for wrong names)".
unfoldable pub table_all : List ℕ → List ℕ → List (List ℕ) → Table
table_all names ends [] = Breaks 1
table_all names ends (l ∷ ls) = if_true (same l names) (table_lines ends 2 ls) (Breaks 1)

unfoldable pub table_read : List ℕ → List ℕ → List ℕ → Table
table_read names ends f = table_all names ends (lines_of f)
