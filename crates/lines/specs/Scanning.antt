-- Reading lines as the code does it: at a place of the text. proofs/ ties it to the lines of crates/model.
use Rattle.std.specs.Prelude.{ℕ, ◌≡◌, Bool, false, List, [], ◌∷◌, ◌++◌, length, take, Option, Some, None}
use Rattle.model.specs.Choice.{if_lt}
use Rattle.model.specs.Verdicts.{same}
use Rattle.values.specs.Fields.{value_at}

-- What stands at a place: values and the place behind them, or no such values.
pub data ValueFound : Type 0 where
  Values : List ℕ → ℕ → ValueFound
  Broken : ValueFound

unfoldable pub behind : List ℕ → ValueFound → ValueFound
behind vs (Values ws next) = Values (vs ++ ws) next
behind vs Broken = Broken

-- A value for each of some ends.
unfoldable pub line_at : List ℕ → List ℕ → ℕ → ValueFound
line_at [] f at = Values [] at
line_at (e ∷ es) f at = elim (value_at f e at) [ Some v ↦ behind (v.0 ∷ []) (line_at es f v.1) | None ↦ Broken ]

-- What a line's reader answers, and leaves in the row.
unfoldable pub LineSays : ValueFound → Option ℕ → List ℕ → Type 0
LineSays (Values vs next) l row = (l ≡ Some next) × (row ≡ vs)
LineSays Broken l row = l ≡ None

-- A text starts with a line of names.
unfoldable pub starts_with : List ℕ → List ℕ → Bool
starts_with names f = if_lt (length f) (length names) false (same (take (length names) f) names)
