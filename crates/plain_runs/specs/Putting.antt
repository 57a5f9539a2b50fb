-- Rows put into lent numbers one behind the other.
use Rattle.std.specs.Prelude.{ℕ, ◌+◌, ◌≤◌, length}
use mathlib.Core.List.{List, map, flat_map}
use Rattle.model.specs.Lists.{range}
use Rattle.model.specs.Rows.{Row, row_values}
use Rattle.model.specs.Desk.{plain_link}
use Rattle.codec.specs.Writing.{Puts}

-- The links of block k from so many cues, the first of them c, each to the next cue.
unfoldable pub own_links : ℕ → ℕ → ℕ → List Row
own_links k c many = map (λ a. plain_link k a (a + 1)) (range c many)

-- Rows have room.
abbrev pub RowsFit : List Row → List ℕ → Type 0
RowsFit ws xs = length (flat_map row_values ws) ≤ length xs

-- The values of rows are stored from the start on, and they are so many.
abbrev pub PutsRows : List Row → List ℕ → ℕ → List ℕ → Type 0
PutsRows ws xs many after = Puts (flat_map row_values ws) xs 0 many after
