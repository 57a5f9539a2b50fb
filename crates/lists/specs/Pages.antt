-- A page while it is being filled: what it holds, and how many cues it was given. Once a cue finds
-- no room, the number stays one above the room.
use Rattle.std.specs.Prelude.{ℕ, ◌+◌, ◌≤◌, ◌≡◌, List, [], ◌∷◌, length, set}
use Rattle.model.specs.Choice.{if_lt}
use Rattle.model.specs.Limits.{max_total}
use Rattle.neighbours.specs.declared.Ask.{Ask}

-- The page has the room that may be written, and w says how many cues it was given.
abbrev pub HasRoom : Ask → List ℕ → ℕ → Type 0
HasRoom q page w = (q.room ≤ length page) × (q.room ≤ max_total) × (w ≤ q.room + 1)

pub record Filled : Type 0 where
  pub page : List ℕ
  pub given : ℕ

-- One cue more, and some.
unfoldable pub put : ℕ → Filled → ℕ → Filled
put room s u =
    if_lt s.given room
    (record { page = set s.page s.given u; given = s.given + 1 })
    (record { page = s.page; given = room + 1 })

unfoldable pub puts : ℕ → Filled → List ℕ → Filled
puts room s [] = s
puts room s (u ∷ us) = puts room (put room s u) us

-- A page and its number given, before some cues and after them.
pub record Gives (room : ℕ) (page : List ℕ) (w : ℕ) (us : List ℕ) (after : List ℕ) (g : ℕ) : Type 0 where
  pub is : record { page = after; given = g } ≡ puts room (record { page = page; given = w }) us
  pub long : length after ≡ length page
  pub bound : g ≤ room + 1
