-- The built-in table before a file's own rows.
use Prim.Native.Nat.{ℕ}
use mathlib.Core.Path.{◌≡◌}
use mathlib.Core.List.{List}
use Rattle.model.specs.Lists.{overwrite}
use Rattle.model.specs.Desk.{built_in_numbers, with_desk}
use Rattle.shows.proofs.DeskTable.{desk_size}
use Rattle.desk.specs.Own.{own_numbers}

-- The table was copied to the beginning, so what stands behind its place stands behind it.
pub table-put : (table now after : List ℕ) → table ≡ built_in_numbers → after ≡ overwrite table now → after ≡ with_desk (own_numbers now)
unfolding overwrite with_desk own_numbers
table-put table now after t e = rw (e, t, desk_size)
