-- What the second way of reading asks of a file's own rows, as tests; and where their numbers stand.
use Rattle.std.specs.Prelude.{ℕ, ◌*◌, ◌-◌, Bool, true, false, List, drop}
use Rattle.model.specs.Choice.{if_lt, if_eq}
use Rattle.model.specs.Limits.{row_size, max_rows, desk_rows, desk_blocks}
use Rattle.model.specs.Rows.{Row}

-- A file may have so many rows of its own.
unfoldable pub own_rows_fit : ℕ → Bool
own_rows_fit many = if_lt many 1 false (if_lt (max_rows - desk_rows) many false true)

-- A row opens the first block behind those of the table.
unfoldable pub opens_first : Row → Bool
opens_first w = if_eq w.kind 0 (if_eq w.block desk_blocks true false) false

-- Numbers that have a place for the built-in table at their beginning: those behind it.
unfoldable pub own_numbers : List ℕ → List ℕ
own_numbers ys = drop (desk_rows * row_size) ys
