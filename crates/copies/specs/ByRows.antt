-- Copies by the rows of uses that lead to them. Level 0 is the show, and row l leads from level l to level l + 1.
use Rattle.std.specs.Prelude.{ℕ, zero, suc, ◌+◌, ◌-◌, List, get_or}
use Rattle.model.specs.Blocks.{blocks_of}
use Rattle.shows.specs.Copies.{Copy, part-copy, show_copy, part_at}
use Rattle.blocks.specs.Loaded.{uses_begin}
use Rattle.blocks.specs.Places.{block_on}

-- Which use of its block the row at level l is, from 1; and the copy at level l.
abbrev pub step_on : List ℕ → List ℕ → List ℕ → ℕ → ℕ
step_on xs t rows l = get_or rows l 0 + 1 - uses_begin t (block_on xs rows l)

unfoldable pub copy_on : List ℕ → List ℕ → List ℕ → ℕ → Copy
copy_on xs t rows zero = show_copy (blocks_of xs)
copy_on xs t rows (suc l) = part-copy (copy_on xs t rows l) (part_at (copy_on xs t rows l) (step_on xs t rows l))
