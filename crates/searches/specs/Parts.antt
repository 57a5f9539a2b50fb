-- The work area block by block: 64 numbers each.
use Rattle.std.specs.Prelude.{ℕ, ◌+◌, ◌*◌, List, ◌++◌, take, drop}
use Rattle.model.specs.Limits.{summary_size}

-- Block k's part of the work area, and the work area with other numbers in it.
abbrev pub part_of : List ℕ → ℕ → List ℕ
part_of work k = take summary_size (drop (summary_size * k) work)

abbrev pub with_part : List ℕ → ℕ → List ℕ → List ℕ
with_part work k v = take (summary_size * k) work ++ (v ++ drop (summary_size * k + summary_size) work)
