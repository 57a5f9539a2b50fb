-- A row's numbers copied to the beginning of a list.
use Prim.Native.Nat.{ℕ, ◌+◌, ◌≤◌}
use native.Mathlib.Omega.{arith}
use mathlib.Core.Path.{◌≡◌, sym, ◌∙◌}
use mathlib.Core.List.{List, ◌++◌}
use lib.ListN.{length, drop}
use lib.Seq.{sets, sets-eq}
use Rattle.model.specs.Limits.{row_size}

-- xs before, zs the part afterwards.
pub row-set : (row xs zs : List ℕ) → length row ≡ row_size → row_size ≤ length xs → zs ≡ row → zs ++ drop row_size xs ≡ sets xs 0 row
row-set row xs zs n h e =
    let d : 0 + length row ≡ row_size = omega arith in
    rw e (sym (sets-eq row xs 0 (omega arith) ∙ rw d))
