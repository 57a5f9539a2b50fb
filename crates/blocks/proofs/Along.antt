-- Rows that lead along a path.
use Prim.Native.Nat.{ℕ, ◌≤◌}
use native.Mathlib.Omega.{arith}
use mathlib.Core.Path.{◌≡◌}
use mathlib.Core.List.{List}
use lib.ListN.{length, take, length-take}
use lib.Seq.{get_or-take}
use Rattle.blocks.specs.Places.{Along}

-- They lead along its first steps.
pub along-take : {xs t rows path : List ℕ} (l : ℕ) → Along xs t rows path → l ≤ length path → Along xs t rows (take l path)
along-take {xs} {t} {rows} {path} l a h =
    let n : length (take l path) ≡ l = omega (arith, length-take l path) in
    record {
      uses = record { long = omega (arith, a.uses.long); at = λ j i. a.uses.at j (omega arith) };
      steps = λ j i. rw (get_or-take l path j 0 (omega arith)) (a.steps j (omega arith));
    }
