-- The row behind a follow-on: from the rows of the uses that lead to its copy to the copy's path.
use Prim.Native.Nat.{ℕ, ◌≤◌, ◌<◌}
use native.Mathlib.Omega.{arith}
use mathlib.Core.Path.{◌≡◌, ◌∙◌}
use mathlib.Core.List.{List}
use lib.ListN.{length, take}
use lib.Seq.{length-take-le, get_or-take, ext_get_or}
use Rattle.std.specs.Prelude.{Ok, Err}
use Rattle.model.specs.Limits.{max_depth}
use Rattle.model.specs.Verdicts.{refusal}
use Rattle.model.specs.Lists.{overwrite}
use Rattle.model.specs.Behind.{behind, Missing}
use Rattle.model.specs.Answers.{of_row, row_at_depth}
use Rattle.model.specs.Questions.{outcome, refuse, answer, row_found}
use Rattle.paths.specs.Locating.{Down, Positions}
use Rattle.behind.specs.Ways.{StandsAt}

-- No row.
pub row-none : (xs : List ℕ) (s v : ℕ) (path : List ℕ) → behind xs s v ≡ Missing
    → outcome (of_row (Err (record { number = 14; place = 0 }))) path ≡ row_found (behind xs s v) path
unfolding of_row row_found refuse refusal
row-none xs s v path e = rw e

-- One row: the uses that lead to it are those of a way down, and their positions the path.
module _ {xs t rows : List ℕ} {s v row depth : ℕ} (z : StandsAt xs t rows s v row depth) where
  pub stands-down : Down xs t rows depth
  stands-down =
      let a = z.leading.along.uses in
      record {
        deep = z.few;
        long = rw z.deep a.long;
        at = λ l h. let j : l < length z.path = omega (arith, z.deep) in record { row = a.at l j; from = z.leading.begin l j };
      }

  stands-path : (after : List ℕ) → Positions xs t rows depth after → take depth after ≡ z.path
  stands-path after p =
      let size : length (take depth after) ≡ depth = length-take-le depth after (omega (arith, p.long, stands-down.long)) in
      ext_get_or 0 (take depth after) z.path (size ∙ z.deep)
      (λ l h. get_or-take depth after l 0 (omega arith) ∙ omega (arith, p.done l (omega arith), z.leading.along.steps l (omega (arith, z.deep))))

  module _ (after : List ℕ) (p : Positions xs t rows depth after) where
    pub path-few : length (take depth after) ≤ max_depth
    path-few = rw (stands-path after p) (omega (arith, z.deep, z.few))

    pub row-stands : (d : ℕ) (path final : List ℕ) → d ≡ depth → final ≡ overwrite (take depth after) path
        → outcome (of_row (Ok (row_at_depth row d))) final ≡ row_found (behind xs s v) path
    unfolding of_row row_found answer
    row-stands d path final e w = rw (z.is, w, e, stands-path after p, z.deep)
