-- `quickest_with`: both places are found before the work area is written.
use native.Mathlib.Omega.{arith}
use Rattle.answers.proofs.Sums.{sum-found, sum-none}
use Rattle.answers.proofs.Cues.quickest_with.Goals as goal

-- r is the place behind the search, g the one behind the second place.
pub returns-then-sum-lt-NO_SUM : goal.returns-then-sum-lt-NO_SUM
returns-then-sum-lt-NO_SUM c =
    sum-found _ _ _ _ _ _ _ _ _ c.find-from.ensures.0 c.find-to.ensures.0 c.quickest-sum.ensures (omega arith)

pub returns : goal.returns
returns c =
    sum-none _ _ _ _ _ _ _ _ _ c.find-from.ensures.0 c.find-to.ensures.0 c.quickest-sum.ensures (omega arith)
