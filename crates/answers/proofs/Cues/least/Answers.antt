-- `least`: both places are found before the work area is written.
use native.Mathlib.Omega.{arith}
use Rattle.answers.proofs.Distances.{search_asks, steps-found, steps-none}
use Rattle.answers.proofs.Cues.least.Goals as goal

-- m is the place behind the summaries, g the one behind the second place.
pub fewest-steps-requires : goal.fewest-steps-requires
fewest-steps-requires c =
    search_asks _ _ _ _ _ _ _ _ c.find-from.ensures.1 c.find-to.ensures.1 c.summarise.ensures

pub returns-then-steps-lt-NO_CHAIN : goal.returns-then-steps-lt-NO_CHAIN
returns-then-steps-lt-NO_CHAIN c =
    steps-found _ _ _ _ _ _ _ _ c.find-from.ensures.0 c.find-to.ensures.0 c.summarise.ensures c.fewest-steps.ensures (omega arith)

pub returns : goal.returns
returns c =
    steps-none _ _ _ _ _ _ _ _ c.find-from.ensures.0 c.find-to.ensures.0 c.summarise.ensures c.fewest-steps.ensures (omega arith)
