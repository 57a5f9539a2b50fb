-- `answers::quickest_in`: the room, then the two cues, then the wait file.
use native.Mathlib.Omega.{arith}
use mathlib.Core.Path.{refl, sym}
use Rattle.model.specs.Verdicts.{refusal}
use Rattle.model.specs.Answers.{of_quickest}
use Rattle.model.specs.Questions.{refuse, quickest_in}
use Rattle.shows.proofs.Outcomes.{no_room}
use Rattle.answers.proofs.Outcomes.{no_cues, has-cues}
use Rattle.answers.proofs.quickest_in.Goals as goal

pub returns-then-room-lt-WORK_SIZE : goal.returns-then-room-lt-WORK_SIZE
unfolding of_quickest quickest_in refuse refusal
returns-then-room-lt-WORK_SIZE c = rw c.into.ensures (sym (no_room _ _ _ (omega arith)))

pub returns-in_default : goal.returns-in_default
unfolding of_quickest quickest_in refuse refusal
returns-in_default c =
    rw c.into-in_default.ensures (no_cues _ _ _ (omega arith) _ _ _ _ _ refl refl c.in_default.ensures)

pub returns : goal.returns
unfolding quickest_in
returns c =
    let p = c.in-Some.ensures in
    has-cues _ _ _ (omega arith) _ _ _ _ _ refl refl _ p.3 (rw (p.0, p.1, p.2) at c.quickest_under.ensures)
