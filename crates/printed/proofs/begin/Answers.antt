-- `printed::begin` meets its contract.
use borrow.Author.Rules.{rules}
use Rattle.std.specs.Prelude.{◌≡◌}
use Rattle.std.proofs.Common.{ap}
use Rattle.loading.proofs.Outcomes.{rows-room}
use Rattle.printed.proofs.Reading.{rows-loaded, refused-begun, count-begun, links-begun}
use Rattle.printed.proofs.begin.Goals as goal

pub slice_bounds-show-end : goal.slice_bounds-show-end
slice_bounds-show-end c = search (rows-room, rules)

pub slice_bounds-show-end-in-Ok : goal.slice_bounds-show-end-in-Ok
slice_bounds-show-end-in-Ok c = search (rows-room, rules)

pub invariant_of-show : goal.invariant_of-show
invariant_of-show c = search (rows-loaded, rules)

pub returns-then-cues-gt-PRINTED_CUES : goal.returns-then-cues-gt-PRINTED_CUES
returns-then-cues-gt-PRINTED_CUES c = search (count-begun, rules)

pub returns-in-Err : goal.returns-in-Err
returns-in-Err c =
    let place : c.refusal.inside.place ≡ c.in-Err.refusal.place = ap (λ r. r.place) c.refusal.view_is in
    search (refused-begun, rules)

pub returns-else-cues-gt-PRINTED_CUES : goal.returns-else-cues-gt-PRINTED_CUES
returns-else-cues-gt-PRINTED_CUES c = search (links-begun, rules)
