-- `walk`: each turn ends in the copy or goes on into a part of it, of a lower block.
use mathlib.Core.Path.{refl, ◌∙◌}
use lib.ListN.{length-set}
use Rattle.behind.proofs.Walking.{lead-few, found_some, ends-without, ends-at, may_follow_lem, room-left, lower, may_walk, goes_on_is}
use Rattle.behind.proofs.walk.Goals as goal

pub loop-lead-init : goal.loop-lead-init
loop-lead-init c = (refl, c.requires, λ s v r. r)

pub onward-requires : goal.onward-requires
onward-requires c =
    (lead-few _ _ c.args.show.now.loaded c.loop-lead.invariant.1.lead.block c.best_use.ensures, found_some _ _ c.own_row-own.ensures)

pub returns-in_err-own : goal.returns-in_err-own
returns-in_err-own c =
    let inv = c.loop-lead.invariant in
    λ s v r. rw c.from_residual.ensures
    (ends-without c.args.show.now.loaded _ inv.1.lead c.link_rows.ensures _ c.best_use.ensures _ c.own_row-own.ensures c.in_default.ensures (inv.2 s v r) c.in_err-own.was)

pub returns-in_default : goal.returns-in_default
returns-in_default c =
    let inv = c.loop-lead.invariant in
    λ s v r. ends-at c.args.show.now.loaded _ inv.1.lead c.link_rows.ensures _ c.best_use.ensures _ c.own_row-own.ensures c.in_default.ensures (inv.2 s v r) _ c.in_ok-own.was inv.1.short

pub bounds-rows-d : goal.bounds-rows-d
bounds-rows-d c =
    let inv = c.loop-lead.invariant in
    room-left c.args.show.now.loaded _ inv.1.lead c.link_rows.ensures _ c.best_use.ensures _ c.own_row-own.ensures _ c.in-Some.ensures.0 c.in-Some.ensures.1 inv.1

pub follow-c-requires : goal.follow-c-requires
follow-c-requires c =
    let inv = c.loop-lead.invariant in
    may_follow_lem c.args.show.now.loaded _ inv.1.lead c.link_rows.ensures _ c.best_use.ensures _ c.own_row-own.ensures _ c.in-Some.ensures.0 c.in-Some.ensures.1

pub loop-lead-smaller : goal.loop-lead-smaller
loop-lead-smaller c =
    let inv = c.loop-lead.invariant in
    lower c.args.show.now.loaded _ inv.1.lead c.link_rows.ensures _ c.best_use.ensures _ c.own_row-own.ensures _ c.in-Some.ensures.0 c.in-Some.ensures.1 _ c.follow-c.ensures

pub loop-lead-preserved : goal.loop-lead-preserved
loop-lead-preserved c =
    let inv = c.loop-lead.invariant in
    let on = c.in-Some.ensures in (
      length-set c.loop-lead.rows _ _ ∙ inv.0,
      may_walk c.args.show.now.loaded _ inv.1.lead c.link_rows.ensures _ c.best_use.ensures _ c.own_row-own.ensures _ on.0 on.1 _ c.follow-c.ensures _ inv.1,
      λ s v r. goes_on_is c.args.show.now.loaded _ inv.1.lead c.link_rows.ensures _ c.best_use.ensures _ c.own_row-own.ensures _ on.0 on.1 _ c.follow-c.ensures _ (room-left c.args.show.now.loaded _ inv.1.lead c.link_rows.ensures _ c.best_use.ensures _ c.own_row-own.ensures _ on.0 on.1 inv.1) refl (inv.2 s v r),
    )
