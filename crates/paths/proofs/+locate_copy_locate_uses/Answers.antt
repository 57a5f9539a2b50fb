-- `locate_copy` and `locate_uses` call each other, and the block number falls from a copy to the next.
use native.Mathlib.Omega.{arith}
use mathlib.Core.Path.{refl, ◌∙◌, ap}
use lib.ListN.{length, length-set}
use Rattle.blocks.proofs.Loaded.{used_block}
use Rattle.paths.proofs.Locating.{copy-here, copy-uses, uses-asks, rest-begin, rest-row, rest-on, rest-here, falls_lower, falls_room, copy-asks, uses-step}
use Rattle.paths.proofs.+locate_copy_locate_uses.Goals as goal

pub locate_copy-own-own-requires : goal.locate_copy-own-own-requires
locate_copy-own-own-requires t c = c.requires.block

pub locate_copy-returns-then-n-own : goal.locate_copy-returns-then-n-own
locate_copy-returns-then-n-own t c = copy-here c.requires _ c.own-own.ensures.0 (omega arith)

pub locate_copy-locate_uses-requires : goal.locate_copy-locate_uses-requires
locate_copy-locate_uses-requires t c =
    (omega (arith, c.decreases), uses-asks c.requires _ c.own-own.ensures.0 _ c.past.ensures c.if-n-own.false)

pub locate_copy-returns : goal.locate_copy-returns
locate_copy-returns t c =
    copy-uses c.requires _ c.own-own.ensures.0 _ c.past.ensures c.if-n-own.false _ _ _ _
    c.locate_uses.ensures

pub locate_uses-use_rows-uses-requires : goal.locate_uses-use_rows-uses-requires
locate_uses-use_rows-uses-requires t c = c.requires.block

pub locate_uses-loop-r-init : goal.locate_uses-loop-r-init
locate_uses-loop-r-init t c = let p = c.requires in (rest-begin c.use_rows-uses.ensures p.low p.high, refl)

pub locate_uses-used-u-requires : goal.locate_uses-used-u-requires
locate_uses-used-u-requires t c = let p = c.requires in (rest-row p.loaded p.block c.loop-r.invariant.0).there

pub locate_uses-total-size-requires : goal.locate_uses-total-size-requires
locate_uses-total-size-requires t c =
    let p = c.requires in
    used_block _ (rest-row p.loaded p.block c.loop-r.invariant.0) c.used-u.ensures.0

pub locate_uses-overflow_cast-rows : goal.locate_uses-overflow_cast-rows
locate_uses-overflow_cast-rows t c =
    let p = c.requires in
    omega (arith, (rest-row p.loaded p.block c.loop-r.invariant.0).few)

pub locate_uses-offset_bounds-rows-depth : goal.locate_uses-offset_bounds-rows-depth
locate_uses-offset_bounds-rows-depth t c = omega (arith, c.requires.short)

pub locate_uses-bounds-rows-depth : goal.locate_uses-bounds-rows-depth
locate_uses-bounds-rows-depth t c =
    let f = rest-here c.requires.loaded c.requires.block c.loop-r.invariant.0 _ _ c.used-u.ensures.0 c.total-size.ensures.0 (omega arith) in
    rw c.loop-r.invariant.1 (falls_room c.requires f)

pub locate_uses-overflow_add-depth : goal.locate_uses-overflow_add-depth
locate_uses-overflow_add-depth t c = omega (arith, c.requires.short)

pub locate_uses-locate_copy-requires : goal.locate_uses-locate_copy-requires
locate_uses-locate_copy-requires t c =
    let f = rest-here c.requires.loaded c.requires.block c.loop-r.invariant.0 _ _ c.used-u.ensures.0 c.total-size.ensures.0 (omega arith) in
    (omega (arith, c.decreases, falls_lower c.requires f), rw c.loop-r.invariant.1 (copy-asks c.requires f _))

pub locate_uses-shape_of-rows-then-rest-size : goal.locate_uses-shape_of-rows-then-rest-size
locate_uses-shape_of-rows-then-rest-size t c =
    c.locate_copy.auto.rows ∙ length-set c.loop-r.rows _ _ ∙ ap length c.loop-r.invariant.1

pub locate_uses-returns-then-rest-size : goal.locate_uses-returns-then-rest-size
locate_uses-returns-then-rest-size t c =
    let f = rest-here c.requires.loaded c.requires.block c.loop-r.invariant.0 _ _ c.used-u.ensures.0 c.total-size.ensures.0 (omega arith) in
    uses-step c.requires f _ _ _ _ _ refl (rw c.loop-r.invariant.1 at c.locate_copy.ensures)

pub locate_uses-past-rest-requires : goal.locate_uses-past-rest-requires
locate_uses-past-rest-requires t c = omega arith

pub locate_uses-loop-r-preserved : goal.locate_uses-loop-r-preserved
locate_uses-loop-r-preserved t c =
    let p = c.requires in
    (rest-on p.loaded p.block c.loop-r.invariant.0 _ _ c.used-u.ensures.0 c.total-size.ensures.0 _ c.past-rest.ensures (omega arith), c.loop-r.invariant.1)
