-- `printed::part` meets its contract.
use native.Mathlib.Omega.{arith}
use borrow.Author.Rules.{rules}
use Rattle.printed.proofs.Parts.{part-here, part-next, part_none, cue-asks}
use Rattle.printed.proofs.part.Goals as goal

pub fill-filled-requires : goal.fill-filled-requires
fill-filled-requires c =
    let few = c.requires.0.few in
    (search rules, omega (arith, few, c.wide.ensures.0))

pub returns-then-place-end : goal.returns-then-place-end
returns-then-place-end c =
    let pre = c.requires in
    part-here _ _ _ pre.0 _ _ _ pre.1 _ c.wide.ensures.0 _ _ _ _ c.fill-filled.ensures
    c.if-place-end.true

pub returns-then-cues-from : goal.returns-then-cues-from
returns-then-cues-from c =
    let pre = c.requires in
    part_none _ _ _ pre.0 _ _ _ pre.1 _ c.wide.ensures.0 _ c.if-place-end.false c.if-cues-from.true

pub mark_cue-requires : goal.mark_cue-requires
mark_cue-requires c =
    let pre = c.requires in
    cue-asks _ _ _ _ pre.0 c.if-cues-from.false

pub fill-filled-requires-2 : goal.fill-filled-requires-2
fill-filled-requires-2 c =
    let few = c.requires.0.few in
    (omega arith, omega (arith, few, c.wide.ensures.0))

pub returns : goal.returns
returns c =
    let pre = c.requires in
    part-next _ _ _ pre.0 _ _ _ pre.1 _ c.wide.ensures.0 _ _ _ _ _
    c.mark_cue.ensures c.fill-filled-2.ensures c.if-place-end.false
    c.if-cues-from.false
