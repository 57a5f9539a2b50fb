-- A block's rows are put part by part, and each part has the room that the block has.
use native.Mathlib.Omega.{arith}
use borrow.Author.Rules.{rules}
use Rattle.plain_runs.proofs.Runs.{opening-room, own_fit, own_room, out_fit, out_room, in_fit, in_room, run-put, row-fits}
use Rattle.plain_runs.proofs.put_run.Goals as goal

pub put_opening-i-requires : goal.put_opening-i-requires
put_opening-i-requires c = (search rules, search (opening-room, rules))

pub slice_bounds-put_own_links-count : goal.slice_bounds-put_own_links-count
slice_bounds-put_own_links-count c = omega (arith, own_fit _ _ c.requires.1 _ _ c.put_opening-i.ensures)

pub slice_bounds-put_own_links-start : goal.slice_bounds-put_own_links-start
slice_bounds-put_own_links-start c = search (slice_bounds-put_own_links-count c, rules)

pub offset_bounds-numbers-i : goal.offset_bounds-numbers-i
offset_bounds-numbers-i c = omega (arith, own_fit _ _ c.requires.1 _ _ c.put_opening-i.ensures)

pub put_own_links-requires : goal.put_own_links-requires
put_own_links-requires c = (search rules, own_room _ _ c.requires.1 _ _ c.put_opening-i.ensures)

pub overflow_add-j : goal.overflow_add-j
overflow_add-j c = omega (arith, out_fit _ _ c.requires.1 _ _ c.put_opening-i.ensures _ _ c.put_own_links.ensures)

pub slice_bounds-put_link-count : goal.slice_bounds-put_link-count
slice_bounds-put_link-count c = omega (arith, out_fit _ _ c.requires.1 _ _ c.put_opening-i.ensures _ _ c.put_own_links.ensures)

pub slice_bounds-put_link-start : goal.slice_bounds-put_link-start
slice_bounds-put_link-start c = search (slice_bounds-put_link-count c, rules)

pub offset_bounds-numbers-j : goal.offset_bounds-numbers-j
offset_bounds-numbers-j c = omega (arith, out_fit _ _ c.requires.1 _ _ c.put_opening-i.ensures _ _ c.put_own_links.ensures)

pub put_link-requires : goal.put_link-requires
put_link-requires c = out_room _ _ c.requires.1 _ _ c.put_opening-i.ensures _ _ c.put_own_links.ensures

pub overflow_add-l : goal.overflow_add-l
overflow_add-l c = omega (arith, in_fit _ _ c.requires.1 _ _ c.put_opening-i.ensures _ _ c.put_own_links.ensures _ _ _ _ c.put_link.ensures)

pub slice_bounds-put_link-count-2 : goal.slice_bounds-put_link-count-2
slice_bounds-put_link-count-2 c = omega (arith, in_fit _ _ c.requires.1 _ _ c.put_opening-i.ensures _ _ c.put_own_links.ensures _ _ _ _ c.put_link.ensures)

pub slice_bounds-put_link-start-2 : goal.slice_bounds-put_link-start-2
slice_bounds-put_link-start-2 c = search (slice_bounds-put_link-count-2 c, rules)

pub offset_bounds-numbers-l : goal.offset_bounds-numbers-l
offset_bounds-numbers-l c = omega (arith, in_fit _ _ c.requires.1 _ _ c.put_opening-i.ensures _ _ c.put_own_links.ensures _ _ _ _ c.put_link.ensures)

pub put_link-requires-2 : goal.put_link-requires-2
put_link-requires-2 c = in_room _ _ c.requires.1 _ _ c.put_opening-i.ensures _ _ c.put_own_links.ensures _ _ _ _ c.put_link.ensures

pub overflow_add-result : goal.overflow_add-result
overflow_add-result c =
    omega (
      arith,
      in_fit _ _ c.requires.1 _ _ c.put_opening-i.ensures _ _ c.put_own_links.ensures _ _ _ _ c.put_link.ensures,
      row-fits _ _ _ _ _ _ c.put_link-2.ensures,
    )

pub returns : goal.returns
returns c = run-put _ _ c.requires.1 _ _ c.put_opening-i.ensures _ _ c.put_own_links.ensures _ _ _ _ c.put_link.ensures c.put_link-2.ensures
