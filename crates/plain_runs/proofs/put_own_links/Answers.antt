-- The links are put one by one. The loop's invariant: what is left of them from cue c on.
use native.Mathlib.Omega.{arith}
use borrow.Author.Rules.{rules}
use Rattle.codec.proofs.Stores.{stored-end}
use Rattle.plain_runs.proofs.Runs.{own-links_begin, links_fit, links-room, own-links_on, links-none, row-fits}
use Rattle.plain_runs.proofs.put_own_links.Goals as goal

pub loop-c-init : goal.loop-c-init
loop-c-init c = search (own-links_begin, rules)

pub slice_bounds-put_link-count : goal.slice_bounds-put_link-count
slice_bounds-put_link-count c = omega (arith, links_fit _ _ _ _ _ c.loop-c.invariant (search rules) c.requires.1)

pub slice_bounds-put_link-start : goal.slice_bounds-put_link-start
slice_bounds-put_link-start c = search (slice_bounds-put_link-count c, rules)

pub put_link-at-requires : goal.put_link-at-requires
put_link-at-requires c = links-room _ _ _ _ _ c.loop-c.invariant (search rules) c.requires.1

pub overflow_add-at : goal.overflow_add-at
overflow_add-at c = omega (arith, links_fit _ _ _ _ _ c.loop-c.invariant (search rules) c.requires.1, row-fits _ _ _ _ _ _ c.put_link-at.ensures)

pub loop-c-preserved : goal.loop-c-preserved
loop-c-preserved c = own-links_on _ _ _ _ _ c.loop-c.invariant (search rules) _ _ c.put_link-at.ensures

pub returns : goal.returns
returns c = search (stored-end, links-none, rules)
