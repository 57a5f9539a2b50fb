-- The lines of rows are stored row by row. The loop's invariant: what is left of them is the lines of the rows that are left.
use mathlib.Core.Path.{◌∙◌}
use native.Mathlib.Omega.{arith}
use borrow.Author.Rules.{rules}
use Rattle.codec.proofs.RowStores.{lines_fit, lines-room, lines_on, lines-done}
use Rattle.codec.proofs.Stores.{stored-begin}
use Rattle.codec.proofs.put_lines.Goals as goal

pub loop-row-init : goal.loop-row-init
loop-row-init c =
    let e = c.into_iter-row-iterator.ensures.into_iter_gives in
    let made = c.chunks_exact-row-items.ensures in
    record { size = rw e made.size; stored = rw (e, made.rest) (stored-begin _ _ 0) }

pub slice_bounds-put_row-count : goal.slice_bounds-put_row-count
slice_bounds-put_row-count c =
    let s = c.loop-row.invariant in
    let e = c.in-Some.ensures.steps in
    omega (arith, lines_fit _ _ _ _ _ _ s.size s.stored _ _ e.1.0 e.1.1 c.requires)

pub slice_bounds-put_row-start : goal.slice_bounds-put_row-start
slice_bounds-put_row-start c = search (slice_bounds-put_row-count c, rules)

pub put_row-at-requires : goal.put_row-at-requires
put_row-at-requires c =
    let s = c.loop-row.invariant in
    let e = c.in-Some.ensures.steps in
    (e.1.1 ∙ s.size, lines-room _ _ _ _ _ _ s.size s.stored _ _ e.1.0 e.1.1 c.requires)

pub overflow_add-at : goal.overflow_add-at
overflow_add-at c =
    let s = c.loop-row.invariant in
    let e = c.in-Some.ensures.steps in
    omega (arith, lines_fit _ _ _ _ _ _ s.size s.stored _ _ e.1.0 e.1.1 c.requires)

pub loop-row-preserved : goal.loop-row-preserved
loop-row-preserved c =
    let s = c.loop-row.invariant in
    let e = c.in-Some.ensures.steps in
    record {
      size = e.0 ∙ s.size;
      stored = lines_on _ _ _ _ _ _ s.size s.stored _ _ e.1.0 e.1.1 _ _ c.put_row-at.ensures;
    }

pub returns : goal.returns
returns c =
    let s = c.loop-row.invariant in
    lines-done _ _ _ _ _ _ s.size s.stored c.in-None.ensures.steps.1.0
