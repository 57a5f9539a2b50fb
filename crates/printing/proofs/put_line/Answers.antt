-- `printing::put_line` meets its contract: a value, and the line of the other two.
use native.Mathlib.Omega.{arith}
use borrow.Author.Rules.{rules}
use Rattle.printing.proofs.Lines.{ended-fits, ended-room, next-room, puts-values, pair-fits}
use Rattle.printing.proofs.put_line.Goals as goal

pub slice_bounds-put_pair-count : goal.slice_bounds-put_pair-count
slice_bounds-put_pair-count c = ended-room _ _ _ _ _ c.put_ended-at.ensures (search rules)

pub slice_bounds-put_pair-start : goal.slice_bounds-put_pair-start
slice_bounds-put_pair-start c = search (slice_bounds-put_pair-count c, rules)

pub put_pair-requires : goal.put_pair-requires
put_pair-requires c = search (next-room, rules)

pub overflow_add-result : goal.overflow_add-result
overflow_add-result c = omega (arith, ended-fits _ _ _ _ _ c.put_ended-at.ensures, pair-fits _ _ _ _ _ c.put_pair.ensures)

pub returns : goal.returns
returns c = search (puts-values, rules)
