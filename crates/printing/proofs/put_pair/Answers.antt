-- `printing::put_pair` meets its contract: a value, and the line of the other.
use native.Mathlib.Omega.{arith}
use borrow.Author.Rules.{rules}
use Rattle.printing.proofs.Lines.{ended-fits, ended-room, next-room, puts-values, value-fits}
use Rattle.printing.proofs.put_pair.Goals as goal

pub slice_bounds-put_one-count : goal.slice_bounds-put_one-count
slice_bounds-put_one-count c = ended-room _ _ _ _ _ c.put_ended-at.ensures (search rules)

pub slice_bounds-put_one-start : goal.slice_bounds-put_one-start
slice_bounds-put_one-start c = search (slice_bounds-put_one-count c, rules)

pub put_one-requires : goal.put_one-requires
put_one-requires c = search (next-room, rules)

pub overflow_add-result : goal.overflow_add-result
overflow_add-result c = omega (arith, ended-fits _ _ _ _ _ c.put_ended-at.ensures, value-fits _ _ _ _ c.put_one.ensures)

pub returns : goal.returns
returns c = search (puts-values, rules)
