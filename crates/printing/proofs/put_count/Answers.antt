-- `printing::put_count` meets its contract: the title is copied, and the line of the count goes behind it.
use native.Mathlib.Omega.{arith}
use borrow.Author.Rules.{rules}
use Rattle.model.specs.Printed.{cues_title}
use Rattle.printing.proofs.Lines.{titled, value-long, value-fits}
use Rattle.printing.proofs.put_count.Goals as goal

pub overflow_add-result : goal.overflow_add-result
overflow_add-result c = omega (arith, value-fits _ _ _ _ c.put_one.ensures, c.put_bytes-at.ensures.place)

pub returns : goal.returns
unfolding cues_title
returns c =
    titled cues_title _ _ _ _ _ _ 11 _ c.put_bytes-at.ensures c.put_one.ensures (value-long _) (search rules) (search rules)
