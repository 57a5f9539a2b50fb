-- `printing::put_refusal` meets its contract: the title is copied, and the line of the two values goes behind it.
use native.Mathlib.Omega.{arith}
use borrow.Author.Rules.{rules}
use Rattle.model.specs.Verdicts.{refusal}
use Rattle.model.specs.Printed.{refusal_title, refusal_text}
use Rattle.printing.proofs.Lines.{titled, pair_long, pair-fits}
use Rattle.printing.proofs.put_refusal.Goals as goal

pub overflow_add-result : goal.overflow_add-result
overflow_add-result c = omega (arith, pair-fits _ _ _ _ _ c.put_pair.ensures, c.put_bytes-at.ensures.place)

pub returns : goal.returns
unfolding refusal_title refusal_text refusal
returns c =
    titled refusal_title _ _ _ _ _ _ 22 _ c.put_bytes-at.ensures c.put_pair.ensures (pair_long _ _) (search rules) (search rules)
