-- The lines of a wait file. The loop's invariant: the pass at the place, and the lengths of what is lent.
use borrow.Author.Rules.{rules}
use Rattle.waits.proofs.Passing.{pass_begin, pass_end, pass_less, pass_broken, pass_on}
use Rattle.waits.proofs.read_lines.Goals as goal

pub loop-at-init : goal.loop-at-init
loop-at-init c = (search rules, search rules, search (pass_begin, rules))

pub returns-in_default : goal.returns-in_default
returns-in_default c = search (pass_broken, rules)

pub loop-at-smaller : goal.loop-at-smaller
loop-at-smaller c = search (pass_less, rules)

pub loop-at-preserved : goal.loop-at-preserved
loop-at-preserved c = (search rules, search rules, search (pass_on, rules))

pub returns : goal.returns
returns c = search (pass_end, rules)
