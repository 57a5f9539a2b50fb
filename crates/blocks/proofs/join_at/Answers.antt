-- `join_at`: no join before i meets the cue.
use borrow.Author.Rules.{rules}
use Rattle.blocks.proofs.Meeting.{sought_begin, sought_on, join_at_stop, join_at_done}
use Rattle.blocks.proofs.join_at.Goals as goal

pub loop-i-init : goal.loop-i-init
loop-i-init c = search (sought_begin, rules)

pub returns-then-column-c-clause-value : goal.returns-then-column-c-clause-value
returns-then-column-c-clause-value c = search (join_at_stop, rules)

pub loop-i-preserved : goal.loop-i-preserved
loop-i-preserved c = search (sought_on, rules)

pub returns-clause-value : goal.returns-clause-value
returns-clause-value c = search (join_at_done, rules)
