-- `Question::mark_link`: the link of the row marks its other end if it is picked.
use borrow.Author.Rules.{rules}
use Rattle.neighbours.proofs.Marks.{link-yes, link-other, link-no}
use Rattle.neighbours.proofs.Question.mark_link.Goals as goal

pub returns-then-near_end-y : goal.returns-then-near_end-y
returns-then-near_end-y c = search (link-yes, rules) fits 20000

pub returns-else-near_end-y : goal.returns-else-near_end-y
returns-else-near_end-y c = search (link-other, rules)

pub returns-else-fits : goal.returns-else-fits
returns-else-fits c = search (link-no, rules)
