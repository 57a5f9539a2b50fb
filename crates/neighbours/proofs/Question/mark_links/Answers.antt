-- `Question::mark_links`: the loop marks by one row more each turn.
use borrow.Author.Rules.{rules}
use Rattle.neighbours.proofs.Marks.{links-begin, links-on, links-done}
use Rattle.neighbours.proofs.Question.mark_links.Goals as goal

pub loop-r-init : goal.loop-r-init
loop-r-init c = search (links-begin, rules)

pub loop-r-preserved : goal.loop-r-preserved
loop-r-preserved c = search (links-on, rules)

pub returns : goal.returns
returns c = search (links-done, rules)
