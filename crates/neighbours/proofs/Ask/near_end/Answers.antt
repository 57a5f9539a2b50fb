-- `Ask::near_end`: one of the two ends is picked.
use borrow.Author.Rules.{rules}
use Rattle.basics.proofs.Choices.{ifs}
use Rattle.neighbours.specs.Picks.{near_end}
use Rattle.neighbours.proofs.Ask.near_end.Goals as goal

pub returns-then-self : goal.returns-then-self
unfolding near_end
returns-then-self c = search (ifs, rules)

pub returns-else-self : goal.returns-else-self
unfolding near_end
returns-else-self c = search (ifs, rules)
