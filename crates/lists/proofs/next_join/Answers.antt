-- `next_join`: x is the least one of the joins so far.
use borrow.Author.Rules.{rules}
use Rattle.lists.proofs.Joins.{next-begin, next-on, next-done}
use Rattle.lists.proofs.next_join.Goals as goal

pub loop-j-init : goal.loop-j-init
loop-j-init c = search (next-begin, rules)

pub loop-j-preserved : goal.loop-j-preserved
loop-j-preserved c = search (next-on, rules) fits 20000

pub returns : goal.returns
returns c = search (next-done, rules)
