-- `give_joins`: the loop gives the next cue each turn, and the cue rises.
use borrow.Author.Rules.{rules}
use Rattle.lists.proofs.Joins.{joins-begin, joins-on, joins-done, next-falls}
use Rattle.lists.proofs.give_joins.Goals as goal

pub loop-x-init : goal.loop-x-init
loop-x-init c = search (joins-begin, rules)

pub loop-x-smaller : goal.loop-x-smaller
loop-x-smaller c = next-falls _ _ _ _ _ c.in-Some.ensures (search rules)

pub loop-x-preserved : goal.loop-x-preserved
loop-x-preserved c = joins-on _ _ _ _ _ _ _ _ _ _ _ _ c.loop-x.invariant c.in-Some.ensures c.give-g.ensures

pub returns : goal.returns
returns c = joins-done _ _ _ _ _ _ _ _ _ _ c.loop-x.invariant c.next_join.ensures c.in_default.is
