-- `distance::common` meets its contract. The invariant: the rows passed are the same.
use Rattle.std.proofs.Common.{rules}
use Rattle.searches.proofs.Joins.{same-begin, same-on, common_all, common_differ}
use Rattle.distance.proofs.common.Goals as goal

pub loop-i-init : goal.loop-i-init
loop-i-init c = search (same-begin, rules)

pub returns-then-a-i : goal.returns-then-a-i
returns-then-a-i c = search (common_differ, rules)

pub loop-i-preserved : goal.loop-i-preserved
loop-i-preserved c = search (same-on, rules)

pub returns : goal.returns
returns c = search (common_all, rules)
