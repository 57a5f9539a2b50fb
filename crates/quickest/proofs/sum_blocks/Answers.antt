-- `quickest::sum_blocks` meets its contract. The invariant: the sums between the joins of the blocks passed are known.
use Rattle.std.proofs.Common.{rules, arith}
use Rattle.quickest.proofs.Sums.{sums-begin, sums-all}
use Rattle.quickest.proofs.sum_blocks.Goals as goal

pub loop-k-init : goal.loop-k-init
loop-k-init c = search (sums-begin, rules)

pub returns : goal.returns
returns c = sums-all c.args.show.now.loaded c.args.prices.now.right c.loop-k.k c.loop-k.invariant c.last-k-end.ensures.0 (omega arith) (search rules)
