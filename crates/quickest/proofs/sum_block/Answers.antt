-- `quickest::sum_block` meets its contract. The invariant: the sums from the joins passed are known.
use Rattle.std.proofs.Common.{rules, arith}
use Rattle.quickest.proofs.Sums.{part-fits, sum-settles, sums_next, sums-done}
use Rattle.quickest.proofs.sum_block.Goals as goal

pub row_from-requires : goal.row_from-requires
row_from-requires c = (search rules, (search (sum-settles, rules), search rules, search (part-fits, rules)))

pub loop-i-preserved : goal.loop-i-preserved
loop-i-preserved c = (search rules, sums_next c.loop-i.invariant.0 c.loop-i.invariant.1 (omega arith) c.row_from.ensures)

pub returns : goal.returns
returns c = search (sums-done, rules)
