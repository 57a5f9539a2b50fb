-- `quickest::sum_block` meets its contract. The invariant: the sums from the joins passed are known.
use Rattle.quickest.specs.Sums.{MaySum, SumsTo}
use Rattle.quickest.proofs.sum_block.Given as goal

abbrev pub invariant-loop-i : goal.invariant-loop-i
invariant-loop-i l = MaySum l.show.rows.now l.show.index.now l.prices.waits.now l.k l.work × SumsTo l.show.rows.now l.prices.waits.now l.k l.i l.work
