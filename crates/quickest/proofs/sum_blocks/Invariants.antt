-- `quickest::sum_blocks` meets its contract. The invariant: the sums between the joins of the blocks passed are known.
use Rattle.quickest.specs.Sums.{SumsTo}
use Rattle.quickest.proofs.sum_blocks.Given as goal

abbrev pub invariant-loop-k : goal.invariant-loop-k
invariant-loop-k l = SumsTo l.show.rows.now l.prices.waits.now l.k 0 l.work
