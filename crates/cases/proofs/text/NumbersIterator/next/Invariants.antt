-- Each turn takes a byte at least.
use Rattle.std.proofs.Common.{length}
use Rattle.cases.proofs.text.NumbersIterator.next.Given as goal

abbrev pub decreases-loop-self : goal.decreases-loop-self
decreases-loop-self l = length l.self.text.now
