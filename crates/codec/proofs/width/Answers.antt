-- How many digits a number has: one, and one more for each limit that it reaches.
use borrow.Author.Rules.{rules}
use Rattle.codec.proofs.DigitStores.{width_sum}
use Rattle.codec.proofs.width.Goals as goal

pub returns-clause-value : goal.returns-clause-value
returns-clause-value c = search (width_sum, rules)
