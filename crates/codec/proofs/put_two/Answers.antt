-- Two digits are stored, one behind the other.
use borrow.Author.Rules.{rules}
use Rattle.codec.specs.Writing.{two}
use Rattle.codec.proofs.DigitStores.{puts_two}
use Rattle.codec.proofs.put_two.Goals as goal

pub bounds-out-0 : goal.bounds-out-0
unfolding two
bounds-out-0 c = search rules

pub bounds-out-1 : goal.bounds-out-1
unfolding two
bounds-out-1 c = search rules

pub returns : goal.returns
returns c = search (puts_two, rules)
