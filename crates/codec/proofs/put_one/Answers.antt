-- One digit is stored.
use borrow.Author.Rules.{rules}
use Rattle.codec.specs.Writing.{one}
use Rattle.codec.proofs.DigitStores.{puts_one}
use Rattle.codec.proofs.put_one.Goals as goal

pub bounds-out-0 : goal.bounds-out-0
unfolding one
bounds-out-0 c = search rules

pub returns : goal.returns
returns c = search (puts_one, rules)
