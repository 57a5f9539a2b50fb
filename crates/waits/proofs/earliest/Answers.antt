-- The first line of a kind.
use borrow.Author.Rules.{rules}
use Rattle.waits.proofs.Turns.{earliest_is}
use Rattle.waits.proofs.earliest.Goals as goal

pub returns : goal.returns
returns c = search (earliest_is, rules)
