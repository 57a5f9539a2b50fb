-- The byte behind a value, by the value's place.
use borrow.Author.Rules.{rules}
use Rattle.lines.proofs.Ends.{comma-at, feed_at}
use Rattle.lines.proofs.end_of.Goals as goal

pub returns-then-c-n : goal.returns-then-c-n
returns-then-c-n c = search (feed_at, rules)

pub returns : goal.returns
returns c = search (comma-at, rules)
