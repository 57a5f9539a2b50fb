-- The text starts with the line of names: the library's test.
use borrow.Author.Rules.{rules}
use Rattle.lines.proofs.Names.{starts_same}
use Rattle.lines.proofs.starts.Goals as goal

pub returns : goal.returns
returns c = search (starts_same, rules)
