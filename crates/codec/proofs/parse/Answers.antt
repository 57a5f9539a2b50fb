-- A file is read: too long, or not named, or line by line.
use mathlib.Core.Path.{sym, ◌∙◌}
use borrow.Author.Rules.{rules}
use Rattle.codec.proofs.Sofar.{long-refused, unnamed_refused}
use Rattle.codec.proofs.parse.Goals as goal

pub returns-then-file-gt-MAX_BYTES : goal.returns-then-file-gt-MAX_BYTES
returns-then-file-gt-MAX_BYTES c = search (long-refused, rules)

pub read_lines-requires : goal.read_lines-requires
read_lines-requires c = (search rules, sym c.named.ensures ∙ c.if-named.true)

pub returns : goal.returns
returns c = search (unnamed_refused, rules)
