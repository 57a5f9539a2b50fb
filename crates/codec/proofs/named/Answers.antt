-- The file starts with the line of names.
use borrow.Author.Rules.{rules}
use Rattle.model.specs.Text.{names}
use Rattle.codec.specs.Scanning.{starts_named}
use Rattle.codec.proofs.named.Goals as goal

pub returns : goal.returns
unfolding starts_named names
returns c = search rules
