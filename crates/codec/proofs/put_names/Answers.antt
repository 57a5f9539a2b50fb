-- The line of names is copied.
use borrow.Author.Rules.{rules}
use Rattle.model.specs.Text.{names}
use Rattle.codec.proofs.put_names.Goals as goal

pub returns : goal.returns
unfolding names
returns c = search rules
