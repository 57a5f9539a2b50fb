-- The numbers at the beginning are those of the other list, and the rest stays.
use borrow.Author.Rules.{rules}
use Rattle.model.specs.Lists.{overwrite}
use Rattle.rows.proofs.copy.Goals as goal

pub returns : goal.returns
unfolding overwrite
returns c = search rules
