-- `show_c::tell`: the values stand first, and the rest stays.
use borrow.Author.Rules.{rules}
use Rattle.model.specs.Lists.{overwrite}
use Rattle.show_c.proofs.tell.Goals as goal

pub returns : goal.returns
unfolding overwrite
returns c = search rules
