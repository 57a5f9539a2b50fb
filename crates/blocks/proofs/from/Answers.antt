-- `from`: a value of the link's row.
use borrow.Author.Rules.{rules}
use Rattle.verdicts.specs.Index.{link_at}
use Rattle.blocks.proofs.from.Goals as goal

pub returns : goal.returns
unfolding link_at
returns c = search rules
