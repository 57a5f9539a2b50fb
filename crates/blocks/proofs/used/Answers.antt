-- `used`: a value of the use's row.
use borrow.Author.Rules.{rules}
use Rattle.verdicts.specs.Index.{use_at}
use Rattle.blocks.proofs.used.Goals as goal

pub returns : goal.returns
unfolding use_at
returns c = search rules
