-- `count`: the total of the last block.
use borrow.Author.Rules.{rules}
use Rattle.blocks.proofs.Loaded.{count-read}
use Rattle.blocks.proofs.Show.count.Goals as goal

pub returns : goal.returns
returns c = search (count-read, rules)
