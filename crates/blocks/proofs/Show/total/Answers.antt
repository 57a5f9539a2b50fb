-- `total`: the index has it.
use borrow.Author.Rules.{rules}
use Rattle.blocks.proofs.Loaded.{block-few, total-read}
use Rattle.blocks.proofs.Show.total.Goals as goal

pub entry-requires : goal.entry-requires
entry-requires c = search (block-few, rules)

pub returns : goal.returns
returns c = total-read c.args.self.now.loaded _ c.requires _ c.entry.ensures
