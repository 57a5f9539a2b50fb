-- `own`: a value of the row that opens the block.
use borrow.Author.Rules.{rules}
use Rattle.blocks.proofs.Loaded.{block-few, opening-read, own_read}
use Rattle.blocks.proofs.Show.own.Goals as goal

pub entry-requires : goal.entry-requires
entry-requires c = search (block-few, rules)

pub value-requires : goal.value-requires
value-requires c = search (opening-read, rules)

pub returns : goal.returns
returns c = own_read c.args.self.now.loaded _ c.requires _ _ _ c.entry.ensures c.wide.ensures.0 c.value.ensures
