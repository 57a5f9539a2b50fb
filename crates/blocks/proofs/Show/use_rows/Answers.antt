-- `use_rows`: they follow the links.
use borrow.Author.Rules.{rules}
use Rattle.blocks.proofs.Loaded.{block-few, use_rows}
use Rattle.blocks.proofs.Show.use_rows.Goals as goal

pub entry-requires : goal.entry-requires
entry-requires c = search (block-few, rules)

pub entry-requires-2 : goal.entry-requires-2
entry-requires-2 c = search (block-few, rules)

pub returns : goal.returns
returns c = search (use_rows, rules)
