-- `link_rows`: they follow the opening row.
use borrow.Author.Rules.{rules}
use Rattle.blocks.proofs.Loaded.{block-few, link-rows}
use Rattle.blocks.proofs.Show.link_rows.Goals as goal

pub entry-requires : goal.entry-requires
entry-requires c = search (block-few, rules)

pub entry-requires-2 : goal.entry-requires-2
entry-requires-2 c = search (block-few, rules)

pub returns : goal.returns
returns c = search (link-rows, rules)
