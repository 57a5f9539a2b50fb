-- `Table::make`: links, then uses.
use Rattle.levels.proofs.Making.{has-pairs, levels-kept, made}
use Rattle.levels.proofs.Table.make.Goals as goal

pub put_links-requires : goal.put_links-requires
put_links-requires c = (c.requires.0, has-pairs _ c.args.show.now.loaded c.requires.0 c.requires.1)

pub lift_uses-requires : goal.lift_uses-requires
lift_uses-requires c = (c.requires.0, levels-kept c.args.show.now.loaded c.requires.1 c.put_links.ensures)

pub returns : goal.returns
returns c =
    let pre = c.requires in
    made _ c.args.show.now.loaded pre.0 c.own.ensures.0 pre.1 pre.2 c.put_links.ensures c.lift_uses.ensures
