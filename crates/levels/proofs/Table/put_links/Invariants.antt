-- `Table::put_links`: the loop puts in one link more each turn.
use Rattle.levels.specs.Tables.{Going, links_put}
use Rattle.levels.proofs.Lifting.{links_left}
use Rattle.levels.proofs.Table.put_links.Given as goal

abbrev pub invariant-loop-r : goal.invariant-loop-r
invariant-loop-r l =
    Going l.at.block l.at.own (links_left l.show.rows.now l.r l.r-end) (links_put l.show.rows.now l.at.block) l.initial.self.levels l.self.levels
