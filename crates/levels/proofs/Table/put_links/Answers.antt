-- `Table::put_links`: the loop puts in one link more each turn.
use native.Mathlib.Omega.{arith}
use Rattle.levels.proofs.Lifting.{links-begin, links-on, links-done}
use Rattle.levels.proofs.Table.put_links.Goals as goal

pub loop-r-init : goal.loop-r-init
loop-r-init c = links-begin _ c.link_rows-rows.ensures

pub from-requires : goal.from-requires
from-requires c = omega (arith, c.link_rows-rows.ensures.there, c.loop-r-test.true)

pub put-requires : goal.put-requires
put-requires c = rw c.loop-r.invariant.long c.requires.1

pub loop-r-preserved : goal.loop-r-preserved
loop-r-preserved c =
    links-on _ c.link_rows-rows.ensures _ _ _ _ c.loop-r.invariant c.loop-r-test.true c.from.ensures c.to.ensures c.put.ensures

pub returns : goal.returns
returns c = links-done _ c.link_rows-rows.ensures _ c.loop-r.invariant c.loop-r-test.false
