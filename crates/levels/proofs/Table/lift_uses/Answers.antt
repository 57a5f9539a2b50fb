-- `Table::lift_uses`: the loop lifts through one use more each turn.
use Rattle.blocks.proofs.Loaded.{use_row}
use Rattle.levels.proofs.Lifting.{may_on, uses-begin, uses-on, uses-done}
use Rattle.levels.proofs.Deep.{may_lift}
use Rattle.levels.proofs.Table.lift_uses.Goals as goal

pub loop-r-init : goal.loop-r-init
loop-r-init c = uses-begin _ c.use_rows-rows.ensures

pub lift_use-requires : goal.lift_use-requires
lift_use-requires c =
    let g = c.args.show.now.loaded in
    let row = use_row g _ c.requires.0 _ c.use_rows-rows.ensures c.loop-r.auto.r c.loop-r-test.true in
    may_on (may_lift g c.requires.1 row) c.loop-r.invariant

pub loop-r-preserved : goal.loop-r-preserved
loop-r-preserved c =
    let g = c.args.show.now.loaded in
    let row = use_row g _ c.requires.0 _ c.use_rows-rows.ensures c.loop-r.auto.r c.loop-r-test.true in
    uses-on _ c.use_rows-rows.ensures _ _ (may_lift g c.requires.1 row) c.loop-r.invariant c.loop-r-test.true c.lift_use.ensures

pub returns : goal.returns
returns c = uses-done _ c.use_rows-rows.ensures _ c.loop-r.invariant c.loop-r-test.false
