-- `Table::lift_use`: the loop lifts from one join more each turn.
use native.Mathlib.Omega.{arith}
use mathlib.Core.Path.{◌∙◌, ap}
use Rattle.model.specs.Blocks.{joins_of, blocks_of}
use Rattle.blocks.proofs.Loaded.{used_block}
use Rattle.levels.proofs.Lifting.{may_on, use_begin, use_on, use_done}
use Rattle.levels.proofs.Table.lift_use.Goals as goal

pub used-requires : goal.used-requires
used-requires c = c.requires.row.there

pub joins-joins-requires : goal.joins-joins-requires
joins-joins-requires c = used_block _ c.requires.row c.used.ensures.0

pub loop-i-init : goal.loop-i-init
loop-i-init c = use_begin _ c.requires

pub lift_join-requires : goal.lift_join-requires
lift_join-requires c =
    (may_on c.requires c.loop-i.invariant, c.joins-joins.ensures.0 ∙ ap (joins_of (blocks_of _)) c.used.ensures.0, c.loop-i-test.true)

pub loop-i-preserved : goal.loop-i-preserved
loop-i-preserved c = use_on _ c.requires _ _ c.loop-i.invariant c.lift_join.ensures

pub returns : goal.returns
returns c =
    let joins = c.joins-joins.ensures.0 ∙ ap (joins_of (blocks_of _)) c.used.ensures.0 in
    use_done _ c.requires _ c.loop-i.invariant (omega (arith, joins, c.loop-i-test.false))
