-- `step`: the copy of the use of a row.
use Rattle.blocks.proofs.Loaded.{used_block}
use Rattle.copies.proofs.Copies.{step_row, step_small, columns_fit, stepped}
use Rattle.copies.proofs.step.Goals as goal

pub used-j-requires : goal.used-j-requires
used-j-requires c = (step_row c.args.show.now.loaded _ _ c.requires).there

pub joins-joins-requires : goal.joins-joins-requires
joins-joins-requires c = used_block _ (step_row c.args.show.now.loaded _ _ c.requires) c.used-j.ensures.0

pub meet-out-requires : goal.meet-out-requires
meet-out-requires c =
    let g = c.args.show.now.loaded in
    let joins = c.joins-joins.ensures in
    let own = c.own-own.ensures.0 in (
      (step_row g _ _ c.requires).there,
      joins.1,
      step_small g _ _ c.requires _ own,
      columns_fit g _ _ c.requires _ _ _ c.used-j.ensures.0 joins.0 own,
    )

pub returns : goal.returns
returns c =
    let g = c.args.show.now.loaded in
    stepped g _ _ c.requires _ _ _ c.used-j.ensures.0 c.joins-joins.ensures.0 c.own-own.ensures.0 _ _ c.inner_base-b.ensures c.meet-out.ensures
