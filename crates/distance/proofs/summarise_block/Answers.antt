-- `distance::summarise_block` meets its contract. The invariant: the rows passed are filled, and the summaries of the lower blocks stay.
use Rattle.std.proofs.Common.{rules, arith, refl}
use Rattle.distance.proofs.Summaries.{join_filled}
use Rattle.distance.proofs.Area.{part-begin, part-rows, filled-part_on, part-done, below-begin, below_on}
use Rattle.distance.proofs.summarise_block.Goals as goal

pub loop-i-init : goal.loop-i-init
loop-i-init c = let v = c.fill.ensures.after (λ y e. e) in (search rules, search (below-begin, rules), part-begin _ _ _ _ (search rules) v)

pub row_from-requires : goal.row_from-requires
row_from-requires c = (
  search rules,
  (record { loaded = c.args.show.now.loaded; block = c.requires.0; room = omega arith }, search rules, search rules),
)

pub loop-i-preserved : goal.loop-i-preserved
loop-i-preserved c =
    let (long, below, part) = c.loop-i.invariant in
    let row = join_filled c.args.show.now.loaded c.requires.0 (part-rows part long) below (omega arith) (omega arith) c.row_from.ensures c.type_inv.work in
    (search rules, below_on c.args.show.now.loaded c.args.k row refl (omega arith) below, filled-part_on part long row)

pub returns : goal.returns
returns c =
    let v = c.fill.ensures.after (λ y e. e) in
    part-done _ _ _ _ (search rules) v c.loop-i.invariant.2 c.joins-i-end.ensures.0 (omega arith) (omega arith)
