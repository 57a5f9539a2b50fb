-- `distance::put_kept` meets its contract.
use Rattle.std.proofs.Common.{arith, refl, ◌+◌, ◌*◌}
use Rattle.searches.proofs.Parts.{part_size}
use Rattle.searches.proofs.Starts.{meets-fewer, met_lent}
use Rattle.searches.proofs.Joins.{level-meets, put-kept}
use Rattle.estimates.proofs.Numbers.{lent}
use Rattle.distance.proofs.put_kept.Goals as goal

pub put_met-requires : goal.put_met-requires
put_met-requires g c =
    let meets = level-meets c.args.l c.args.show.now.loaded c.requires.0 c.wide-r.ensures.0 c.used.ensures.0 c.joins-m.ensures.0 c.told-d in
    meets-fewer _ meets (omega arith) refl

pub returns : goal.returns
returns g c =
    let kept = c.args.kept.now in
    let met = rw (lent g.met.N.Number.each _ _ kept, part_size kept (8 * (c.args.l + 1)) c.joins-m.result (omega arith)) at c.put_met.ensures.0 in
    put-kept c.args.l c.requires.0 _ c.wide-r.ensures.0 (g.N.Number.values kept) _ _ c.used.ensures.0 c.joins-m.ensures.0 (met_lent _ _ _ _ _ met)
