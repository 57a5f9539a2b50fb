-- `distance::reach` meets its contract.
use Rattle.std.proofs.Common.{refl}
use Rattle.searches.proofs.Answering.{answered}
use Rattle.distance.proofs.reach.Goals as goal

pub returns : goal.returns
returns g c =
    let m = g.N.Number in
    answered c.requires.0.known.loaded c.requires.1 c.requires.2 _ c.common-shared.ensures (m.values c.sink_shared.new.d)
    (m.values c.sink_alone.new.d) _ _ refl refl c.sink_shared.ensures c.sink_alone.ensures
