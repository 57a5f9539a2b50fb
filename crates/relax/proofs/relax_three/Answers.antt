-- `relax::relax_three` meets its contract.
use Rattle.std.proofs.Common.{refl}
use Rattle.searches.proofs.Edges.{mesh_three}
use Rattle.relax.proofs.relax_three.Goals as goal

pub returns : goal.returns
returns g c = mesh_three _ _ _ _ c.relax_between-a.ensures c.relax_between-b.ensures c.relax_between-c.ensures refl refl
