-- `relax::relax_use` meets its contract.
use Rattle.std.proofs.Common.{arith}
use Rattle.searches.proofs.Edges.{mesh_loop, mesh_two, mesh_as}
use Rattle.relax.proofs.relax_use.Goals as goal

pub returns-in-0 : goal.returns-in-0
returns-in-0 g c = mesh_loop _ _ _ _ _ _ (omega arith)

pub returns-in-2 : goal.returns-in-2
returns-in-2 g c = mesh_as _ _ _ _ (mesh_two _ _ _ _ c.relax_between.ensures) c.in-2.is
