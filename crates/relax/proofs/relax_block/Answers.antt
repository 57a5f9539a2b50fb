-- `relax::relax_block` meets its contract. The round over the links and that over the uses are one over the block.
use Rattle.std.proofs.Common.{refl}
use Rattle.searches.proofs.Edges.{block-round}
use Rattle.relax.proofs.relax_block.Goals as goal

pub returns : goal.returns
returns g c = block-round _ _ _ _ c.relax_links-a.ensures c.relax_uses_in-c.ensures refl
