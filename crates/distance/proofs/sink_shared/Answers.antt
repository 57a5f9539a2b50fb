-- `distance::sink_shared` meets its contract. The invariant: the estimates tell the least in the whole show at level l.
use Rattle.std.proofs.Common.{arith}
use Rattle.searches.proofs.Ways.{sharing_begin, sharing_on}
use Rattle.distance.proofs.sink_shared.Goals as goal

pub loop-l-init : goal.loop-l-init
loop-l-init g c = sharing_begin c.requires.0.table.known c.requires.0.found c.requires.1 c.requires.2

pub loop-l-preserved : goal.loop-l-preserved
loop-l-preserved g c =
    sharing_on c.loop-l.invariant (omega arith) c.enter.ensures c.put_source.ensures c.block_on.ensures.0 c.settle.ensures
