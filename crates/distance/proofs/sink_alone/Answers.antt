-- `distance::sink_alone` meets its contract. The invariant: the estimates tell the least at level l too, whatever cue they are about that no copy below the first level has.
use Rattle.std.proofs.Common.{arith}
use Rattle.searches.proofs.Ways.{sinking_begin, sinking_on, sinking_done}
use Rattle.distance.proofs.sink_alone.Goals as goal

pub loop-l-init : goal.loop-l-init
loop-l-init g c = sinking_begin c.requires.0.table.known c.requires.0.found c.requires.1

pub loop-l-preserved : goal.loop-l-preserved
loop-l-preserved g c = sinking_on c.loop-l.invariant (omega arith) c.enter.ensures c.block_on.ensures.0 c.settle.ensures

pub returns : goal.returns
returns g c = sinking_done c.loop-l.invariant (omega arith)
