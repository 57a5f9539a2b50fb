-- `relax::from_cue` meets its contract.
use Rattle.std.proofs.Common.{rules}
use Rattle.searches.proofs.Edges.{cue-there}
use Rattle.relax.proofs.from_cue.Goals as goal

pub put-requires : goal.put-requires
put-requires g c = search (cue-there, rules)
