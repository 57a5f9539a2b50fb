-- `distance::put_source` meets its contract.
use Rattle.std.proofs.Common.{rules}
use Rattle.searches.proofs.Joins.{source_inner, source_here}
use Rattle.searches.proofs.Ways.{own_room}
use Rattle.distance.proofs.put_source.Goals as goal

pub put-requires : goal.put-requires
put-requires g c = search (own_room, rules)

pub returns-then-l-from : goal.returns-then-l-from
returns-then-l-from g c = search (source_inner, rules)

pub returns-else-l-from : goal.returns-else-l-from
returns-else-l-from g c = search (source_here, rules)
