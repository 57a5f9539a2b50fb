-- `distance::fewest` meets its contract.
use Rattle.std.proofs.Common.{rules}
use Rattle.searches.proofs.Ways.{own_room}
use Rattle.distance.proofs.Counting.{has_table, fewest-is}
use Rattle.distance.proofs.fewest.Goals as goal

pub reach-requires : goal.reach-requires
reach-requires c = (search rules, (search rules, (has_table c.args.show.now.loaded _ c.requires.2, search rules, search rules)))

pub bounds-d-wide : goal.bounds-d-wide
bounds-d-wide c = search (own_room, rules)

pub returns : goal.returns
returns c = rw c.wide.ensures.0 (fewest-is c.args.show.now.loaded c.requires.1 _ _ c.reach.ensures)
