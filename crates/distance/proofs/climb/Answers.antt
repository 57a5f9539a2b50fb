-- `distance::climb` meets its contract. The invariant: whatever place the estimates are of at its own level, they are its at level l.
use Rattle.std.proofs.Common.{rules, arith}
use Rattle.copies.proofs.ByRows.{place-block}
use Rattle.searches.proofs.Telling.{may_settle}
use Rattle.searches.proofs.Ways.{own-within, climbing_begin, climbing_uses, climbing_on, climbing_done}
use Rattle.distance.proofs.climb.Goals as goal

pub from_cue-requires : goal.from_cue-requires
from_cue-requires g c = (search rules, (search (may_settle, place-block, rules), search (own-within, rules)))

pub loop-l-init : goal.loop-l-init
loop-l-init g c = climbing_begin c.requires.table.known c.requires.found

pub keep_joins-requires : goal.keep_joins-requires
keep_joins-requires g c = (search rules, (search rules, (search (place-block, rules), search rules)))

pub rise_one-requires : goal.rise_one-requires
rise_one-requires g c = (search rules, (search rules, (search rules, climbing_uses c.loop-l.invariant (omega arith), search rules)))

pub loop-l-preserved : goal.loop-l-preserved
loop-l-preserved g c = climbing_on c.loop-l.invariant (omega arith) c.rise_one.ensures.0 c.rise_one.ensures.1

pub returns : goal.returns
returns g c =
    climbing_done c.loop-l.invariant (omega arith) c.requires.found c.from_cue.ensures c.wide.ensures.0 c.keep_joins.ensures
