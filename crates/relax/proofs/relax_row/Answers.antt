-- `relax::relax_row` meets its contract.
use Rattle.std.proofs.Common.{rules, arith, ◌*◌, ◌+◌, ◌/◌, ◌≤◌, length}
use Rattle.searches.proofs.Parts.{chunk_is}
use Rattle.searches.proofs.Edges.{used_room, used_meets, used_round}
use Rattle.estimates.proofs.Numbers.{lent}
use Rattle.relax.proofs.relax_row.Goals as goal

pub bounds-numbers-b : goal.bounds-numbers-b
bounds-numbers-b g c =
    let (k, row, room) = c.requires in
    let fits : 64 * c.used-b.result + 64 ≤ length c.args.work.now = used_room _ _ row c.used-b.ensures.0 room in omega arith

pub relax_use-requires : goal.relax_use-requires
relax_use-requires g c =
    let (k, row, room) = c.requires in (search rules, used_meets c.args.show.now.loaded row c.used-b.ensures.0 c.joins-m.ensures.0 c.told-d)

pub returns : goal.returns
returns g c =
    let (k, row, room) = c.requires in
    let work = c.args.work.now in
    let b = c.used-b.result in
    let fits : 64 * b + 64 ≤ length work = used_room _ _ row c.used-b.ensures.0 room in
    let is = chunk_is 64 (length work / 64) b work c.index-numbers-b.result c.index-numbers-b.is c.as_chunks.ensures.front (omega arith) in
    let round = rw (is, lent g.met.N.Number.each 64 (64 * b) work) at c.relax_use.ensures in
    used_round c.args.show.now.loaded row c.used-b.ensures.0 c.joins-m.ensures.0 _ round
