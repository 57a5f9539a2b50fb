-- `answers::list_of`: the cue is tested, and then its place found.
use Rattle.answers.proofs.Linked.{list_no, find_asks, list_done}
use Rattle.answers.proofs.list_of.Goals as goal

pub returns-then-not-known : goal.returns-then-not-known
returns-then-not-known c = list_no _ _ _ _ c.is_cue-known.ensures c.count.ensures _ _ _ c.if-not-known.true

pub find-place-requires : goal.find-place-requires
find-place-requires c =
    find_asks _ _ _ _ c.is_cue-known.ensures c.count.ensures c.if-not-known.false

pub returns : goal.returns
returns c =
    list_done _ _ _ _ c.is_cue-known.ensures c.count.ensures _ _ _ _ _ _ c.if-not-known.false c.find-place.ensures.0 c.list.ensures
