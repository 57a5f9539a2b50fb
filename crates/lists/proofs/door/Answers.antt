-- `door`: a copy is entered unless the page is full, its cues are too low or none of them is
-- linked.
use borrow.Author.Rules.{rules}
use native.Mathlib.Omega.{arith}
use Rattle.blocks.proofs.Loaded.{used_block}
use Rattle.lists.proofs.Walks.{door_full, door_low, door_apart, door_open, door_clear}
use Rattle.lists.proofs.door.Goals as goal

pub returns-then-question-w : goal.returns-then-question-w
returns-then-question-w c = search (door_full, rules) fits 20000

pub returns-then-y-size : goal.returns-then-y-size
returns-then-y-size c = search (door_low, rules) fits 20000

pub joins-joins-requires : goal.joins-joins-requires
joins-joins-requires c = used_block _ c.requires.0 c.used-j.ensures.0

pub returns-in_err-i : goal.returns-in_err-i
returns-in_err-i c =
    let pre = c.requires in
    let joins = c.joins-joins.ensures in
    rw c.from_residual.ensures (door_apart _ _ _ _ pre.3 c.args.m.now _ _ _ pre.0 c.used-j.ensures.0 joins.0 joins.1 c.in_err-i.ensures.value (omega arith))

pub returns-then-m-j-eq1 : goal.returns-then-m-j-eq1
returns-then-m-j-eq1 c =
    let pre = c.requires in
    let joins = c.joins-joins.ensures in
    door_open _ _ _ _ pre.3 c.args.m.now _ _ _ pre.0 c.used-j.ensures.0 joins.0 joins.1 c.in_ok-i.ensures.value c.in_ok-i.ensures.some

pub returns-else-m-j-eq1 : goal.returns-else-m-j-eq1
returns-else-m-j-eq1 c =
    let pre = c.requires in
    let joins = c.joins-joins.ensures in
    door_clear _ _ _ _ pre.3 _ _ _ _ pre.0 c.used-j.ensures.0 joins.0 joins.1 c.in_ok-i.ensures.value pre.2 c.in_ok-i.ensures.some c.if-m-j-eq1.false
