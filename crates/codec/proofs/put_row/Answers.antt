-- A row's line is stored value by value. The loop's invariant: what is left of it from the next value on.
use native.Mathlib.Omega.{arith}
use borrow.Author.Rules.{rules}
use Rattle.codec.proofs.RowStores.{row-begin, row_room, row_on, last-room, row-end}
use Rattle.codec.proofs.Spills.{spills-part}
use Rattle.codec.proofs.Stores.{puts-part, part-room}
use Rattle.codec.proofs.put_row.Goals as goal

pub loop-v-init : goal.loop-v-init
loop-v-init c = search (row-begin, rules)

pub put_comma-at-requires : goal.put_comma-at-requires
put_comma-at-requires c = search (part-room, row_room, rules)

pub overflow_add-at : goal.overflow_add-at
overflow_add-at c = omega (arith, row_room _ _ _ _ _ c.requires.0 c.loop-v.invariant c.loop-v-test.true c.requires.1)

pub loop-v-preserved : goal.loop-v-preserved
loop-v-preserved c = search (row_on, spills-part, rules)

pub put_value-requires : goal.put_value-requires
put_value-requires c = search (part-room, last-room, rules)

pub overflow_add-result : goal.overflow_add-result
overflow_add-result c =
    omega
    (arith, last-room _ _ _ _ _ c.requires.0 c.loop-v.invariant c.loop-v.auto.v-index-end c.loop-v-test.false c.requires.1)

pub returns : goal.returns
returns c = search (row-end, puts-part, rules)
