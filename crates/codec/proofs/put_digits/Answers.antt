-- The digits of a number are stored: one or two at a time, by how many there are.
use native.Mathlib.Omega.{arith}
use borrow.Author.Rules.{rules}
use Rattle.codec.specs.Writing.{one, two}
use Rattle.codec.proofs.DigitStores.{three_wide, four_wide, five_wide, one-digit, two_digits, three_digits, four_digits, five_digits, five_parts}
use Rattle.codec.proofs.Stores.{room-same, room-behind, room-part, puts-as, puts-then}
use Rattle.codec.proofs.put_digits.Goals as goal

pub put_one-requires : goal.put_one-requires
put_one-requires c = search (room-same, one-digit, rules)

pub returns-then-v-lt10 : goal.returns-then-v-lt10
returns-then-v-lt10 c = search (puts-as, one-digit, rules)

pub put_two-requires : goal.put_two-requires
put_two-requires c = search (room-same, two_digits, rules)

pub returns-then-v-lt100 : goal.returns-then-v-lt100
returns-then-v-lt100 c = search (puts-as, two_digits, rules)

pub put_one-i-requires : goal.put_one-i-requires
unfolding one
put_one-i-requires c =
    omega
    (arith, three_wide _ c.if-v-lt10.false c.if-v-lt100.false c.if-v-lt1000.true)

pub slice_bounds-put_two-count : goal.slice_bounds-put_two-count
slice_bounds-put_two-count c = search (room-behind, three_digits, rules)

pub slice_bounds-put_two-start : goal.slice_bounds-put_two-start
slice_bounds-put_two-start c = search (room-behind, three_digits, rules)

pub put_two-requires-then-v-lt1000 : goal.put_two-requires-then-v-lt1000
put_two-requires-then-v-lt1000 c = search (room-part, three_digits, rules)

pub overflow_add-result : goal.overflow_add-result
unfolding one two
overflow_add-result c = omega arith

pub returns-then-v-lt1000 : goal.returns-then-v-lt1000
returns-then-v-lt1000 c = search (puts-as, puts-then, three_digits, rules)

pub put_two-i-requires : goal.put_two-i-requires
unfolding two
put_two-i-requires c =
    omega (
      arith,
      four_wide _ c.if-v-lt10.false c.if-v-lt100.false c.if-v-lt1000.false
          c.if-v-lt10000.true,
    )

pub slice_bounds-put_two-count-then-v-lt10000 : goal.slice_bounds-put_two-count-then-v-lt10000
slice_bounds-put_two-count-then-v-lt10000 c = search (room-behind, four_digits, rules)

pub slice_bounds-put_two-start-then-v-lt10000 : goal.slice_bounds-put_two-start-then-v-lt10000
slice_bounds-put_two-start-then-v-lt10000 c = search (room-behind, four_digits, rules)

pub put_two-requires-then-v-lt10000 : goal.put_two-requires-then-v-lt10000
put_two-requires-then-v-lt10000 c = search (room-part, four_digits, rules)

pub overflow_add-result-then-v-lt10000 : goal.overflow_add-result-then-v-lt10000
unfolding two
overflow_add-result-then-v-lt10000 c = omega arith

pub returns-then-v-lt10000 : goal.returns-then-v-lt10000
returns-then-v-lt10000 c = search (puts-as, puts-then, four_digits, rules)

pub put_one-i-requires-2 : goal.put_one-i-requires-2
unfolding one
put_one-i-requires-2 c =
    omega (
      arith,
      five_wide _ c.if-v-lt10.false c.if-v-lt100.false c.if-v-lt1000.false
          c.if-v-lt10000.false,
    )

pub slice_bounds-put_two-count-2 : goal.slice_bounds-put_two-count-2
slice_bounds-put_two-count-2 c = search (room-behind, five_parts, rules)

pub slice_bounds-put_two-start-2 : goal.slice_bounds-put_two-start-2
slice_bounds-put_two-start-2 c = search (room-behind, five_parts, rules)

pub put_two-requires-2 : goal.put_two-requires-2
unfolding two
put_two-requires-2 c =
    omega (
      arith,
      room-part _ _ _ _ _ _
          (five_parts _ c.if-v-lt10.false c.if-v-lt100.false c.if-v-lt1000.false c.if-v-lt10000.false)
          c.requires
          c.put_one-i-2.ensures,
    )

pub overflow_add-j : goal.overflow_add-j
unfolding one two
overflow_add-j c = omega arith

pub slice_bounds-put_two-count-3 : goal.slice_bounds-put_two-count-3
slice_bounds-put_two-count-3 c =
    room-behind _ _ _ _ _ _
    (five_digits _ c.if-v-lt10.false c.if-v-lt100.false c.if-v-lt1000.false c.if-v-lt10000.false)
    c.requires
    (puts-then c.put_one-i-2.ensures c.put_two-2.ensures)

pub slice_bounds-put_two-start-3 : goal.slice_bounds-put_two-start-3
slice_bounds-put_two-start-3 c = search (slice_bounds-put_two-count-3 c, rules)

pub put_two-requires-3 : goal.put_two-requires-3
put_two-requires-3 c = search (room-part, puts-then, five_digits, rules)

pub overflow_add-result-2 : goal.overflow_add-result-2
unfolding one two
overflow_add-result-2 c = omega arith

pub returns : goal.returns
returns c = search (puts-as, puts-then, five_digits, rules)
