-- A value at a place. The loop's invariant: what is left of the value behind its first n digits is the value.
use Prim.Native.Nat.{◌<◌}
use native.Mathlib.Omega.{arith}
use borrow.Author.Rules.{rules}
use Rattle.values.proofs.Fields.{digit-small, tens_first, tens_more, tens_few, next-in, more-in, less-in, value_none, value-begin, value-turn, value-long, value-big, value-done}
use Rattle.values.proofs.value_at.Goals as goal

pub returns-in_err-v : goal.returns-in_err-v
returns-in_err-v c = search (value_none, rules)

pub loop-d-init : goal.loop-d-init
loop-d-init c =
    let h : c.in_ok-v.v < 10 = search (digit-small, rules) in
    (search (next-in, rules), search rules, search (tens_first, rules), search (value-begin, rules))

pub returns-then-n-ge-MAX_DIGITS : goal.returns-then-n-ge-MAX_DIGITS
returns-then-n-ge-MAX_DIGITS c = search (value-long, rules)

pub overflow_mul-v : goal.overflow_mul-v
overflow_mul-v c = omega (arith, tens_few c.loop-d.n c.loop-d.v (search rules) (search rules))

pub overflow_add-v : goal.overflow_add-v
overflow_add-v c =
    omega (arith, tens_few c.loop-d.n c.loop-d.v (search rules) (search rules), digit-small _ _ _ c.digit_at-in-loop-d.ensures _ c.in-Some.is)

pub loop-d-smaller : goal.loop-d-smaller
loop-d-smaller c = search (less-in, rules)

pub loop-d-preserved : goal.loop-d-preserved
loop-d-preserved c = (search (more-in, rules), search rules, search (tens_more, digit-small, rules), search (value-turn, rules))

pub returns-then-v-gt-MAX_VALUE : goal.returns-then-v-gt-MAX_VALUE
returns-then-v-gt-MAX_VALUE c = search (value-big, rules)

pub returns : goal.returns
returns c = search (value-done, rules)
