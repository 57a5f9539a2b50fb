-- `printing::fill` meets its contract. The loop's invariant: the lines of the places before the one come to are stored.
use native.Mathlib.Omega.{arith}
use borrow.Author.Rules.{rules}
use Rattle.printing.proofs.Filling.{filling_begin, filling_skip, place_room, line_fits, filling_on, filling_end, filling_full}
use Rattle.printing.proofs.fill.Goals as goal

pub loop-place-init : goal.loop-place-init
loop-place-init c = search (filling_begin, rules)

pub returns-then-out-used-lt-LINE : goal.returns-then-out-used-lt-LINE
returns-then-out-used-lt-LINE c = search (filling_full, rules)

pub put_place-used-requires : goal.put_place-used-requires
put_place-used-requires c = (search rules, search (place_room, rules))

pub overflow_add-used : goal.overflow_add-used
overflow_add-used c =
    omega (
      arith,
      line_fits _ _ _ _ _ _ _ _ c.loop-place.invariant.1 c.loop-place-test.true c.if-m-place-ne1.false c.if-out-used-lt-LINE.false _ _
          c.put_place-used.ensures,
    )

pub loop-place-preserved-then-m-place-ne1 : goal.loop-place-preserved-then-m-place-ne1
loop-place-preserved-then-m-place-ne1 c = (search rules, search (filling_skip, rules))

pub loop-place-preserved : goal.loop-place-preserved
loop-place-preserved c = (search rules, search (filling_on, rules))

pub returns : goal.returns
returns c = search (filling_end, rules)
