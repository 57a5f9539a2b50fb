-- A value's digits are stored, and the byte behind them.
use native.Mathlib.Omega.{arith}
use borrow.Author.Rules.{rules}
use Rattle.codec.proofs.DigitStores.{value_room, end-room, puts-value}
use Rattle.codec.proofs.Stores.{puts-long}
use Rattle.codec.proofs.put_value.Goals as goal

pub put_digits-at-requires : goal.put_digits-at-requires
put_digits-at-requires c = search (value_room, rules)

pub bounds-out-at : goal.bounds-out-at
bounds-out-at c = search (end-room, rules)

pub overflow_add-result : goal.overflow_add-result
overflow_add-result c =
    omega
    (arith, end-room _ _ _ _ c.put_digits-at.ensures _ c.requires, puts-long c.put_digits-at.ensures)

pub returns : goal.returns
returns c = search (puts-value, rules)
