-- `printing::put_ended` meets its contract: the digits of a tenth and the last one are stored by a call of itself, and the byte behind them.
use native.Mathlib.Omega.{arith}
use borrow.Author.Rules.{rules}
use Rattle.printing.proofs.Lines.{puts_one, last-room, puts-last}
use Rattle.printing.proofs.+put_ended.Goals as goal

pub returns-then-n-lt10 : goal.returns-then-n-lt10
returns-then-n-lt10 t c = search (puts_one, rules)

pub bounds-out-at : goal.bounds-out-at
bounds-out-at t c = last-room _ _ c.args.end c.digit-last.ensures c.if-n-lt10.false (search rules) _ _ _ c.put_ended-at.ensures c.requires

pub overflow_add-result : goal.overflow_add-result
overflow_add-result t c = omega (arith, bounds-out-at t c)

pub returns : goal.returns
returns t c = search (puts-last, rules)
