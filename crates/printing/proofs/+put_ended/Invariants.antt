-- `printing::put_ended` meets its contract: the digits of a tenth and the last one are stored by a call of itself, and the byte behind them.
use Rattle.printing.proofs.+put_ended.Given as goal

-- The measure is the number.
abbrev pub decreases-put_ended : goal.decreases-put_ended
decreases-put_ended l = l.n
