-- All columns are read. The loop's invariant: what is left to test, if all so far are 0.
use Rattle.rules.proofs.Tests.{ZeroRest}
use Rattle.rules.proofs.every_zero.Given as goal

abbrev pub invariant-loop-i : goal.invariant-loop-i
invariant-loop-i l = ZeroRest l.columns l.many l.i l.all
