-- The columns from place i on and the labels say which key comes first: those before are the same.
use Rattle.rules.proofs.Tests.{KeyRest}
use Rattle.rules.proofs.is_below.Given as goal

abbrev pub invariant-loop-i : goal.invariant-loop-i
invariant-loop-i l = KeyRest l.x l.y l.a l.b l.i
