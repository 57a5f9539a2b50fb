-- `relax::differ` meets its contract. The invariant: unless a difference was found, the estimates passed are the same.
use Rattle.searches.specs.Lines.{Alike}
use Rattle.relax.proofs.differ.Given as goal

abbrev pub invariant-loop-i : goal.invariant-loop-i
invariant-loop-i g l = let m = g.N.Number in Alike l.found (m.values l.a) (m.values l.b) l.i
