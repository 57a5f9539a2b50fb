-- `distance::put_joins` meets its contract. The invariant: the estimates passed are put in.
use Rattle.searches.specs.Starts.{Merged}
use Rattle.searches.specs.Joins.{JoinsAt}
use Rattle.distance.proofs.put_joins.Given as goal

abbrev pub invariant-loop-i : goal.invariant-loop-i
invariant-loop-i g l = let m = g.N.Number in Merged (JoinsAt 0 (m.values l.e) l.i) (m.values l.initial.d) (m.values l.d)
