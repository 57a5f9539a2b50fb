-- `Table::unlinked`: the loop joins one level more each turn.
use Rattle.levels.proofs.Lifting.{NoneYet}
use Rattle.levels.proofs.Table.unlinked.Given as goal

abbrev pub invariant-loop-j : goal.invariant-loop-j
invariant-loop-j l = NoneYet l.self.levels l.at l.j l.all
