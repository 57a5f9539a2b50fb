-- `levels`: the loop makes one block more each turn.
use Rattle.levels.specs.Tables.{Levels, Fresh}
use Rattle.levels.proofs.levels.Given as goal

abbrev pub invariant-loop-k : goal.invariant-loop-k
invariant-loop-k l = Levels l.show.rows.now l.table.levels l.k × Fresh l.table.levels l.k
