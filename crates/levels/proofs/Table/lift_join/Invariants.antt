-- `Table::lift_join`: the loop lifts one level more each turn, if there is any.
use Rattle.levels.specs.Tables.{Going, join_lift}
use Rattle.levels.proofs.Lifting.{join_rest}
use Rattle.levels.proofs.Table.lift_join.Given as goal

abbrev pub invariant-loop-j : goal.invariant-loop-j
invariant-loop-j l =
    Going l.at.block l.at.own (join_rest l.rows l.initial.self.levels l.r l.i l.j) (join_lift l.rows l.initial.self.levels l.r l.i)
    l.initial.self.levels l.self.levels
