-- `Table::lift_uses`: the loop lifts through one use more each turn.
use Rattle.levels.specs.Tables.{Going, uses_lift}
use Rattle.levels.proofs.Lifting.{uses_left}
use Rattle.levels.proofs.Table.lift_uses.Given as goal

abbrev pub invariant-loop-r : goal.invariant-loop-r
invariant-loop-r l =
    Going l.at.block l.at.own (uses_left l.show.rows.now l.initial.self.levels l.r l.r-end) (uses_lift l.show.rows.now l.initial.self.levels l.at.block)
    l.initial.self.levels l.self.levels
