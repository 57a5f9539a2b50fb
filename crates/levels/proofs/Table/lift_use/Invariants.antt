-- `Table::lift_use`: the loop lifts from one join more each turn.
use Rattle.levels.specs.Tables.{Going, use_lift}
use Rattle.levels.proofs.Lifting.{use_rest}
use Rattle.levels.proofs.Table.lift_use.Given as goal

abbrev pub invariant-loop-i : goal.invariant-loop-i
invariant-loop-i l =
    Going l.at.block l.at.own (use_rest l.show.rows.now l.initial.self.levels l.r l.i) (use_lift l.show.rows.now l.initial.self.levels l.r)
    l.initial.self.levels l.self.levels
