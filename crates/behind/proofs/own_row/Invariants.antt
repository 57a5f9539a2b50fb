-- `own_row`: the answer from row r on is the answer.
use mathlib.Core.Path.{◌≡◌}
use Rattle.behind.proofs.Seeing.{row_from}
use Rattle.behind.proofs.own_row.Given as goal

abbrev pub invariant-loop-r : goal.invariant-loop-r
invariant-loop-r l = row_from l.rows l.x l.y l.r l.r-end ≡ row_from l.rows l.x l.y l.initial.r l.r-end
