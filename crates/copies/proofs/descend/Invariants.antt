-- `descend`: the loop goes one level down each turn.
use Rattle.copies.specs.Copies.{CopyAt}
use Rattle.copies.proofs.descend.Given as goal

abbrev pub invariant-loop-l : goal.invariant-loop-l
invariant-loop-l l = CopyAt l.show.rows.now l.show.index.now l.rows l.l l.z
