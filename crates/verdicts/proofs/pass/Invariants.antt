-- `verdicts::pass` meets its contract.
use Rattle.verdicts.specs.Passing.{carried}
use Rattle.verdicts.proofs.Going.{GoingRows}
use Rattle.verdicts.proofs.pass.Given as goal

abbrev pub invariant-loop-r : goal.invariant-loop-r
invariant-loop-r l = GoingRows l.xs l.n l.t (carried l.s) l.r
