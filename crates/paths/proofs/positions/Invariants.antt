-- `positions`: the rows before level l are positions, the others are as they were.
use Rattle.paths.proofs.Finding.{Turned}
use Rattle.paths.proofs.positions.Given as goal

abbrev pub invariant-loop-l : goal.invariant-loop-l
invariant-loop-l l = Turned l.show.rows.now l.show.index.now l.initial.rows l.depth l.k l.l l.rows
