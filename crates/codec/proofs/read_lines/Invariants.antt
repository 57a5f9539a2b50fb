-- The lines of a file, step by step. The loop's invariant: the reader is at the file's place up to which the rows are read.
use Rattle.std.proofs.Common.{◌≡◌, ◌-◌, length}
use Rattle.codec.proofs.Sofar.{Sofar}
use Rattle.codec.proofs.read_lines.Given as goal

abbrev pub invariant-loop-n : goal.invariant-loop-n
invariant-loop-n l = record { same : l.reader.file.now ≡ l.file; sofar : Sofar l.file l.initial.rows l.reader.at l.n l.rows }

abbrev pub decreases-loop-n : goal.decreases-loop-n
decreases-loop-n l = length l.file - l.reader.at
