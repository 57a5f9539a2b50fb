-- What is known behind one line more.
use Rattle.waits.specs.Passing.{with_line}
use Rattle.waits.proofs.Seen.with_line.Goals as goal

pub returns : goal.returns
unfolding with_line
returns c = rw (c.earliest.ensures, c.earliest-2.ensures, c.is_outside.ensures, c.is_low.ensures)
