-- `join_at`: no join before i meets the cue.
use Rattle.blocks.proofs.Meeting.{Sought}
use Rattle.blocks.proofs.join_at.Given as goal

abbrev pub invariant-loop-i : goal.invariant-loop-i
invariant-loop-i l = Sought l.fn.rows l.r l.c l.i
