-- The blocks are put one by one. The loop's invariant: what is left of them from block k on.
use Rattle.model.specs.Desk.{built_in_numbers}
use Rattle.codec.proofs.Stores.{Stored}
use Rattle.plain_runs.proofs.Runs.{runs_left}
use Rattle.plain_runs.proofs.put_runs.Given as goal

abbrev pub invariant-loop-k : goal.invariant-loop-k
invariant-loop-k l = Stored built_in_numbers (runs_left l.k) l.initial.numbers 0 l.at l.numbers
