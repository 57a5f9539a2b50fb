-- `first_failing` meets its contract.
use Rattle.verdicts.specs.Passing.{passes_at, check_number}
use Rattle.verdicts.proofs.Steps.{PlaceRest}
use Rattle.verdicts.proofs.Blocks.first_failing.Given as goal

abbrev pub invariant-loop-k : goal.invariant-loop-k
invariant-loop-k l = PlaceRest (passes_at (check_number l.check) l.self.xs.now l.self.t.now l.self.blocks) l.self.t.now l.self.blocks l.k
