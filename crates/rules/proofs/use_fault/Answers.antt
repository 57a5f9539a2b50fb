-- `rules::use_fault` meets its contract: each return is a branch of the definition.
use Rattle.std.proofs.Common.{rules}
use Rattle.rules.specs.Faults.{use_fault}
use Rattle.rules.proofs.Tests.{faults}
use Rattle.rules.proofs.use_fault.Goals as goal
use Rattle.rules.proofs.use_fault.Goals.{then-block-seen-via-then-block-seen, then-block-seen-via-else-block-seen+then-block-seen-2}

pub returns-then-block-seen : goal.returns-then-block-seen
unfolding use_fault
returns-then-block-seen c =
    elim c.then-block-seen.branch [
      | then-block-seen-via-then-block-seen w ↦ search (faults, rules) depth 14
      | then-block-seen-via-else-block-seen+then-block-seen-2 w ↦ search (faults, rules) depth 14
    ]

pub returns-then-label-block : goal.returns-then-label-block
unfolding use_fault
returns-then-label-block c = search (faults, rules) depth 14

pub returns-in_err-named_fault : goal.returns-in_err-named_fault
unfolding use_fault
returns-in_err-named_fault c = search (faults, rules) depth 14

pub returns : goal.returns
unfolding use_fault
returns c = search (faults, rules) depth 14
