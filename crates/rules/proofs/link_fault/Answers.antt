-- `rules::link_fault` meets its contract: each return is a branch of the definition.
use Rattle.std.proofs.Common.{rules}
use Rattle.rules.specs.Faults.{link_fault}
use Rattle.rules.proofs.Tests.{faults}
use Rattle.rules.proofs.link_fault.Goals as goal
use Rattle.rules.proofs.link_fault.Goals.{then-block-seen-via-then-block-seen, then-block-seen-via-else-block-seen+then-block-seen-2, then-block-seen-via-else-block-seen+else-block-seen-2+then-seen, then-label-lt1-via-then-label-lt1, then-label-lt1-via-else-label-lt1+then-label-gt-MAX_LABEL}

pub returns-then-block-seen : goal.returns-then-block-seen
unfolding link_fault
returns-then-block-seen c =
    elim c.then-block-seen.branch [
      | then-block-seen-via-then-block-seen w ↦ search (faults, rules) depth 14
      | then-block-seen-via-else-block-seen+then-block-seen-2 w ↦ search (faults, rules) depth 14
      | then-block-seen-via-else-block-seen+else-block-seen-2+then-seen w ↦ search (faults, rules) depth 14
    ]

pub returns-then-label-lt1 : goal.returns-then-label-lt1
unfolding link_fault
returns-then-label-lt1 c =
    elim c.then-label-lt1.branch [
      | then-label-lt1-via-then-label-lt1 w ↦ search (faults, rules) depth 14
      | then-label-lt1-via-else-label-lt1+then-label-gt-MAX_LABEL w ↦ search (faults, rules) depth 14
    ]

pub returns-in_err-named_fault : goal.returns-in_err-named_fault
unfolding link_fault
returns-in_err-named_fault c = search (faults, rules) depth 14

pub returns : goal.returns
unfolding link_fault
returns c = search (faults, rules) depth 14
