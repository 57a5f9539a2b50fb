-- `rules::open_fault` meets its contract: each return is a branch of the definition.
use native.Mathlib.Omega.{arith}
use Rattle.std.proofs.Common.{rules}
use Rattle.rules.specs.Faults.{open_fault}
use Rattle.rules.proofs.Tests.{faults, columns-eight}
use Rattle.rules.proofs.open_fault.Goals as goal
use Rattle.rules.proofs.open_fault.Goals.{then-block-blocks-via-then-block-blocks, then-block-blocks-via-else-block-blocks+then-blocks-ge-MAX_BLOCKS, then-label-gt-MAX_JOINS-via-then-label-gt-MAX_JOINS, then-label-gt-MAX_JOINS-via-else-label-gt-MAX_JOINS+then-own-gt-MAX_OWN, then-label-gt-MAX_JOINS-via-else-label-gt-MAX_JOINS+else-own-gt-MAX_OWN+then-not-every_zero}

pub every_zero-requires : goal.every_zero-requires
every_zero-requires c = columns-eight _ _ 1 0 _ c.columns.ensures (omega arith)

pub returns-then-block-blocks : goal.returns-then-block-blocks
unfolding open_fault
returns-then-block-blocks c =
    elim c.then-block-blocks.branch [
      | then-block-blocks-via-then-block-blocks w ↦ search (faults, rules) depth 14
      | then-block-blocks-via-else-block-blocks+then-blocks-ge-MAX_BLOCKS w ↦ search (faults, rules) depth 14
    ]

pub returns-then-label-gt-MAX_JOINS : goal.returns-then-label-gt-MAX_JOINS
unfolding open_fault
returns-then-label-gt-MAX_JOINS c =
    elim c.then-label-gt-MAX_JOINS.branch [
      | then-label-gt-MAX_JOINS-via-then-label-gt-MAX_JOINS w ↦ search (faults, rules) depth 14
      | then-label-gt-MAX_JOINS-via-else-label-gt-MAX_JOINS+then-own-gt-MAX_OWN w ↦ search (faults, rules) depth 14
      | then-label-gt-MAX_JOINS-via-else-label-gt-MAX_JOINS+else-own-gt-MAX_OWN+then-not-every_zero w ↦ search (faults, rules) depth 14
    ]

pub returns : goal.returns
unfolding open_fault
returns c = search (faults, rules) depth 14
