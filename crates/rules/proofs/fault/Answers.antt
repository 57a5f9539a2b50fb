-- `rules::fault` meets its contract: each return is a branch of the definition.
use Rattle.std.proofs.Common.{rules}
use Rattle.rules.specs.Faults.{fault_of}
use Rattle.rules.proofs.Tests.{faults, kind_known, kind_unknown}
use Rattle.rules.proofs.fault.Goals as goal

pub returns-in_err-kind-clause-first : goal.returns-in_err-kind-clause-first
unfolding fault_of
returns-in_err-kind-clause-first c = search (faults, kind_known, kind_unknown, rules) depth 14

pub returns-in_err-open_fault-in-Opening-clause-first : goal.returns-in_err-open_fault-in-Opening-clause-first
unfolding fault_of
returns-in_err-open_fault-in-Opening-clause-first c = search (faults, kind_known, kind_unknown, rules) depth 14

pub returns-in_err-link_fault-in-Link-clause-first : goal.returns-in_err-link_fault-in-Link-clause-first
unfolding fault_of
returns-in_err-link_fault-in-Link-clause-first c = search (faults, kind_known, kind_unknown, rules) depth 14

pub returns-in_err-use_fault-in-Use-clause-first : goal.returns-in_err-use_fault-in-Use-clause-first
unfolding fault_of
returns-in_err-use_fault-in-Use-clause-first c = search (faults, kind_known, kind_unknown, rules) depth 14

pub returns-in_ok-open_fault-in-Opening-clause-first : goal.returns-in_ok-open_fault-in-Opening-clause-first
unfolding fault_of
returns-in_ok-open_fault-in-Opening-clause-first c = search (faults, kind_known, kind_unknown, rules) depth 14

pub returns-in_ok-link_fault-in-Link-clause-first : goal.returns-in_ok-link_fault-in-Link-clause-first
unfolding fault_of
returns-in_ok-link_fault-in-Link-clause-first c = search (faults, kind_known, kind_unknown, rules) depth 14

pub returns-in_ok-use_fault-in-Use-clause-first : goal.returns-in_ok-use_fault-in-Use-clause-first
unfolding fault_of
returns-in_ok-use_fault-in-Use-clause-first c = search (faults, kind_known, kind_unknown, rules) depth 14
