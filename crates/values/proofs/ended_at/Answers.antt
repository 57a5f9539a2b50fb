-- A value with its end: each answer is a case of the definition.
use borrow.Author.Rules.{rules}
use Rattle.basics.proofs.Choices.{ifs}
use Rattle.values.specs.Fields.{ended_at}
use Rattle.values.proofs.ended_at.Goals as goal

pub returns-in_err-get : goal.returns-in_err-get
unfolding ended_at
returns-in_err-get c = search (ifs, rules) depth 8

pub returns-then-branch-end : goal.returns-then-branch-end
unfolding ended_at
returns-then-branch-end c = search (ifs, rules) depth 8

pub returns : goal.returns
unfolding ended_at
returns c = search (ifs, rules) depth 8
