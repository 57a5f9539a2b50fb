-- `verdicts::cues_of` meets its contract.
use borrow.Author.Rules.{rules}
use Rattle.basics.proofs.Choices.{ifs}
use Rattle.verdicts.specs.Passing.{cues_of}
use Rattle.verdicts.proofs.cues_of.Goals as goal

pub returns-then-own-gt-MAX_OWN : goal.returns-then-own-gt-MAX_OWN
unfolding cues_of
returns-then-own-gt-MAX_OWN c = search (ifs, rules) depth 14

pub returns-then-joins-gt-MAX_JOINS : goal.returns-then-joins-gt-MAX_JOINS
unfolding cues_of
returns-then-joins-gt-MAX_JOINS c = search (ifs, rules) depth 14

pub returns : goal.returns
unfolding cues_of
returns c = search (ifs, rules) depth 14
