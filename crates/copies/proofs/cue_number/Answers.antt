-- `cue_number`: the number of an own cue or of a join.
use borrow.Author.Rules.{rules}
use Rattle.copies.proofs.Copies.{cue-join, cue-own}
use Rattle.copies.proofs.cue_number.Goals as goal

pub returns-then-own-c : goal.returns-then-own-c
returns-then-own-c c = search (cue-join, rules)

pub returns : goal.returns
returns c = search (cue-own, rules)
