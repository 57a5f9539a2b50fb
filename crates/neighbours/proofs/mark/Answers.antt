-- `mark`: a join's flag or an own cue's bit is set.
use borrow.Author.Rules.{rules}
use Rattle.neighbours.proofs.Marks.{mark_join, mark_far, mark_own, mark_zero}
use Rattle.neighbours.proofs.mark.Goals as goal

pub returns-then-j-lt-JOINS : goal.returns-then-j-lt-JOINS
returns-then-j-lt-JOINS c = search (mark_join, rules) fits 20000

pub returns-else-j-lt-JOINS : goal.returns-else-j-lt-JOINS
returns-else-j-lt-JOINS c = search (mark_far, rules) fits 20000

pub returns-then-d-gt0 : goal.returns-then-d-gt0
returns-then-d-gt0 c = search (mark_own, rules) fits 20000

pub returns-else-d-gt0 : goal.returns-else-d-gt0
returns-else-d-gt0 c = search (mark_zero, rules) fits 20000
