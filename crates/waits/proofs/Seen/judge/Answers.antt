-- What is said where no line is left.
use borrow.Author.Rules.{rules}
use Rattle.waits.proofs.Turns.{judged_outside, judged_low, judged_fit}
use Rattle.waits.proofs.Seen.judge.Goals as goal

pub returns-in-Some : goal.returns-in-Some
returns-in-Some c = search (judged_outside, rules)

pub returns-in-Some-low : goal.returns-in-Some-low
returns-in-Some-low c = search (judged_low, rules)

pub returns : goal.returns
returns c = search (judged_fit, rules)
