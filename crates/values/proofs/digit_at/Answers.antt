-- The digit at a place: each answer is a case of the definition.
use borrow.Author.Rules.{rules}
use Rattle.basics.proofs.Choices.{ifs}
use Rattle.values.specs.Fields.{figure_at, figure, digit_of}
use Rattle.values.proofs.Fields.{digit-found}
use Rattle.values.proofs.digit_at.Goals as goal

pub returns-in_err-b : goal.returns-in_err-b
unfolding figure_at figure digit_of
returns-in_err-b c = search (ifs, rules) depth 8

pub returns-then-is_ascii_digit : goal.returns-then-is_ascii_digit
returns-then-is_ascii_digit c = search (digit-found, rules)

pub returns : goal.returns
unfolding figure_at figure digit_of
returns c = search (ifs, rules) depth 8
