-- `answers::number_in`: none stands for a refusal.
use borrow.Author.Rules.{rules}
use Rattle.answers.proofs.Answering.{number-told}
use Rattle.answers.proofs.number_in.Goals as goal

pub returns : goal.returns
returns c = search (number-told, rules)
