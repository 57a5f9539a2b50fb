-- The last digit of a number.
use borrow.Author.Rules.{rules}
use Rattle.model.specs.Values.{digit_at}
use Rattle.codec.proofs.digit.Goals as goal

pub returns : goal.returns
unfolding digit_at
returns c = search rules
