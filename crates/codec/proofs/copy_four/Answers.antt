-- Four bytes are copied one by one.
use borrow.Author.Rules.{rules}
use Rattle.codec.proofs.Spills.{four_stored}
use Rattle.codec.proofs.copy_four.Goals as goal

pub returns : goal.returns
returns c = search (four_stored, rules)
