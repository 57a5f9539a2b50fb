-- `printing::put_place` meets its contract: the line of a link that a place stands for.
use borrow.Author.Rules.{rules}
use Rattle.printing.specs.Stream.{line_of}
use Rattle.printing.proofs.put_place.Goals as goal

pub returns : goal.returns
unfolding line_of
returns c = search rules
