-- `printing::put_links_title` meets its contract: the title is copied.
use borrow.Author.Rules.{rules}
use Rattle.model.specs.Printed.{links_title}
use Rattle.printing.proofs.Lines.{begins}
use Rattle.printing.proofs.put_links_title.Goals as goal

pub returns : goal.returns
unfolding links_title
returns c = begins links_title _ _ _ c.put_bytes.ensures (search rules)
