-- `loading::parse_own` meets its contract: the part that is lent is all that stands behind the table's place.
use borrow.Author.Rules.{rules}
use Rattle.loading.proofs.DeskFiles.{own-part}
use Rattle.loading.proofs.parse_own.Goals as goal

pub returns : goal.returns
returns c = search (own-part, rules)
