-- Bytes to the start of a list.
use borrow.Author.Rules.{rules}
use Rattle.codec.proofs.Stores.{puts_start}
use Rattle.codec.proofs.put_bytes.Goals as goal

pub returns : goal.returns
returns c = search (puts_start, rules)
