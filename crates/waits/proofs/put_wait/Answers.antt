-- A label's wait at its place, if there is one.
use mathlib.Core.Path.{sym}
use lib.Seq.{set_out}
use borrow.Author.Rules.{rules}
use Rattle.waits.proofs.put_wait.Goals as goal

pub returns-else-i-waits : goal.returns-else-i-waits
returns-else-i-waits c = sym (set_out _ _ _ (search rules))
