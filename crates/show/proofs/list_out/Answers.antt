-- `show::list_out` meets its contract.
use mathlib.Core.Path.{refl}
use Rattle.answers.proofs.Linked.{list_out}
use Rattle.show.proofs.list_out.Goals as goal

pub returns : goal.returns
returns c = list_out _ _ _ _ _ _ refl c.list.ensures
