-- `show::list_in` meets its contract.
use mathlib.Core.Path.{refl}
use Rattle.answers.proofs.Linked.{list_in_lem}
use Rattle.show.proofs.list_in.Goals as goal

pub returns : goal.returns
returns c = list_in_lem _ _ _ _ _ _ refl c.list.ensures
