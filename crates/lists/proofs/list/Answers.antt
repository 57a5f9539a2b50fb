-- `list`: the question with all labels.
use Rattle.lists.proofs.Whole.{is_listed_all}
use Rattle.lists.proofs.list.Goals as goal

pub returns : goal.returns
returns c = is_listed_all _ _ _ _ _ _ _ c.args.show.now.loaded c.list_by.ensures
