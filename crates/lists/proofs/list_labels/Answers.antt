-- `list_labels`: the question with some labels.
use Rattle.lists.proofs.Whole.{is_listed_some}
use Rattle.lists.proofs.list_labels.Goals as goal

pub returns : goal.returns
returns c = is_listed_some _ _ _ _ _ _ _ _ c.list_by.ensures
