-- `mark_group`: where no label of the group is one of the cue's links', nothing is to be marked.
use Rattle.triples.proofs.Marking.{group_none}
use Rattle.triples.proofs.Target.mark_group.Goals as goal

pub returns-else-has_labels : goal.returns-else-has_labels
returns-else-has_labels c =
    let pre = c.requires in
    group_none _ _ pre.0.few _ _ _ pre.2.order (c.has_labels.ensures.none c.if-has_labels.false) pre.3
