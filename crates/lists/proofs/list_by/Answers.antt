-- `list_by`: the walk begins in the copy that owns the cue.
use Rattle.lists.proofs.Whole.{may_answer_begin, listed_by}
use Rattle.lists.proofs.list_by.Goals as goal

pub answer_from-g-requires : goal.answer_from-g-requires
answer_from-g-requires c =
    let pre = c.requires in may_answer_begin c.args.question.now.show.loaded _ pre.0 _ c.descend-z.ensures _ _ pre.1

pub returns : goal.returns
returns c =
    let pre = c.requires in
    listed_by c.args.question.now.show.loaded _ pre.0 _ c.descend-z.ensures _ _ pre.1 _ _ c.answer_from-g.ensures _ c.min.ensures
