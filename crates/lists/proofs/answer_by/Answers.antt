-- `answer_by`: the cues that joins meet come first, then the own ones, then those inside.
use native.Mathlib.Omega.{arith}
use mathlib.Core.Path.{◌∙◌}
use Rattle.blocks.proofs.Loaded.{own-few}
use Rattle.neighbours.proofs.Tables.{known_own_cue}
use Rattle.lists.proofs.Joins.{joins_part}
use Rattle.lists.proofs.Answer.{answered, may_visit_begin}
use Rattle.lists.proofs.answer_by.Goals as goal

pub give_block-h-requires : goal.give_block-h-requires
give_block-h-requires c =
    let may = c.requires.0 in
    let marks = c.marks_of.ensures in
    let given = c.give_joins-g.ensures in (
      known_own_cue _ _ _ _ _ _ _ marks may.low may.high (own-few c.args.question.now.show.loaded _ may.copy.known),
      omega (arith, marks.marks.long),
      may_visit_begin _ _ _ _ _ _ _ may given.long given.bound,
    )

pub walk-requires : goal.walk-requires
walk-requires c =
    let pre = c.requires in
    let marks = c.marks_of in
    let own = c.give_block-h.ensures in (
      marks.ensures.ready,
      omega (arith, pre.1, marks.auto),
      may_visit_begin _ _ _ _ _ _ _ pre.0 (own.long ∙ c.give_joins-g.ensures.long) own.bound,
    )

pub returns : goal.returns
returns c =
    let marks = c.marks_of.ensures in
    let joins = c.joins-joins.ensures in
    answered _ _ _ c.args.z _ _ _ _ _ _ _ _ marks.ready c.requires.0 marks.marks joins.0 joins.1
    (joins_part _ _ _ _ _ _ _ _ (omega (arith, joins.1, marks.marks.long)) c.give_joins-g.ensures)
    (c.walk.ensures.whole _ _ c.give_block-h.ensures)
