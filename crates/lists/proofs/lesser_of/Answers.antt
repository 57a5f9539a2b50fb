-- `lesser_of`: the choice is the one that the definition makes.
use Rattle.lists.proofs.Joins.{lesser_some, lesser_first, lesser_low, lesser_unmarked}
use Rattle.lists.proofs.lesser_of.Goals as goal
use Rattle.lists.proofs.lesser_of.Goals.{in-Some, in-None, else-flag-eq1-via-then-flag-eq1+else-last-y, else-flag-eq1-via-else-flag-eq1}

pub returns-then-last-y : goal.returns-then-last-y
returns-then-last-y c =
    elim c.match-x.branch [
      | in-Some w ↦ lesser_some _ _ _ _ _ _ _ c.if-flag-eq1.true c.if-last-y.true w.in-Some.is w.min.ensures w.result-is
      | in-None w ↦ lesser_first _ _ _ _ _ c.if-flag-eq1.true c.if-last-y.true w.in-None.is w.result-is
    ]

pub returns : goal.returns
returns c =
    elim c.else-flag-eq1.branch [
      | else-flag-eq1-via-then-flag-eq1+else-last-y w ↦ lesser_low _ _ _ _ w.if-flag-eq1.true w.if-last-y.false
      | else-flag-eq1-via-else-flag-eq1 w ↦ lesser_unmarked _ _ _ _ w.if-flag-eq1.false
    ]
