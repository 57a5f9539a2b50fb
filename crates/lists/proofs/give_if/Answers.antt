-- `give_if`: the cue is given if it is marked and high enough.
use borrow.Author.Rules.{rules}
use Rattle.lists.proofs.Filled.{step-yes, step-low, step-no}
use Rattle.lists.proofs.give_if.Goals as goal
use Rattle.lists.proofs.give_if.Goals.{else-flag-eq1-via-then-flag-eq1+else-q-u, else-flag-eq1-via-else-flag-eq1}

pub returns-then-q-u : goal.returns-then-q-u
returns-then-q-u c = search (step-yes, rules)

pub returns : goal.returns
returns c =
    elim c.else-flag-eq1.branch [
      | else-flag-eq1-via-then-flag-eq1+else-q-u w ↦ step-low _ _ _ _ _ w.if-flag-eq1.true w.if-q-u.false c.requires.2
      | else-flag-eq1-via-else-flag-eq1 w ↦ step-no _ _ _ _ _ w.if-flag-eq1.false c.requires.2
    ]
