-- `own_row`: the answer from row r on is the answer.
use native.Mathlib.Omega.{arith}
use mathlib.Core.Path.{sym}
use Rattle.behind.proofs.Seeing.{row-hit, row_from_is, row-to, row-none}
use Rattle.behind.proofs.own_row.Goals as goal
use Rattle.behind.proofs.own_row.Goals.{else-from-x-via-then-from-x+else-to-y, else-from-x-via-else-from-x}

pub returns-then-to-y : goal.returns-then-to-y
returns-then-to-y c = (
  λ e. omega arith,
  sym (row-hit _ _ _ _ _ c.loop-r-test.true _ _ _ c.from.ensures c.if-from-x.true c.to.ensures c.if-to-y.true c.loop-r.invariant),
)

pub loop-r-preserved : goal.loop-r-preserved
loop-r-preserved c =
    let inv = c.loop-r.invariant in
    elim c.else-from-x.branch [
      | else-from-x-via-then-from-x+else-to-y w ↦
          row-to _ _ _ _ _ c.loop-r-test.true _ _ _ c.from.ensures w.if-from-x.true w.to.ensures w.if-to-y.false inv
      | else-from-x-via-else-from-x w ↦ row_from_is _ _ _ _ _ c.loop-r-test.true _ _ c.from.ensures w.if-from-x.false inv
    ]

pub returns : goal.returns
returns c = row-none _ _ _ _ _ _ c.loop-r-test.false c.loop-r.invariant
