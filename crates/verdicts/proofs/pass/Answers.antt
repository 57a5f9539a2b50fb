-- `verdicts::pass` meets its contract.
use native.Mathlib.Omega.{arith}
use mathlib.Core.Path.{refl}
use Rattle.verdicts.proofs.Going.{going_blocks, some_number, scanned_stop, scanned_done, going_begin, going_stop, going_on}
use Rattle.verdicts.proofs.pass.Goals as goal

pub loop-r-init : goal.loop-r-init
loop-r-init c = going_begin _ _ _ c.requires.2

pub next_state-s-requires : goal.next_state-s-requires
next_state-s-requires c = (c.in-Ok.ensures.kind, going_blocks _ _ _ _ _ c.loop-r.invariant (omega arith))

pub returns-in-Err : goal.returns-in-Err
returns-in-Err c =
    scanned_stop _ _ _ _ _
    (going_stop _ _ _ _ _ c.loop-r.invariant _ _ _ _ (omega arith) (record { before = c.saturating_sub.ensures; joins = c.many_of-many.ensures; number = c.in-Err.ensures.first }) (some_number _) refl)

pub loop-r-preserved : goal.loop-r-preserved
loop-r-preserved c =
    going_on _ _ _ _ _ c.loop-r.invariant _ _ _ _ _ (omega arith) (record { before = c.saturating_sub.ensures; joins = c.many_of-many.ensures; number = c.in-Ok.ensures.first })
    c.in-Ok.ensures.kind c.index_row.ensures c.next_state-s.ensures

pub returns : goal.returns
returns c = scanned_done _ _ _ _ _ c.loop-r.invariant (omega arith)
