-- `seen`: an own cue, a join, or none.
use Prim.Native.Nat.{◌≤◌}
use native.Mathlib.Omega.{arith}
use mathlib.Core.Path.{refl, sym, ◌∙◌}
use lib.ListN.{length}
use lib.Seq.{length-take-le}
use Rattle.behind.proofs.Seeing.{seen-own, seen-join, seen_none}
use Rattle.behind.proofs.seen.Goals as goal
use Rattle.behind.proofs.seen.Goals.{else-z-v-via-then-z-v+else-v-z, else-z-v-via-else-z-v}

pub returns-then-v-z : goal.returns-then-v-z
returns-then-v-z c = seen-own _ _ _ c.own-own.ensures.0 _ _ c.if-z-v.true c.if-v-z.true refl

pub returns-in_err-j : goal.returns-in_err-j
returns-in_err-j c =
    let few : c.joins-joins.result ≤ length c.args.z.met = omega (arith, c.joins-joins.ensures.1) in
    rw c.from_residual.ensures
    (seen_none _ c.args.z _ c.own-own.ensures.0 _ _ c.joins-joins.ensures.0 (length-take-le _ _ few) (sym c.met_at.ensures ∙ c.in_err-j.was)
    (λ l h. elim c.else-z-v.branch [ else-z-v-via-then-z-v+else-v-z w ↦ omega (arith, w.if-v-z.false) | else-z-v-via-else-z-v w ↦ omega (arith, w.if-z-v.false) ]))

pub returns : goal.returns
returns c =
    seen-join _ c.args.z _ c.own-own.ensures.0 _ _ c.joins-joins.ensures.0 _ _ (sym c.met_at.ensures ∙ c.in_ok-j.was) refl
