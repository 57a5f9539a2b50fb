-- `first_failing` meets its contract.
use native.Mathlib.Omega.{arith}
use mathlib.Core.Path.{◌∙◌, ap}
use lib.ListN.{get_or}
use Rattle.verdicts.specs.Passing.{passes_at, check_number, row_number_of}
use Rattle.verdicts.proofs.Steps.{place-on, place-stop, place-done}
use Rattle.verdicts.proofs.Blocks.first_failing.Goals as goal

pub returns-then-not-passes-clause-number : goal.returns-then-not-passes-clause-number
returns-then-not-passes-clause-number c =
    place-stop (passes_at (check_number c.args.check) c.args.self.xs.now c.args.self.t.now c.args.self.blocks) _ _ _ _ _ c.loop-k.invariant (omega arith) c.passes.ensures c.if-not-passes.true
    (c.row_number.ensures.number ∙ ap row_number_of (c.indexed.ensures ∙ ap (λ i. get_or c.args.self.t.now i 0) (omega arith)))

pub loop-k-preserved : goal.loop-k-preserved
loop-k-preserved c =
    place-on (passes_at (check_number c.args.check) c.args.self.xs.now c.args.self.t.now c.args.self.blocks) _ _ _ _ c.loop-k.invariant (omega arith) c.passes.ensures c.if-not-passes.false

pub returns-clause-number : goal.returns-clause-number
returns-clause-number c =
    place-done (passes_at (check_number c.args.check) c.args.self.xs.now c.args.self.t.now c.args.self.blocks) c.args.self.t.now c.args.self.blocks _ c.loop-k.invariant (omega arith)
