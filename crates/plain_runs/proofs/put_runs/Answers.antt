-- The blocks are put one by one. The loop's invariant: what is left of them from block k on.
use native.Mathlib.Omega.{arith}
use borrow.Author.Rules.{rules}
use Rattle.plain_runs.proofs.Runs.{plain-runs_begin, runs_fit, runs-room, plain-runs_on, runs-full}
use Rattle.plain_runs.proofs.put_runs.Goals as goal

pub loop-k-init : goal.loop-k-init
loop-k-init c = search (plain-runs_begin, rules)

pub slice_bounds-put_run-count : goal.slice_bounds-put_run-count
slice_bounds-put_run-count c = omega (arith, runs_fit _ _ _ _ c.loop-k.invariant (search rules) c.requires)

pub slice_bounds-put_run-start : goal.slice_bounds-put_run-start
slice_bounds-put_run-start c = search (slice_bounds-put_run-count c, rules)

pub put_run-at-requires : goal.put_run-at-requires
put_run-at-requires c = (search rules, runs-room _ _ _ _ c.loop-k.invariant (search rules) c.requires)

pub overflow_add-at : goal.overflow_add-at
overflow_add-at c = omega (arith, runs_fit _ _ _ _ c.loop-k.invariant (search rules) c.requires)

pub loop-k-preserved : goal.loop-k-preserved
loop-k-preserved c = plain-runs_on _ _ _ _ c.loop-k.invariant (search rules) _ _ c.put_run-at.ensures

pub returns : goal.returns
returns c = search (runs-full, rules)
