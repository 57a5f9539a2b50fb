-- `relax::relax_uses_back` meets its contract. The invariant: a round over the use rows passed, which are the last ones.
use Rattle.std.proofs.Common.{rules, arith, ◌-◌, ◌≤◌, ◌<◌}
use Rattle.searches.proofs.Edges.{uses-begin, use-there, uses-back, uses-done}
use Rattle.relax.proofs.relax_uses_back.Goals as goal

pub loop-r-init : goal.loop-r-init
loop-r-init g c = (search rules, uses-begin _ _)

pub relax_row-changed-requires : goal.relax_row-changed-requires
relax_row-changed-requires g c =
    let rows = c.use_rows-rows.result in
    let lo : rows.start ≤ c.loop-r.r - 1 = omega arith in
    let hi : c.loop-r.r - 1 < rows.end = omega arith in (search rules, (c.args.k, search (use-there, lo, hi, rules), search rules))

pub loop-r-preserved : goal.loop-r-preserved
loop-r-preserved g c = (omega arith, uses-back c.loop-r.invariant.1 c.relax_row-changed.ensures (search rules) (omega arith) (omega arith))

pub returns : goal.returns
returns g c = search (uses-done, rules)
