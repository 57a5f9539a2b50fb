-- `relax::relax_uses` meets its contract. The invariant: a round over the use rows passed.
use Rattle.std.proofs.Common.{rules}
use Rattle.searches.proofs.Edges.{uses-begin, use-there, uses-on, uses-done}
use Rattle.relax.proofs.relax_uses.Goals as goal

pub loop-r-init : goal.loop-r-init
loop-r-init g c = uses-begin _ _

pub relax_row-changed-requires : goal.relax_row-changed-requires
relax_row-changed-requires g c = (search rules, (c.args.k, search (use-there, rules), search rules))

pub loop-r-preserved : goal.loop-r-preserved
loop-r-preserved g c = search (uses-on, rules)

pub returns : goal.returns
returns g c = search (uses-done, rules)
