-- `relax::relax_links` meets its contract. The invariant: a round over the link rows passed.
use Rattle.std.proofs.Common.{rules}
use Rattle.searches.proofs.Edges.{links-begin, link-ends, links-on, links-done}
use Rattle.relax.proofs.relax_links.Goals as goal

pub relax_link-changed-requires : goal.relax_link-changed-requires
relax_link-changed-requires g c = search (link-ends, rules)

pub loop-r-init : goal.loop-r-init
loop-r-init g c = links-begin _ _

pub loop-r-preserved : goal.loop-r-preserved
loop-r-preserved g c = search (links-on, rules)

pub returns : goal.returns
returns g c = search (links-done, rules)
