-- `relax::relax_links` meets its contract. The invariant: a round over the link rows passed.
use Rattle.searches.proofs.Edges.{LinksOver}
use Rattle.relax.proofs.relax_links.Given as goal

abbrev pub invariant-loop-r : goal.invariant-loop-r
invariant-loop-r g l =
    let m = g.N.Number in
    LinksOver (g.P.Prices.price l.prices) l.show.rows.now l.initial.r l.r (m.values l.initial.d) l.changed (m.values l.d)
