-- `relax::settle` meets its contract. The invariant: every change so far was by an edge that improved an estimate. The measure: the sum of the estimates.
use Rattle.model.specs.Blocks.{blocks_of}
use Rattle.searches.specs.Rounds.{sum, Runs}
use Rattle.searches.specs.Edges.{BlockEdge}
use Rattle.relax.proofs.settle.Given as goal

abbrev pub invariant-rounds : goal.invariant-rounds
invariant-rounds g l =
    let m = g.N.Number in
    Runs (BlockEdge (g.P.Prices.price l.prices) (blocks_of l.show.rows.now) (m.values l.work) l.k) (m.values l.initial.d) (m.values l.d)

abbrev pub decreases-rounds : goal.decreases-rounds
decreases-rounds g l = sum (g.N.Number.values l.d)
