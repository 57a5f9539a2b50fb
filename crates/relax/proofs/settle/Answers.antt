-- `relax::settle` meets its contract. The invariant: every change so far was by an edge that improved an estimate. The measure: the sum of the estimates.
use Rattle.std.proofs.Common.{rules}
use Rattle.searches.proofs.Rounds.{runs-begin, round_again, round_falls, round_last}
use Rattle.relax.proofs.settle.Goals as goal

pub rounds-init : goal.rounds-init
rounds-init g c = runs-begin _

pub rounds-smaller : goal.rounds-smaller
rounds-smaller g c = search (round_falls, rules)

pub rounds-preserved : goal.rounds-preserved
rounds-preserved g c = search (round_again, rules)

pub returns : goal.returns
returns g c = search (round_last, rules)
