-- `Pair::best_use`: the loop tries one use more each turn.
use Rattle.behind.specs.Leads.{LeadsTo}
use Rattle.behind.proofs.Pair.best_use.Given as goal

abbrev pub invariant-loop-r : goal.invariant-loop-r
invariant-loop-r l = LeadsTo l.show.rows.now l.show.index.now l.self l.initial.r l.r-end l.r l.lead
