-- `Question::mark_links`: the loop marks by one row more each turn.
use Prim.Native.Nat.{◌-◌}
use Rattle.verdicts.specs.Index.{links_from}
use Rattle.neighbours.specs.Picks.{Picked}
use Rattle.neighbours.specs.Records.{Added}
use Rattle.neighbours.proofs.Question.mark_links.Given as goal

abbrev pub invariant-loop-r : goal.invariant-loop-r
invariant-loop-r l = Added l.y.own (Picked l.self.ask (links_from l.self.show.rows.now l.fn.links.start (l.r - l.fn.links.start)) l.y.cue) l.initial.s l.s
