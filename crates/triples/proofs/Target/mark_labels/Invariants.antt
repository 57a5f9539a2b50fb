-- `triples::mark_labels` meets its contract. The invariant: the labels passed are marked.
use Rattle.triples.specs.Marks.{TableTo}
use Rattle.triples.proofs.Target.mark_labels.Given as goal

abbrev pub invariant-loop-label : goal.invariant-loop-label
invariant-loop-label l = TableTo l.self.show.rows.now l.self.place.cue l.label l.m
