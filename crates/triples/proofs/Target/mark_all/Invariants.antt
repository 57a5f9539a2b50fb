-- `Target::mark_all`: the labels of the groups passed are marked.
use Prim.Native.Nat.{◌+◌, ◌*◌, min}
use Rattle.triples.specs.Marks.{label_places, TableTo}
use Rattle.triples.proofs.Target.mark_all.Given as goal

abbrev pub invariant-loop-group : goal.invariant-loop-group
invariant-loop-group l = TableTo l.self.show.rows.now l.self.place.cue (min (1 + 16 * l.group) label_places) l.m
