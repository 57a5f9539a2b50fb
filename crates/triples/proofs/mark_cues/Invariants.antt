-- `mark_cues`: the cues passed are marked.
use mathlib.Core.Path.{◌≡◌}
use lib.ListN.{take}
use Rattle.triples.specs.Marks.{marks_all}
use Rattle.triples.proofs.mark_cues.Given as goal

abbrev pub invariant-loop-v : goal.invariant-loop-v
invariant-loop-v l = l.m ≡ marks_all (take l.v-index l.cues) l.label l.initial.m
