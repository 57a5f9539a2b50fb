-- `mark_cues`: the cues passed are marked.
use mathlib.Core.Path.{refl}
use Rattle.triples.specs.Marks.{marks_all}
use Rattle.triples.proofs.Marking.{mark_on, marks-done}
use Rattle.triples.proofs.mark_cues.Goals as goal

pub loop-v-init : goal.loop-v-init
unfolding marks_all
loop-v-init c = refl

pub loop-v-preserved : goal.loop-v-preserved
loop-v-preserved c = mark_on _ _ _ _ _ _ c.loop-v.invariant c.wide.ensures.0 c.loop-v-test.true

pub returns : goal.returns
returns c = marks-done _ _ _ _ _ c.loop-v.invariant c.loop-v-test.false
