-- `mark_cue`: a table without marks, then those of the cue's place.
use Rattle.triples.proofs.Marking.{marks_begin, aims, cue-done}
use Rattle.triples.proofs.mark_cue.Goals as goal

pub mark_all-requires : goal.mark_all-requires
mark_all-requires c =
    let few = c.requires.2 in (aims _ _ (c.find-place.ensures.0, c.find-place.ensures.1) c.args.show.now.loaded few, marks_begin _ _ _ _ few c.clear.ensures)

pub returns : goal.returns
returns c = cue-done _ _ (c.find-place.ensures.0, c.find-place.ensures.1) _ c.mark_all.ensures
