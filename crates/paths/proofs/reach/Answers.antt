-- `reach`: the show is a copy of the last block, with no step before it.
use mathlib.Core.Path.{refl}
use Rattle.paths.proofs.Finding.{show_asks}
use Rattle.paths.proofs.reach.Goals as goal

pub locate_copy-end-requires : goal.locate_copy-end-requires
locate_copy-end-requires c =
    let p = c.requires in
    let last = c.last-last.ensures in
    show_asks _ _ c.args.show.now.loaded last.0 last.1 p.0 p.1 p.2

pub returns : goal.returns
returns c = record { cue = refl; down = rw c.last-last.ensures.0 at c.locate_copy-end.ensures }
