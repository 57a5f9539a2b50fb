-- `find`: the place is reached.
use borrow.Author.Rules.{rules}
use Rattle.paths.proofs.Finding.{found-place}
use Rattle.paths.proofs.find.Goals as goal

pub returns : goal.returns
returns c =
    let p = c.requires in
    (c.reach.ensures.cue, found-place c.args.show.now.loaded p.0 p.1 c.reach.ensures, search rules)
