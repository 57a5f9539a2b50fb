-- `behind`: the walk begins in the copy that owns the cue of the place.
use mathlib.Core.Path.{refl}
use Rattle.behind.proofs.Starting.{not_seen, starts, may_start}
use Rattle.behind.proofs.behind.Goals as goal

pub returns-in_err-c : goal.returns-in_err-c
returns-in_err-c c =
    rw c.from_residual.ensures
    (not_seen c.args.show.now.loaded c.requires.0 _ c.descend-z.ensures c.args.inward _ _ c.in_err-c.ensures c.requires.2 refl)

pub walk-requires : goal.walk-requires
walk-requires c =
    let pre = c.requires in
    let seen = c.in_ok-c.ensures in
    let p = c.new-start.ensures in
    may_start c.args.show.now.loaded pre.0 _ c.descend-z.ensures _ _ _ seen.1 seen.0 _ p.0 p.1 p.2 c.levels.ensures pre.1

pub returns : goal.returns
returns c =
    let seen = c.in_ok-c.ensures in
    let p = c.new-start.ensures in
    c.walk.ensures _ _ (starts c.args.show.now.loaded c.requires.0 _ c.descend-z.ensures _ _ _ seen.1 seen.0 _ p.0 p.1 p.2)
