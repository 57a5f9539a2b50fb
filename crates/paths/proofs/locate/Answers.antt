-- `locate`: the place is reached, and then its rows are turned into positions.
use Rattle.paths.proofs.Finding.{found-down, found-at, found-path}
use Rattle.paths.proofs.locate.Goals as goal

pub positions-requires : goal.positions-requires
positions-requires c = let p = c.requires in found-down c.args.show.now.loaded p.0 p.1 c.reach-place.ensures

pub returns : goal.returns
returns c =
    let p = c.requires in
    record {
      value = found-at c.args.show.now.loaded p.0 p.1 c.reach-place.ensures;
      path_after = found-path c.args.show.now.loaded p.0 p.1 c.reach-place.ensures _ c.positions.ensures;
    }
