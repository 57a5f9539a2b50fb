-- `Table::put`: one store, or none where one of the cues is no join.
use mathlib.Core.Path.{refl}
use Rattle.levels.proofs.Changes.{put-no_a, put-no_b, put-there}
use Rattle.levels.proofs.Table.put.Goals as goal

pub returns-in_default : goal.returns-in_default
returns-in_default c = put-no_a _ _ _ _ _ _ c.in_default.ensures

pub returns-in_default-join : goal.returns-in_default-join
returns-in_default-join c = put-no_b _ _ _ _ _ _ c.in_default-join.ensures

pub returns : goal.returns
returns c =
    let i = c.in-Some.ensures in
    let j = c.in-Some-join.ensures in
    put-there _ _ _ _ _ c.in-Some.i c.in-Some-join.j _ _ _ _ c.requires i.1 j.1 i.0 j.0 refl refl c.better_level.ensures
