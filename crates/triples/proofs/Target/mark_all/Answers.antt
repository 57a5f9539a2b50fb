-- `Target::mark_all`: the labels of the groups passed are marked.
use native.Mathlib.Omega.{arith}
use mathlib.Core.Path.{◌≡◌}
use Prim.Native.Nat.{◌+◌, ◌*◌, min}
use Rattle.triples.specs.Marks.{label_places}
use Rattle.triples.proofs.Target.mark_all.Goals as goal

pub loop-group-init : goal.loop-group-init
loop-group-init c = c.requires.1

pub mark_group-requires : goal.mark_group-requires
mark_group-requires c =
    let e : min (1 + 16 * c.loop-group.group) label_places ≡ 1 + 16 * c.loop-group.group = omega (arith, c.loop-group-test.true) in
    (c.requires.0, omega arith, c.group_end.ensures.0, rw e at c.loop-group.invariant)

pub loop-group-preserved : goal.loop-group-preserved
loop-group-preserved c =
    let e : min (1 + 16 * (c.loop-group.group + 1)) label_places ≡ c.group_end.result + 1 = omega (arith, c.group_end.ensures.1) in
    rw e c.mark_group.ensures

pub returns : goal.returns
returns c =
    let e : min (1 + 16 * c.loop-group.group) label_places ≡ label_places = omega (arith, c.loop-group-test.false) in
    rw e at c.loop-group.invariant
