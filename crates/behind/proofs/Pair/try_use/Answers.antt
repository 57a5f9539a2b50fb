-- `Pair::try_use`: the use meets both cues and its level is better, or the lead stays.
use native.Mathlib.Omega.{arith}
use Rattle.blocks.proofs.Loaded.{loaded-show, used_block}
use Rattle.behind.proofs.Trying.{uses-use, unmet_from, unmet_to, tried_better, tried_worse}
use Rattle.behind.proofs.Pair.try_use.Goals as goal

pub joins-joins-requires : goal.joins-joins-requires
joins-joins-requires c =
    let g = c.args.show.now.loaded in
    let pre = c.requires in
    used_block _ (uses-use g pre.0.block pre.1) c.used-k.ensures.0

pub returns-in_default : goal.returns-in_default
returns-in_default c =
    let g = c.args.show.now.loaded in
    let pre = c.requires in
    unmet_from g _ pre.0 _ pre.1 _ pre.2 _ _ _ c.used-k.ensures.0 c.joins-joins.ensures.0 c.in_default.ensures.value (omega arith)

pub returns-in_default-join_at : goal.returns-in_default-join_at
returns-in_default-join_at c =
    let g = c.args.show.now.loaded in
    let pre = c.requires in
    unmet_to g _ pre.0 _ pre.1 _ pre.2 _ _ _ c.used-k.ensures.0 c.joins-joins.ensures.0 c.in_default-join_at.ensures.value (omega arith)

pub level_at-level-requires : goal.level_at-level-requires
level_at-level-requires c =
    let g = c.args.show.now.loaded in
    let pre = c.requires in
    let row = uses-use g pre.0.block pre.1 in (
      omega (arith, pre.0.levels.long, row.lower, row.block, (loaded-show g).blocks, c.used-k.ensures.0),
      omega (arith, c.in-Some.ensures.some, c.joins-joins.ensures.1),
      omega (arith, c.in-Some-join_at.ensures.some, c.joins-joins.ensures.1),
    )

pub returns-then-beats : goal.returns-then-beats
returns-then-beats c =
    let g = c.args.show.now.loaded in
    let pre = c.requires in
    tried_better g _ pre.0 _ pre.1 _ pre.2 _ _ _ _ _ c.used-k.ensures.0 c.joins-joins.ensures.0 c.in-Some.ensures.value
    c.in-Some-join_at.ensures.value c.in-Some.ensures.some c.in-Some-join_at.ensures.some c.level_at-level.ensures _ c.beats.ensures c.if-beats.true

pub returns : goal.returns
returns c =
    let g = c.args.show.now.loaded in
    let pre = c.requires in
    tried_worse g _ pre.0 _ pre.1 _ pre.2 _ _ _ _ _ c.used-k.ensures.0 c.joins-joins.ensures.0 c.in-Some.ensures.value
    c.in-Some-join_at.ensures.value c.in-Some.ensures.some c.in-Some-join_at.ensures.some c.level_at-level.ensures _ c.beats.ensures c.if-beats.false
