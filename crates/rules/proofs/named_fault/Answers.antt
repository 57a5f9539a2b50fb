-- `rules::named_fault` meets its contract: what each test finds of the columns.
use Rattle.rules.proofs.Tests.{columns-eight, part-long, named_out, named_idle, named_twice, named_fine}
use Rattle.rules.proofs.named_fault.Goals as goal

pub slice_bounds-named-end : goal.slice_bounds-named-end
slice_bounds-named-end c = part-long _ _ _ 0 _ c.columns-columns.ensures c.requires

pub returns-then-not-every_cue : goal.returns-then-not-every_cue
returns-then-not-every_cue c = named_out _ _ _ _ _ c.columns-columns.ensures c.requires _ c.every_cue.ensures c.if-not-every_cue.true

pub every_zero-requires : goal.every_zero-requires
every_zero-requires c = columns-eight _ _ _ 0 _ c.columns-columns.ensures c.requires

pub returns-then-not-every_zero : goal.returns-then-not-every_zero
returns-then-not-every_zero c =
    named_idle _ _ _ _ _ c.columns-columns.ensures c.requires _ c.every_cue.ensures c.if-not-every_cue.false _ c.every_zero.ensures c.if-not-every_zero.true

pub returns-then-not-all_distinct : goal.returns-then-not-all_distinct
returns-then-not-all_distinct c =
    named_twice _ _ _ _ _ c.columns-columns.ensures c.requires _ c.every_cue.ensures c.if-not-every_cue.false _ c.every_zero.ensures c.if-not-every_zero.false
    _ c.all_distinct.ensures c.if-not-all_distinct.true

pub returns : goal.returns
returns c =
    named_fine _ _ _ _ _ c.columns-columns.ensures c.requires _ c.every_cue.ensures c.if-not-every_cue.false _ c.every_zero.ensures c.if-not-every_zero.false
    _ c.all_distinct.ensures c.if-not-all_distinct.false
