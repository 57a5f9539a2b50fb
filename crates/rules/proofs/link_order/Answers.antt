-- `rules::link_order` meets its contract: each return is a branch of the definition.
use native.Mathlib.Omega.{arith}
use Rattle.std.proofs.Common.{rules, refl}
use Rattle.basics.proofs.Choices.{eq_no, eq_yes, true_no, true_yes}
use Rattle.rules.specs.Faults.{link_order}
use Rattle.rules.proofs.Tests.{part-long, parts-alike, key-part}
use Rattle.rules.proofs.link_order.Goals as goal

pub slice_bounds-is_below-end : goal.slice_bounds-is_below-end
slice_bounds-is_below-end c = part-long _ _ 2 0 _ c.columns_before.ensures (omega arith)

pub slice_bounds-is_below-end-2 : goal.slice_bounds-is_below-end-2
slice_bounds-is_below-end-2 c = part-long _ _ 2 0 _ c.columns.ensures (omega arith)

pub is_below-requires : goal.is_below-requires
is_below-requires c = parts-alike _ _ _ 2 _ _ c.columns_before.ensures c.columns.ensures (omega arith)

pub returns-then-before : goal.returns-then-before
unfolding link_order
returns-then-before c = eq_no _ _ _ _ _ (search rules) refl

pub returns-then-not-is_below : goal.returns-then-not-is_below
unfolding link_order
returns-then-not-is_below c =
    eq_yes _ _ _ _ _ (search rules)
    (true_no _ _ _ _ _ (key-part _ _ _ _ _ c.columns_before.ensures c.columns.ensures _ _ _ 2 (omega arith) c.is_below.ensures c.label_before.ensures c.label.ensures) c.if-not-is_below.true refl)

pub returns : goal.returns
unfolding link_order
returns c =
    eq_yes _ _ _ _ _ (search rules)
    (true_yes _ _ _ _ _ (key-part _ _ _ _ _ c.columns_before.ensures c.columns.ensures _ _ _ 2 (omega arith) c.is_below.ensures c.label_before.ensures c.label.ensures) c.if-not-is_below.false refl)
