-- `rules::use_order` meets its contract: each return is a branch of the definition.
use Rattle.std.proofs.Common.{rules, refl}
use Rattle.basics.proofs.Choices.{eq_no, eq_yes, true_no, true_yes}
use Rattle.rules.specs.Faults.{use_order}
use Rattle.rules.proofs.Tests.{wholes-alike, key-whole}
use Rattle.rules.proofs.use_order.Goals as goal

pub is_below-requires : goal.is_below-requires
is_below-requires c = wholes-alike _ _ _ _ _ c.columns.ensures c.columns_before.ensures

pub returns-then-before : goal.returns-then-before
unfolding use_order
returns-then-before c = eq_no _ _ _ _ _ (search rules) refl

pub returns-then-is_below : goal.returns-then-is_below
unfolding use_order
returns-then-is_below c =
    eq_yes _ _ _ _ _ (search rules)
    (true_yes _ _ _ _ _ (key-whole _ _ _ _ _ c.columns.ensures c.columns_before.ensures _ _ _ c.is_below.ensures (search rules) (search rules)) c.if-is_below.true refl)

pub returns : goal.returns
unfolding use_order
returns c =
    eq_yes _ _ _ _ _ (search rules)
    (true_no _ _ _ _ _ (key-whole _ _ _ _ _ c.columns.ensures c.columns_before.ensures _ _ _ c.is_below.ensures (search rules) (search rules)) c.if-is_below.false refl)
