-- `verdicts::many_of` meets its contract.
use mathlib.Core.Path.{refl}
use borrow.Author.Rules.{rules}
use Rattle.basics.proofs.Choices.{eq_no, eq_yes, ifs}
use Rattle.verdicts.specs.Passing.{many_of}
use Rattle.rules.proofs.Tests.{no_use, the_use}
use Rattle.verdicts.proofs.Steps.{many-none, many-some, lt-yes', lt-no'}
use Rattle.verdicts.proofs.many_of.Goals as goal

pub returns-then-ne : goal.returns-then-ne
unfolding many_of
returns-then-ne c = many-none _ (eq_no _ _ _ _ _ (no_use _ _ c.kind.ensures (search rules)) refl)

pub returns-then-label-blocks : goal.returns-then-label-blocks
unfolding many_of
returns-then-label-blocks c = many-none _ (eq_yes _ _ _ _ _ (the_use _ _ c.kind.ensures (search rules)) (search (ifs, rules)))

pub returns-then-j-gt-MAX_JOINS_64 : goal.returns-then-j-gt-MAX_JOINS_64
unfolding many_of
returns-then-j-gt-MAX_JOINS_64 c = many-none _ (eq_yes _ _ _ _ _ (the_use _ _ c.kind.ensures (search rules)) (search (ifs, lt-yes', rules)))

pub returns : goal.returns
unfolding many_of
returns c = many-some _ _ (eq_yes _ _ _ _ _ (the_use _ _ c.kind.ensures (search rules)) (search (ifs, lt-no', rules))) (search rules)
