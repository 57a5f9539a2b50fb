-- `loading::by_own_line` meets its contract: each return is a branch of the definition.
use borrow.Author.Rules.{rules}
use Rattle.std.specs.Prelude.{◌≡◌}
use Rattle.std.proofs.Common.{ap}
use native.Mathlib.Omega.{arith}
use Rattle.basics.proofs.Choices.{ifs}
use Rattle.model.specs.Verdicts.{refusal}
use Rattle.model.specs.Desk.{by_own_line}
use Rattle.loading.proofs.by_own_line.Goals as goal

pub overflow_sub-result : goal.overflow_sub-result
overflow_sub-result c =
    let place : c.refusal.inside.place ≡ c.args.refusal.place = ap (λ r. r.place) c.refusal.view_is in
    omega (arith, place, c.requires.1 (search rules))

pub returns-then-number-lt5 : goal.returns-then-number-lt5
unfolding by_own_line refusal
returns-then-number-lt5 c = search (ifs, rules) depth 14

pub returns : goal.returns
unfolding by_own_line refusal
returns c = search (ifs, rules) depth 14
