-- `verdicts::put` meets its contract.
use borrow.Author.Rules.{rules}
use Rattle.basics.proofs.Choices.{ifs}
use Rattle.verdicts.specs.Passing.{put_at}
use Rattle.verdicts.proofs.put.Goals as goal

pub returns-then-i-lt-INDEX : goal.returns-then-i-lt-INDEX
unfolding put_at
returns-then-i-lt-INDEX c = search (ifs, rules) depth 14

pub returns-else-i-lt-INDEX : goal.returns-else-i-lt-INDEX
unfolding put_at
returns-else-i-lt-INDEX c = search (ifs, rules) depth 14
