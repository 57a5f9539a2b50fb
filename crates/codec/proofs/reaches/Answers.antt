-- 1 where a limit is reached.
use borrow.Author.Rules.{rules}
use Rattle.codec.proofs.DigitStores.{reach_value}
use Rattle.codec.proofs.reaches.Goals as goal

pub returns-clause-value : goal.returns-clause-value
returns-clause-value c = search (reach_value, rules)
