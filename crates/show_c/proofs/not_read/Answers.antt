-- `show_c::not_read` meets its contract: there is no answer, so its number is that of the refusal.
use borrow.Author.Rules.{rules}
use Rattle.show_c.proofs.Telling.{never_answered, not-read_is}
use Rattle.show_c.proofs.not_read.Goals as goal

pub returns-in-Ok : goal.returns-in-Ok
returns-in-Ok c = search (never_answered, rules)

pub returns-in-Err : goal.returns-in-Err
returns-in-Err c = search (not-read_is, rules)
