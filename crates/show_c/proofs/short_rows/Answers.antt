-- `show_c::short_rows` meets its contract.
use borrow.Author.Rules.{rules}
use Rattle.show_c.proofs.Telling.{count-short, no_count_short}
use Rattle.show_c.proofs.short_rows.Goals as goal

pub returns-in-Ok : goal.returns-in-Ok
returns-in-Ok c = search (count-short, rules)

pub returns-in-Err : goal.returns-in-Err
returns-in-Err c = search (no_count_short, rules)
