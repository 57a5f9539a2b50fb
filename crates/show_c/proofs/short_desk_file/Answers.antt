-- `show_c::short_desk_file` meets its contract.
use borrow.Author.Rules.{rules}
use Rattle.show_c.proofs.Telling.{not-read_second, not-read_refused, not-read_code}
use Rattle.show_c.proofs.short_desk_file.Goals as goal

pub not_read-requires : goal.not_read-requires
not_read-requires c = search (not-read_refused, not-read_second, rules)

pub returns : goal.returns
returns c = search (not-read_code, not-read_second, rules)
