-- The numbers are the table's, and their file fills the buffer.
use mathlib.Core.Path.{sym}
use borrow.Author.Rules.{rules}
use Rattle.shows.proofs.DeskTable.{desk_size}
use Rattle.plain_runs.proofs.TableFile.{table-room, table_fits, table-file}
use Rattle.plain_runs.proofs.generate.Goals as goal

pub put_runs-requires : goal.put_runs-requires
put_runs-requires c = sym desk_size

pub emit-requires : goal.emit-requires
emit-requires c = (search (table-room, rules), search rules, table_fits _ (search rules) _ (search rules))

pub returns : goal.returns
returns c = search (table-file, rules)
