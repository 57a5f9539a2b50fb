-- The file is the line of names and the lines of rows.
use borrow.Author.Rules.{rules}
use Rattle.codec.proofs.RowStores.{names-room, behind-names, file-room, file-written}
use Rattle.codec.proofs.emit.Goals as goal

pub put_names-at-requires : goal.put_names-at-requires
put_names-at-requires c = search (names-room, rules)

pub slice_bounds-put_lines-count : goal.slice_bounds-put_lines-count
slice_bounds-put_lines-count c = search (behind-names, rules)

pub slice_bounds-put_lines-start : goal.slice_bounds-put_lines-start
slice_bounds-put_lines-start c = search (behind-names, rules)

pub put_lines-requires : goal.put_lines-requires
put_lines-requires c = search (file-room, rules)

pub returns : goal.returns
returns c = search (file-written, rules)
