-- A value and a comma are stored: four bytes of the table, or digit by digit.
use borrow.Author.Rules.{rules}
use Rattle.codec.proofs.Spills.{text_room, entry, four_room, size_room, size-digit, comma-room, value-comma, comma-short, puts-spill}
use Rattle.codec.proofs.put_comma.Goals as goal

pub slice_bounds-text-end : goal.slice_bounds-text-end
slice_bounds-text-end c = search (text_room, rules)

pub copy_four-requires : goal.copy_four-requires
copy_four-requires c = (search (four_room, entry, rules), search (comma-room, rules))

pub bounds-text-4 : goal.bounds-text-4
bounds-text-4 c = search (size_room, entry, rules)

pub overflow_sub-text : goal.overflow_sub-text
overflow_sub-text c = search (size-digit, entry, rules)

pub returns-then-v-lt-TABLE : goal.returns-then-v-lt-TABLE
returns-then-v-lt-TABLE c = search (comma-short, entry, rules)

pub put_value-requires : goal.put_value-requires
put_value-requires c = search (value-comma, rules)

pub returns : goal.returns
returns c = search (puts-spill, rules)
