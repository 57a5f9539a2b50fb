-- `give`: the page takes a cue while there is room.
use borrow.Author.Rules.{rules}
use Rattle.lists.proofs.Filled.{gives-room, gives-late}
use Rattle.lists.proofs.give.Goals as goal

pub returns-then-w-room : goal.returns-then-w-room
returns-then-w-room c = search (gives-room, rules)

pub returns : goal.returns
returns c = search (gives-late, rules)
