-- `answers::read_in`: the sizes of a loaded show are small.
use borrow.Author.Rules.{rules}
use native.Mathlib.Omega.{arith}
use Rattle.blocks.proofs.Loaded.{loaded-show}
use Rattle.answers.proofs.Answering.{read-room, read_done, rows_few}
use Rattle.answers.proofs.read_in.Goals as goal

pub returns-then-rows-show : goal.returns-then-rows-show
returns-then-rows-show c = search (read-room, rules)

pub overflow_cast-many : goal.overflow_cast-many
overflow_cast-many c = omega (arith, rows_few _ c.args.show.now.loaded.accepted)

pub overflow_add-blocks : goal.overflow_add-blocks
overflow_add-blocks c = omega (arith, c.last.ensures.1, (loaded-show c.args.show.now.loaded).blocks)

pub overflow_cast-blocks : goal.overflow_cast-blocks
overflow_cast-blocks c =
    omega (arith, c.last.ensures.1, (loaded-show c.args.show.now.loaded).blocks)

pub returns : goal.returns
returns c = search (read_done, rules)
