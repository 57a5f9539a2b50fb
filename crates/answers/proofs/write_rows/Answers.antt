-- `answers::write_rows`: the text is measured before it is written.
use borrow.Author.Rules.{rules}
use native.Mathlib.Omega.{arith}
use Rattle.answers.proofs.Answering.{rows_few, text-few, write-room, write_done}
use Rattle.answers.proofs.write_rows.Goals as goal

pub measure-size-requires : goal.measure-size-requires
measure-size-requires c = search (rows_few, rules)

pub returns-then-out-size : goal.returns-then-out-size
returns-then-out-size c = search (write-room, rules)

pub emit-requires : goal.emit-requires
emit-requires c =
    let few = rows_few _ c.requires in
    (few.0, few.1, omega (arith, c.measure-size.ensures))

pub overflow_cast-result : goal.overflow_cast-result
overflow_cast-result c =
    omega (arith, text-few _ _ c.requires c.measure-size.ensures)

pub returns : goal.returns
returns c = search (write_done, rules)
