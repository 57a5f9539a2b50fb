-- A row's line is stored value by value. The loop's invariant: what is left of it from the next value on.
use Rattle.codec.specs.Writing.{row_text}
use Rattle.codec.proofs.RowStores.{row_left}
use Rattle.codec.proofs.Spills.{Spilled}
use Rattle.codec.proofs.put_row.Given as goal

abbrev pub invariant-loop-v : goal.invariant-loop-v
invariant-loop-v l = Spilled (row_text l.row 0) (row_left l.row l.v-index) l.initial.out 0 l.at l.out
