-- The lines of rows are stored row by row. The loop's invariant: what is left of them is the lines of the rows that are left.
use mathlib.Core.Path.{◌≡◌}
use Rattle.model.specs.Limits.{row_size}
use Rattle.model.specs.Rows.{rows_of, row_lines}
use Rattle.codec.proofs.Stores.{Stored}
use Rattle.codec.proofs.put_lines.Given as goal

abbrev pub invariant-loop-row : goal.invariant-loop-row
invariant-loop-row l =
    record {
      size : l.row-iterator.size ≡ row_size;
      stored : Stored (row_lines (rows_of l.rows)) (row_lines (rows_of l.row-iterator.rest.now)) l.initial.out 0 l.at l.out;
    }
