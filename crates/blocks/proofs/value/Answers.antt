-- `value`: a row's values stand at eleven times its number and on.
use borrow.Author.Rules.{rules}
use Rattle.model.specs.Rows.{cell, row_count}
use Rattle.blocks.proofs.value.Goals as goal

pub overflow_mul-result : goal.overflow_mul-result
unfolding row_count cell
overflow_mul-result c = search rules

pub overflow_add-result : goal.overflow_add-result
unfolding row_count cell
overflow_add-result c = search rules

pub offset_bounds-rows-r : goal.offset_bounds-rows-r
unfolding row_count cell
offset_bounds-rows-r c = search rules

pub bounds-rows-r : goal.bounds-rows-r
unfolding row_count cell
bounds-rows-r c = search rules

pub returns : goal.returns
unfolding row_count cell
returns c = search rules
