-- A link's row is eleven numbers, put at row n.
use mathlib.Core.List.{flat_map}
use borrow.Author.Rules.{rules}
use Rattle.model.specs.Rows.{row_values}
use Rattle.model.specs.Desk.{plain_link}
use Rattle.plain_runs.proofs.put_link.Goals as goal

pub returns : goal.returns
unfolding flat_map row_values plain_link
returns c = search rules
