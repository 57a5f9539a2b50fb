-- The built-in table goes before the numbers behind its place: the constant is the definition's table, by computation.
use mathlib.Core.Path.{refl}
use mathlib.Core.List.{flat_map}
use Rattle.model.specs.Rows.{row_values}
use Rattle.model.specs.Lists.{range}
use Rattle.model.specs.Desk.{plain_opening, plain_link, plain_run, built_in, built_in_numbers}
use Rattle.desk.proofs.Rows.{table-put}
use Rattle.desk.proofs.put_before.Goals as goal

pub returns : goal.returns
unfolding built_in_numbers built_in flat_map range plain_run plain_opening plain_link row_values
returns c =
    table-put _ c.args.numbers.now _ refl c.copy.ensures
