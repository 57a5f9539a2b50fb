-- A wait file: its names, and the pass over the lines behind them.
use mathlib.Core.Path.{sym, ◌∙◌}
use borrow.Author.Rules.{rules}
use Rattle.model.specs.Waits.{wait_names}
use Rattle.waits.proofs.Passing.{pass_unnamed}
use Rattle.waits.proofs.read.Goals as goal

pub read_lines-requires : goal.read_lines-requires
unfolding wait_names
read_lines-requires c = (search rules, sym c.starts.ensures ∙ c.if-starts.true)

pub returns : goal.returns
unfolding wait_names
returns c = search (pass_unnamed, rules)
