-- `size_of`: the total of the block that the row names.
use mathlib.Core.Path.{◌∙◌, ap}
use Rattle.model.specs.Blocks.{total}
use Rattle.blocks.proofs.Loaded.{used_block}
use Rattle.blocks.proofs.Show.size_of.Goals as goal

pub total-requires : goal.total-requires
total-requires c = used_block _ c.requires c.used.ensures.0

pub returns : goal.returns
returns c = c.total.ensures.0 ∙ ap (total _) c.used.ensures.0
