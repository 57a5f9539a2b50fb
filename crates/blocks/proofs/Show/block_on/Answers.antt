-- `block_on`: the show, or the block that the row before the level names.
use borrow.Author.Rules.{rules}
use mathlib.Core.Path.{refl}
use Rattle.blocks.proofs.Places.{level-first, level-row, level-next}
use Rattle.blocks.proofs.Show.block_on.Goals as goal

pub returns-then-l-eq0 : goal.returns-then-l-eq0
returns-then-l-eq0 c = (level-first _ _ _ _ (search rules) c.last.ensures.0, c.last.ensures.1)

pub used-requires : goal.used-requires
used-requires c = level-row _ _ _ c.requires (search rules) _ _ refl c.wide.ensures.0

pub returns : goal.returns
returns c = level-next _ _ _ c.requires (search rules) _ _ _ refl c.wide.ensures.0 c.used.ensures.0
