-- `distance::summarise_blocks` meets its contract. The invariant: the summaries of the blocks passed stand in the work area, and behind them what was there.
use Rattle.std.proofs.Common.{rules, arith}
use Rattle.searches.proofs.Parts.{blocks-few}
use Rattle.distance.proofs.Area.{area-begin, area_on, area-lower}
use Rattle.distance.proofs.summarise_blocks.Goals as goal

pub loop-k-init : goal.loop-k-init
loop-k-init c = search (area-begin, rules)

pub summarise_block-requires : goal.summarise_block-requires
summarise_block-requires c = (search rules, omega (arith, blocks-few), search (area-lower, rules))

pub loop-k-preserved : goal.loop-k-preserved
loop-k-preserved c = search (area_on, rules)
