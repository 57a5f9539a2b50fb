-- `distance::summarise` meets its contract.
use Rattle.std.proofs.Common.{rules}
use Rattle.distance.proofs.Area.{last-count, area-all}
use Rattle.distance.proofs.summarise.Goals as goal

pub summarise_blocks-requires : goal.summarise_blocks-requires
summarise_blocks-requires c = (search (last-count, rules), search rules)

pub returns : goal.returns
returns c = area-all c.args.show.now.loaded _ _ _ _ c.last-blocks.ensures.0 c.summarise_blocks.ensures (c.fill.ensures.after (λ y e. e)) c.requires
