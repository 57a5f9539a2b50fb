-- `number`: the show is a copy of the last block after 0, and no path that has a number is too long.
use Rattle.paths.proofs.Numbers.{show_asks, show_number_lem}
use Rattle.paths.proofs.number.Goals as goal

pub number_copy-requires : goal.number_copy-requires
number_copy-requires c = let last = c.last-last.ensures in show_asks c.args.show.now.loaded _ last.0 last.1

pub returns-clause-value : goal.returns-clause-value
returns-clause-value c = show_number_lem c.args.show.now.loaded _ c.last-last.ensures.0 _ _ _ c.number_copy.ensures.value
