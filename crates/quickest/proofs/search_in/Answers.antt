-- `quickest::search_in` meets its contract.
use Rattle.std.proofs.Common.{rules}
use Rattle.searches.proofs.Ways.{own_room}
use Rattle.quickest.proofs.Sums.{quickest-is, area-zeros}
use Rattle.quickest.proofs.search_in.Goals as goal

pub bounds-d-wide : goal.bounds-d-wide
bounds-d-wide c = search (own_room, rules)

pub returns : goal.returns
returns c = (
  rw c.wide.ensures.0 (quickest-is c.args.show.now.loaded c.args.prices.now.right c.requires.1 _ _ c.reach.ensures),
  area-zeros c.sum_blocks.new.work _ (c.fill.ensures.after (λ y e. e)) (search rules),
)
