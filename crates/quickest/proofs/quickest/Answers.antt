-- `quickest::quickest` meets its contract.
use Rattle.std.proofs.Common.{rules}
use Rattle.quickest.proofs.Sums.{area-lent, area-cleared}
use Rattle.quickest.proofs.quickest.Goals as goal

pub search_in-requires : goal.search_in-requires
search_in-requires c = (search rules, search rules, search (area-lent, rules))

pub returns : goal.returns
returns c = (search rules, search (area-cleared, rules))
