-- The length of a file, value by value.
use borrow.Author.Rules.{rules}
use Rattle.codec.proofs.RowStores.{width_begin, width_turn, width_end}
use Rattle.codec.proofs.measure.Goals as goal

pub loop-v-init : goal.loop-v-init
loop-v-init c = (search rules, search (width_begin, rules))

pub loop-v-preserved : goal.loop-v-preserved
loop-v-preserved c = (search rules, search (width_turn, rules))

pub returns : goal.returns
returns c = search (width_end, rules)
