-- `meet`: the loop reads one column more each turn.
use borrow.Author.Rules.{rules}
use Rattle.copies.proofs.Copies.{meet_is_begin, meet_is_on, meet_is_done, columns_fit_at}
use Rattle.copies.proofs.meet.Goals as goal

pub loop-j-init : goal.loop-j-init
loop-j-init c = search (meet_is_begin, rules)

pub cue_number-y-requires : goal.cue_number-y-requires
cue_number-y-requires c = search (columns_fit_at, rules) fits 20000

pub loop-j-preserved : goal.loop-j-preserved
loop-j-preserved c = search (meet_is_on, rules) fits 20000

pub returns : goal.returns
returns c = search (meet_is_done, rules)
