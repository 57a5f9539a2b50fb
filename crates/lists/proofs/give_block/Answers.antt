-- `give_block`: the own cues by the bits of the record.
use borrow.Author.Rules.{rules}
use Rattle.lists.proofs.Walks.{own-fits, walked-own}
use Rattle.lists.proofs.give_block.Goals as goal

pub give_own-requires : goal.give_own-requires
give_own-requires c = search (own-fits, rules) fits 20000

pub returns : goal.returns
returns c = search (walked-own, rules) fits 20000
