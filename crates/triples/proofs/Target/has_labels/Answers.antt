-- `has_labels`: a page of one stays empty where there is none.
use borrow.Author.Rules.{rules}
use Rattle.triples.proofs.Marking.{says_none}
use Rattle.triples.proofs.Target.has_labels.Goals as goal

pub list_labels-listed-requires : goal.list_labels-listed-requires
list_labels-listed-requires c = c.requires.found

pub returns : goal.returns
returns c = says_none _ _ _ _ (search rules) c.list_labels-listed.ensures
