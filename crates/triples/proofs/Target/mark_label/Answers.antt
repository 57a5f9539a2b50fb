-- `Target::mark_label`: the page has room for all cues of a show.
use borrow.Author.Rules.{rules}
use Rattle.triples.proofs.Marking.{page-within, label-done}
use Rattle.triples.proofs.Target.mark_label.Goals as goal

pub list_labels-listed-requires : goal.list_labels-listed-requires
list_labels-listed-requires c = c.requires.0.found

pub mark_cues-requires : goal.mark_cues-requires
mark_cues-requires c =
    (search rules, page-within _ _ _ c.requires.0.few _ _ _ c.list_labels-listed.ensures (search rules) _ c.wide.ensures.0)

pub returns : goal.returns
returns c =
    let pre = c.requires in
    label-done _ _ _ pre.0.few _ _ _ c.list_labels-listed.ensures (search rules) _ c.wide.ensures.0 _ _ _ c.mark_cues.ensures c.wide-2.ensures.0
    pre.1 pre.2 pre.3
