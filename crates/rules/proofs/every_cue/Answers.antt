-- `rules::every_cue` meets its contract: the chain tests each number, as the rule does.
use Rattle.std.proofs.Common.{rules, tests, ◌∙◌}
use Rattle.std.proofs.lemmas.Iterator.{YieldsList-from_slice}
use Rattle.std.proofs.lemmas.Iterator.Search.{all_from_yields_List}
use Rattle.model.specs.Rules.{is_cue}
use Rattle.rules.proofs.Tests.{every-all, cue-low, cue-high, cue-yes}
use Rattle.rules.proofs.every_cue.Goals as goal

pub returns : goal.returns
returns c =
    all_from_yields_List (is_cue c.args.cues) _ _ _ c.all.ensures.ran (YieldsList-from_slice c.args.named.now cc) (λ x b q k. search (cue-low, cue-high, cue-yes, rules, tests))
    ∙ every-all _ _
