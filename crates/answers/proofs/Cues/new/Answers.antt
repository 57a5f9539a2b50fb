-- `new`: two cues that are known are cues of the show.
use mathlib.Core.Path.{refl, sym, ◌∙◌, ap}
use Rattle.answers.specs.Asked.{are_cues}
use Rattle.answers.proofs.Outcomes.{cues-yes}
use Rattle.answers.proofs.Cues.new.Goals as goal

pub returns-then-not-known : goal.returns-then-not-known
returns-then-not-known c =
    ap (λ n. are_cues n c.args.s c.args.t) (sym c.count.ensures) ∙ sym c.are_cues-known.ensures ∙ c.if-not-known.true

pub invariant_of-result : goal.invariant_of-result
invariant_of-result c = record { known = cues-yes _ _ _ _ _ c.are_cues-known.ensures c.count.ensures c.if-not-known.false }

pub returns : goal.returns
returns c =
    (refl, refl, refl, ap (λ n. are_cues n c.args.s c.args.t) (sym c.count.ensures) ∙ sym c.are_cues-known.ensures ∙ c.if-not-known.false)
