-- `relax::relax_many` meets its contract.
use Rattle.std.proofs.Common.{arith, refl, ◌≡◌, length, take, ◌∙◌}
use lib.ListN.{replicate}
use lib.Seq.{length-take-le}
use Rattle.searches.proofs.Starts.{meets-fewer, met_front, gathered_front}
use Rattle.searches.proofs.Lines.{round_even, round_alike, round_met}
use Rattle.estimates.proofs.Numbers.{count, same, lent, returned}
use Rattle.relax.proofs.relax_many.Goals as goal

pub returns-then-not-gather : goal.returns-then-not-gather
returns-then-not-gather g c =
    let size = length-take-le c.args.m (replicate 8 c.NONE-old.result) c.requires.0.few in
    round_even _ _ (rw size at c.gather.ensures.0) (rw size at c.gather.ensures.1) c.if-not-gather.true

pub returns-then-not-differ : goal.returns-then-not-differ
returns-then-not-differ g c =
    let m = g.met.N.Number in
    let none = replicate 8 c.NONE-old.result in
    let few = c.requires.0.few in
    let size = length-take-le c.args.m none few in
    let in_part = rw (size, lent m.each c.args.m 0 none, same m.each 8 c.NONE-old.result, c.NONE-old.ensures, m.none) at c.gather.ensures.0 in
    let got = gathered_front c.args.m (replicate 8 g.N.Number.inf) _ in_part (count m.each _ ∙ c.gather.auto.e ∙ size) few in
    let whole = returned m.each 0 c.args.m none c.gather.new.e in
    let lines = rw (whole, same m.each 8 c.NONE-old.result, c.NONE-old.ensures, m.none) at c.lower_lines.ensures in
    let like = rw (whole, same m.each 8 c.NONE-old.result, c.NONE-old.ensures, m.none) at c.differ.ensures in
    round_alike lines got c.requires.0 (omega arith) _ like c.if-not-differ.true

pub put_met-requires : goal.put_met-requires
put_met-requires g c =
    let long : length (take c.args.m c.lower_lines.new.e) ≡ c.args.m = omega arith in meets-fewer _ c.requires.0 (omega arith) refl

pub returns : goal.returns
returns g c =
    let m = g.met.N.Number in
    let none = replicate 8 c.NONE-old.result in
    let few = c.requires.0.few in
    let size = length-take-le c.args.m none few in
    let in_part = rw (size, lent m.each c.args.m 0 none, same m.each 8 c.NONE-old.result, c.NONE-old.ensures, m.none) at c.gather.ensures.0 in
    let got = gathered_front c.args.m (replicate 8 g.N.Number.inf) _ in_part (count m.each _ ∙ c.gather.auto.e ∙ size) few in
    let lines = rw (returned m.each 0 c.args.m none c.gather.new.e, same m.each 8 c.NONE-old.result, c.NONE-old.ensures, m.none) at c.lower_lines.ensures in
    let long : length (take c.args.m c.lower_lines.new.e) ≡ c.args.m = omega arith in
    let met = rw (lent m.each c.args.m 0 c.lower_lines.new.e, long) at c.put_met.ensures.0 in
    round_met lines got c.requires.0 (omega arith) (met_front _ _ _ _ met) c.put_met.ensures.1
