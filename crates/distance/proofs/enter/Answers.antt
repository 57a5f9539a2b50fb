-- `distance::enter` meets its contract.
use Rattle.std.proofs.Common.{arith, refl, ◌≡◌, ◌∙◌, ◌++◌, length, take, drop}
use lib.ListN.{replicate}
use lib.Seq.{length-take-le}
use Rattle.searches.proofs.Starts.{meets-fewer, gathered_front}
use Rattle.searches.proofs.Joins.{level-meets, joins_lent, entered_on}
use Rattle.estimates.proofs.Numbers.{count, lent, returned}
use Rattle.distance.proofs.enter.Goals as goal

pub gather-requires : goal.gather-requires
gather-requires g c =
    let meets = level-meets c.args.l c.args.show.now.loaded c.requires c.wide-r.ensures.0 c.used-k.ensures.0 c.joins-m.ensures.0 c.told-d in
    meets-fewer _ meets (omega arith) refl

pub returns : goal.returns
returns g c =
    let m = g.met.N.Number.each in
    let n = c.joins-m.result in
    let none = replicate 8 c.NONE-e.result in
    let size = length-take-le n none c.joins-m.ensures.1 in
    let in_part = rw (size, lent m n 0 none) at c.gather.ensures.0 in
    let got = gathered_front n (g.N.Number.values none) _ in_part (count m _ ∙ c.gather.auto.e ∙ size) (omega (arith, count m none)) in
    let e = c.gather.new.e ++ drop n none in
    let front : length (take n e) ≡ n = omega arith in
    let joins = rw (front, lent m n 0 e, returned m 0 n none c.gather.new.e, lent m _ _ c.clear.new.d) at c.put_joins.ensures in
    rw (returned m _ _ c.clear.new.d c.put_joins.new.d)
    (entered_on c.args.l c.requires got c.wide-r.ensures.0 c.used-k.ensures.0 c.joins-m.ensures.0 c.own.ensures.0 c.wide-own.ensures.0 c.clear.ensures
    (joins_lent _ n _ _ _ (omega (arith, count m c.put_joins.new.d)) (omega (arith, count m c.clear.new.d)) joins))
