-- `estimates::put_met` meets its contract. The invariant: the estimates of the cues passed are put in.
use Rattle.std.proofs.Common.{rules, arith}
use Rattle.searches.proofs.Starts.{met-begin, met-on}
use Rattle.searches.proofs.Lowering.{fell_begin, fell_on}
use Rattle.estimates.proofs.Numbers.{read}
use Rattle.estimates.proofs.put_met.Goals as goal

pub loop-i-init : goal.loop-i-init
loop-i-init g c = (met-begin _ _ _ _ _, fell_begin _)

pub loop-i-preserved : goal.loop-i-preserved
loop-i-preserved g c =
    let k = read g.met.N.Number.each c.args.kept.now _ c.index-kept-i.result c.index-kept-i.is (search rules) in
    (met-on _ _ _ _ _ c.loop-i.invariant.0 c.column.ensures c.wide.ensures.0 (rw k at c.put-fell.ensures.0) (omega arith), search (fell_on, rules))
