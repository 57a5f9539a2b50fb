-- `Pair::best_use`: the loop tries one use more each turn.
use Rattle.behind.proofs.Leading.{lead-begin, lead-on, lead-done}
use Rattle.behind.proofs.Pair.best_use.Goals as goal

pub loop-r-init : goal.loop-r-init
loop-r-init c = lead-begin c.args.show.now.loaded _ c.use_rows-rows.ensures

pub loop-r-preserved : goal.loop-r-preserved
loop-r-preserved c =
    lead-on c.args.show.now.loaded _ c.use_rows-rows.ensures _ _ _ c.loop-r.invariant c.loop-r.auto.r c.loop-r-test.true c.try_use-lead.ensures

pub returns : goal.returns
returns c = lead-done c.args.show.now.loaded _ c.use_rows-rows.ensures _ _ c.loop-r.invariant c.loop-r-test.false
