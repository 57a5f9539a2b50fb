-- `distance::row_from` meets its contract.
use Rattle.std.proofs.Common.{arith, ℕ, ◌+◌, ◌-◌, ◌*◌, ◌≤◌, length, sym, ap, ◌∙◌, take, drop}
use Rattle.model.specs.Limits.{summary_size}
use Rattle.searches.proofs.Parts.{part_size}
use Rattle.searches.proofs.Joins.{row_lent}
use Rattle.estimates.proofs.Numbers.{count, lent, returned}
use Rattle.distance.proofs.Area.{row-found}
use Rattle.distance.proofs.row_from.Goals as goal

pub returns : goal.returns
returns g c =
    let m = g.met.N.Number.each in
    let work = c.args.work.now in
    let a : ℕ = summary_size * c.args.k in
    let n : ℕ = a + summary_size - a in
    let long : a + summary_size ≤ length (g.N.Number.values work) = omega (arith, count m work) in
    let same = count m c.keep_row.new.v ∙ c.keep_row.auto.v ∙ sym (count m (take n (drop a work))) ∙ ap length (lent m n a work) in
    let d = c.from_cue.new.d in
    let kept = rw (lent m n a work, lent m _ _ d, part_size d (c.wide-first.result + 1) c.joins-m.result (omega arith)) at c.keep_row.ensures in
    rw (← (returned m a n work c.keep_row.new.v)) at
    (row-found long c.own.ensures.0 c.wide-first.ensures.0 c.joins-m.ensures.0 c.from_cue.ensures (row_lent _ _ _ kept) same)
