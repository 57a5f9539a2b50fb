-- `number_copy` and `number_uses` call each other, and the block number falls from a copy to the next.
use native.Mathlib.Omega.{arith}
use Prim.Native.Nat.{ℕ}
use mathlib.Core.List.{List}
use Rattle.blocks.specs.Loaded.{UseRows}
use Rattle.blocks.proofs.Loaded.{used_block}
use Rattle.paths.specs.Locating.{uses_of, cues_of}
use Rattle.paths.specs.Numbering.{MayNumber}
use mathlib.Core.Path.{◌≡◌}
use Rattle.paths.proofs.Numbers.{own-fits, number-here, number-on, uses-asks, Into, number-no_use, into-row, summed_begin, summed_row, summed_fits, summed_on, step-lower, copy-asks, number_step}
use Rattle.paths.proofs.+number_copy_number_uses.Goals as goal

-- The step that is next, once it is read.
into : {xs t : List ℕ} {k base first end p q : ℕ} → MayNumber xs t k (cues_of xs (uses_of xs k)) base → UseRows xs t k first end → p ≡ q
    → Into xs t k base first end p q
into b r s = record { begun = b; rows = r; step = s }

pub number_copy-own-own-requires : goal.number_copy-own-own-requires
number_copy-own-own-requires t c = c.requires.block

pub number_copy-overflow_add-base : goal.number_copy-overflow_add-base
number_copy-overflow_add-base t c = omega (arith, own-fits c.requires _ c.own-own.ensures.0)

pub number_copy-number_uses-requires : goal.number_copy-number_uses-requires
number_copy-number_uses-requires t c = (omega (arith, c.decreases), uses-asks c.requires _ c.own-own.ensures.0)

pub number_copy-returns-in-Some-clause-value : goal.number_copy-returns-in-Some-clause-value
number_copy-returns-in-Some-clause-value t c = number-on c.requires _ c.own-own.ensures.0 _ _ _ _ _ c.in-Some.ensures.cases.0 c.number_uses.ensures.value

pub number_copy-own_number-requires : goal.number_copy-own_number-requires
number_copy-own_number-requires t c = own-fits c.requires _ c.own-own.ensures.0

pub number_copy-returns-in-None-clause-value : goal.number_copy-returns-in-None-clause-value
number_copy-returns-in-None-clause-value t c = number-here c.requires _ c.own-own.ensures.0 _ _ _ c.in-None.ensures.cases c.own_number.ensures.value

pub number_uses-use_rows-uses-requires : goal.number_uses-use_rows-uses-requires
number_uses-use_rows-uses-requires t c = c.requires.block

pub number_uses-returns-then-p-lt1-clause-value : goal.number_uses-returns-then-p-lt1-clause-value
number_uses-returns-then-p-lt1-clause-value t c = number-no_use (into c.requires c.use_rows-uses.ensures c.wide-p.ensures.0) _ _ (λ l. omega arith)

pub number_uses-overflow_sub-end : goal.number_uses-overflow_sub-end
number_uses-overflow_sub-end t c = c.use_rows-uses.ensures.order

pub number_uses-returns-then-end-first-clause-value : goal.number_uses-returns-then-end-first-clause-value
number_uses-returns-then-end-first-clause-value t c = number-no_use (into c.requires c.use_rows-uses.ensures c.wide-p.ensures.0) _ _ (λ l. omega arith)

pub number_uses-overflow_add-at : goal.number_uses-overflow_add-at
number_uses-overflow_add-at t c = omega (arith, c.use_rows-uses.ensures.few)

pub number_uses-loop-r-init : goal.number_uses-loop-r-init
number_uses-loop-r-init t c =
    let i = into c.requires c.use_rows-uses.ensures c.wide-p.ensures.0 in
    record { into = i; low = omega arith; high = omega arith; summed = summed_begin i _ _ }

pub number_uses-used-requires : goal.number_uses-used-requires
number_uses-used-requires t c = let s = c.loop-r.invariant in (summed_row s.into s.low s.high s.summed c.loop-r-test.true).there

pub number_uses-total-b-requires : goal.number_uses-total-b-requires
number_uses-total-b-requires t c =
    let s = c.loop-r.invariant in
    used_block _ (summed_row s.into s.low s.high s.summed c.loop-r-test.true) c.used.ensures.0

pub number_uses-overflow_add-b : goal.number_uses-overflow_add-b
number_uses-overflow_add-b t c =
    let s = c.loop-r.invariant in
    omega (arith, summed_fits s.into s.low s.high s.summed _ _ c.used.ensures.0 c.total-b.ensures.0 c.loop-r-test.true)

pub number_uses-loop-r-preserved : goal.number_uses-loop-r-preserved
number_uses-loop-r-preserved t c =
    let s = c.loop-r.invariant in
    record {
      into = s.into;
      low = s.low;
      high = s.high;
      summed = summed_on s.into s.low s.high s.summed _ _ c.used.ensures.0 c.total-b.ensures.0 c.loop-r-test.true;
    }

pub number_uses-used-requires-2 : goal.number_uses-used-requires-2
number_uses-used-requires-2 t c = let s = c.loop-r.invariant in (into-row s.into s.low s.high).there

pub number_uses-number_copy-requires : goal.number_uses-number_copy-requires
number_uses-number_copy-requires t c =
    let s = c.loop-r.invariant in (
      omega (arith, c.decreases, step-lower s.into s.low s.high s.summed _ c.used-2.ensures.0 (omega arith)),
      copy-asks s.into s.low s.high s.summed _ c.used-2.ensures.0 (omega arith),
    )

pub number_uses-returns-clause-value : goal.number_uses-returns-clause-value
number_uses-returns-clause-value t c =
    let s = c.loop-r.invariant in
    number_step s.into s.low s.high s.summed _ c.used-2.ensures.0 (omega arith) _ _ _ c.number_copy.ensures.value
