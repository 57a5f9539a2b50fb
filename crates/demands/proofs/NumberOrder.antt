-- Numbers rise in the order of cues: own cues first, then those of the uses in order.
use Prim.Native.Nat.{ℕ, zero, suc, ◌+◌, ◌-◌, ◌≤◌, ◌<◌}
use native.Mathlib.Omega.{arith}
use mathlib.Core.Path.{◌≡◌, sym, ◌∙◌}
use mathlib.Core.Logic.{◌≢◌}
use mathlib.Core.List.{List, [], ◌∷◌}
use lib.ListN.{length, take}
use Rattle.model.specs.Blocks.{Use, Block, sum_over, total, block_at}
use Rattle.model.specs.Paths.{number_in}
use Rattle.shows.specs.WellFormed.{Good}
use Rattle.shows.specs.Copies.{Copy, Part, copy_of, part_at, meets, nth_use, after, Steps, goes}
use Rattle.shows.specs.Numbering.{Named}
use Rattle.shows.proofs.Ranges.{cue_at-own}
use Rattle.shows.proofs.Trails.{number-after, steps-after}
use Rattle.shows.proofs.Numbering.{named}
use Rattle.demands.specs.Numbers.{Before, own-order, own_first, use_order_lem, same-use}

-- The cues of a use come before those of a later use. Here uses are counted from 0.
sum-from : (size : ℕ → ℕ) (us : List Use) (i j : ℕ) → i < j → j ≤ length us
    → sum_over size (take i us) + size (nth_use us (suc i)).block ≤ sum_over size (take j us)
unfolding nth_use sum_over
sum-from size [] i j x h = absurd (omega arith)
sum-from size (u ∷ us) i zero x h = absurd (omega arith)
sum-from size (u ∷ us) zero (suc j) x h = omega arith
sum-from size (u ∷ us) (suc i) (suc j) x h =
    let e : suc i - 1 ≡ i = omega arith in
    let f : suc (suc i) - 1 ≡ suc i = omega arith in
    rw f (omega (arith, rw e at (sum-from size us i j (omega arith) (omega arith))))

module _ (bs : List Block) (good : Good bs) where
  -- Where the copy of the p-th use of a copy of block k after base begins.
  starts : ℕ → ℕ → ℕ → ℕ
  starts k base p = base + (block_at bs k).own + sum_over (total bs) (take (p - 1) (block_at bs k).uses)

  -- A path and an own cue that have a number: an own cue of the copy itself,
  own-has : (k base c : ℕ) → number_in bs k base [] c ≢ 0 → (number_in bs k base [] c ≡ base + c) × (c ≤ (block_at bs k).own)
  unfolding after
  own-has k base c some =
      let (s, x, y) = steps-after bs good k base [] [] c some in
      (number-after bs good k base [] [] c s x y ∙ cue_at-own (block_at bs k).own base [] c y, y)

  -- or a cue of the copy of one of its uses.
  record Enters (k base p : ℕ) (path : List ℕ) (c : ℕ) : Type 0 where
    low : 1 ≤ p
    high : p ≤ length (block_at bs k).uses
    same : number_in bs k base (p ∷ path) c ≡ number_in bs (nth_use (block_at bs k).uses p).block (starts k base p) path c

  use_has : (k base p : ℕ) (path : List ℕ) (c : ℕ) → number_in bs k base (p ∷ path) c ≢ 0 → Enters k base p path c
  unfolding after starts
  use_has k base p path c some = go (steps-after bs good k base [] (p ∷ path) c some)
    where
      z : Copy
      z = copy_of bs k base []

      q : Part
      q = part_at z p

      go : Steps z (p ∷ path) × (1 ≤ c) × (c ≤ (after z (p ∷ path)).block.own) → Enters k base p path c
      go (goes a b s, x, y) =
          record {
            low = a;
            high = b;
            same = number-after bs good k base [] (p ∷ path) c (goes a b s) x y
                ∙ sym (number-after bs good q.of.block q.base (meets z q) path c s x y);
          }

  -- Every number of the copy of a use lies behind where the copy begins, and not behind where the next one does.
  use_range : (k base p : ℕ) (path : List ℕ) (c : ℕ) → number_in bs k base (p ∷ path) c ≢ 0
      → (starts k base p < number_in bs k base (p ∷ path) c)
      × (number_in bs k base (p ∷ path) c ≤ starts k base p + total bs (nth_use (block_at bs k).uses p).block)
  use_range k base p path c some =
      let e = use_has k base p path c some in
      let j : ℕ = (nth_use (block_at bs k).uses p).block in
      let r : Named bs j (starts k base p) path c (number_in bs k base (p ∷ path) c) =
      named bs j (starts k base p) path c _ (sym e.same) some in
      (r.low, r.high)

  -- Where a use begins after the cues of those before it.
  starts_on : (k base p q : ℕ) → 1 ≤ p → p < q → q ≤ length (block_at bs k).uses
      → starts k base p + total bs (nth_use (block_at bs k).uses p).block ≤ starts k base q
  unfolding starts
  starts_on k base zero q x y h = absurd (omega arith)
  starts_on k base (suc i) q x y h =
      let e : suc i - 1 ≡ i = omega arith in
      rw e (omega (arith, sum-from (total bs) (block_at bs k).uses i (q - 1) (omega arith) (omega arith)))

  -- Of two cues of a copy the one that comes before has the smaller number.
  pub number-order : (k base : ℕ) {path way : List ℕ} {c d : ℕ} → number_in bs k base path c ≢ 0 → number_in bs k base way d ≢ 0
      → Before path c way d → number_in bs k base path c < number_in bs k base way d
  unfolding starts
  number-order k base a b (own-order {c} {d} h) = omega (arith, own-has k base c a, own-has k base d b)
  number-order k base a b (own_first {c} {d} {p} {path}) = omega (arith, own-has k base c a, use_range k base p path d b)
  number-order k base a b (use_order_lem {c} {d} {p} {q} {path} {way} h) =
      let x = use_has k base p path c a in
      let y = use_has k base q way d b in
      omega (arith, use_range k base p path c a, use_range k base q way d b, starts_on k base p q x.low h y.high)
  number-order k base a b (same-use {c} {d} {p} {q} {path} {way} e o) =
      let b' : number_in bs k base (p ∷ way) d ≢ 0 = rw (← e) at b in
      let x = use_has k base p path c a in
      let y = use_has k base p way d b' in
      rw (← e, x.same, y.same)
      (number-order (nth_use (block_at bs k).uses p).block (starts k base p) (rw x.same at a) (rw y.same at b') o)
