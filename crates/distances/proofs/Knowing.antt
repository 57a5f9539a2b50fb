-- Tables of the least weights between joins, block by block, whatever links weigh: such a table is exact, and the estimates from the joins of a block
-- are its numbers for that block.
use Prim.Native.Nat.{ℕ, suc, ◌+◌, ◌*◌, ◌-◌, ◌≤◌, ◌<◌}
use native.Mathlib.Omega.{arith}
use native.Mathlib.Decide.{dec_lt, ℕ_discrete}
use mathlib.Core.Path.{◌≡◌, refl, ◌∙◌, ap}
use mathlib.Core.List.{List}
use lib.ListN.{get_or}
use Rattle.model.specs.Blocks.{Block, joins_of, total, block_at}
use Rattle.model.specs.Lists.{range}
use Rattle.model.specs.Summaries.{block_links}
use Rattle.basics.proofs.Members.{range_at}
use Rattle.shows.specs.WellFormed.{Cue, Good}
use Rattle.shows.specs.Copies.{number}
use Rattle.shows.proofs.Ranges.{cue_at-join}
use Rattle.shows.proofs.BlockAt.{joins_of-at, lower-at}
use Rattle.shows.proofs.Locality.{alone_copy, alone_sound, alone_links_at}
use Rattle.distances.specs.Walks.{Price}
use Rattle.distances.specs.Tells.{Join, Local, InTable, JoinWalk, ExactTable, Tells, Knows}
use Rattle.distances.proofs.Fewest.{block-ends}
use Rattle.distances.proofs.Closure.{Estimates, At, at_told, told_none}

module _ (bs : List Block) (good : Good bs) where
  -- The number of join i of block k alone.
  alone_number : (k i : ℕ) → Join bs k i → number (alone_copy bs k) ((block_at bs k).own + i) ≡ total bs k + i
  alone_number k i h =
      let e : (block_at bs k).own + i - (block_at bs k).own - 1 ≡ i - 1 = omega arith in
      omega (
        arith,
        cue_at-join (block_at bs k).own 0 (range (suc (total bs k)) (joins_of bs k)) ((block_at bs k).own + i) (omega arith)
            ∙ ap (λ (n : ℕ). get_or (range (suc (total bs k)) (joins_of bs k)) n 0) e,
        range_at (suc (total bs k)) (joins_of bs k) (i - 1) (omega arith),
      )

  -- Estimates over block k, begun with 0 at join i, by an exact table of the lower blocks, tell the least weights from join i, whatever links weigh.
  pub estimates-tells : {price : Price} {inf : ℕ} {table : ℕ → ℕ → ℕ → ℕ → Type 0} (k i j : ℕ) {d : ℕ → ℕ} → ExactTable price bs k table
      → Estimates (Local price table bs (block_at bs k)) (Cue (block_at bs k)) inf (At ((block_at bs k).own + i)) d → Join bs k i → Join bs k j
      → Tells price (block_links bs k) inf (total bs k + i) (total bs k + j) (d ((block_at bs k).own + j))
  estimates-tells {price} {inf} {table} k i j exact estimates hi hj =
      rw (alone_number k i hi, alone_number k j hj, ← alone_links_at bs good k) at
      (at_told price (alone_sound bs good k) k (lower-at bs good k) table exact inf ((block_at bs k).own + i) (cue i hi) estimates
      ((block_at bs k).own + j) (cue j hj))
    where
      cue : (n : ℕ) → Join bs k n → Cue (block_at bs k) ((block_at bs k).own + n)
      cue n h = omega (arith, h, joins_of-at bs k)

  -- An exact table tells the least weights, whatever links weigh.
  pub exact-knows : {price : Price} {inf : ℕ} {tab : ℕ → ℕ → ℕ → ℕ} {limit : ℕ} → ExactTable price bs limit (InTable inf tab)
      → Knows price inf bs tab limit
  exact-knows exact k i j h hi hj =
      record {
        reached = λ l. exact.sound k i j _ h hi hj (refl, l);
        least = λ n w. (let (x, e, l) = exact.covers k i j n h hi hj w in omega (arith, e.0, l));
      }

  -- Where links weigh at most most, and no walk that repeats no cue comes to inf, a table that tells the least weights is exact.
  module _ (price : Price) (inf most : ℕ) (tab : ℕ → ℕ → ℕ → ℕ) (light : (label w : ℕ) → price label w → w ≤ most) where
    pub told-exact : (limit : ℕ) → ((k : ℕ) → k < limit → (total bs k + joins_of bs k - 1) * most < inf) → Knows price inf bs tab limit
        → ExactTable price bs limit (InTable inf tab)
    told-exact limit large knows =
        record {
          sound = λ k i j w h hi hj e. (rw e.0 at ((knows k i j h hi hj).reached (omega (arith, e))));
          covers = λ k i j w h hi hj r. covers k i j w h hi hj r (dec_lt (tab k i j) inf);
        }
      where
        covers : (k i j w : ℕ) → k < limit → Join bs k i → Join bs k j → JoinWalk price bs k i j w → Dec (tab k i j < inf)
            → (x : ℕ) × InTable inf tab k i j x × (x ≤ w)
        covers k i j w h hi hj r (yes l) = (tab k i j, (refl, l), (knows k i j h hi hj).least w r)
        covers k i j w h hi hj r (no l) =
            absurd (told_none {price = price} (total bs k + joins_of bs k) most (λ q n. (block-ends bs good k q n).0) (omega arith) (omega arith) light
            (large k h) (knows k i j h hi hj) (omega arith) w r)

    -- One block more: its numbers are estimates from each of its joins, by the numbers of the blocks below.
    pub knows_on : (k : ℕ) → ((m : ℕ) → m < k → (total bs m + joins_of bs m - 1) * most < inf) → Knows price inf bs tab k
        → ((i j : ℕ) → Join bs k i → Join bs k j → (d : ℕ → ℕ)
        × Estimates (Local price (InTable inf tab) bs (block_at bs k)) (Cue (block_at bs k)) inf (At ((block_at bs k).own + i)) d
        × (d ((block_at bs k).own + j) ≡ tab k i j)) → Knows price inf bs tab (suc k)
    knows_on k large knows made m i j h hi hj = go (ℕ_discrete m k)
      where
        at : (i j : ℕ) → Join bs k i → Join bs k j → Tells price (block_links bs k) inf (total bs k + i) (total bs k + j) (tab k i j)
        at i j hi hj =
            let (d, estimates, e) = made i j hi hj in
            rw e at (estimates-tells k i j (told-exact k large knows) estimates hi hj)

        go : Dec (m ≡ k) → Tells price (block_links bs m) inf (total bs m + i) (total bs m + j) (tab m i j)
        go (yes e) = rw e (at i j (rw e at hi) (rw e at hj))
        go (no n) = knows m i j (omega arith) hi hj
