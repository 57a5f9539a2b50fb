-- The summaries by relaxation: estimates over a block's links and the summaries of the lower blocks, begun at one join, end as the block's
-- own summaries; and estimates that tell the least lengths in a show are the fewest answers.
use Prim.Native.Nat.{ℕ, ◌+◌, ◌≤◌, ◌<◌}
use native.Mathlib.Omega.{arith}
use native.Mathlib.Decide.{dec_lt}
use mathlib.Core.Path.{◌≡◌, refl, ◌∙◌, ap}
use mathlib.Core.List.{List}
use Rattle.model.specs.Limits.{max_total, no_chain}
use Rattle.model.specs.Blocks.{Link, Block, joins_of, total, last_block, count, block_at}
use Rattle.model.specs.Unfolding.{show_links}
use Rattle.model.specs.Chains.{followed, fewest}
use Rattle.model.specs.Summaries.{block_links, or_none, summary}
use Rattle.shows.specs.WellFormed.{Cue, Good}
use Rattle.distances.specs.Demand.{Summarised}
use Rattle.distances.specs.Walks.{each-one}
use Rattle.distances.proofs.Chains.{chain-walk, walk_chain}
use Rattle.distances.proofs.Fewest.{Starts, fewest-shortest, show_ends, block-ends, summary-has, summary-right}
use Rattle.distances.specs.Tells.{Join, Local, Tells, InTable, ExactTable, distance}
use Rattle.distances.proofs.Closure.{Estimates, At}
use Rattle.distances.proofs.Lightest.{told-far, told-lost, least-only, shortest_lightest, told-lightest}
use Rattle.distances.proofs.Knowing.{told-exact, estimates-tells}

-- What an estimate says, as a number of the work area again.
pub distance_back : (x : ℕ) → x ≤ no_chain → or_none (distance x) ≡ x
unfolding or_none
distance_back x h = go (dec_lt x no_chain)
  where
    go : Dec (x < no_chain) → or_none (distance x) ≡ x
    go (yes l) = rw (told-far no_chain x l) refl
    go (no l) = rw (told-lost no_chain x (omega arith)) (omega arith)

-- An estimate that tells the least length says the fewest answer, where there are fewer cues than 4,294,967,296.
pub told-fewest : (E : List Link) (cues s t x : ℕ) → Starts E cues → 1 ≤ t → t ≤ cues → cues ≤ no_chain
    → Tells each-one E no_chain s t x → fewest E cues s t ≡ distance x
told-fewest E cues s t x starts low high few tells =
    least-only (fewest E cues s t) (distance x) (shortest_lightest (fewest-shortest E cues s t starts low high))
    (told-lightest each-one E s t no_chain x cues 1 starts low high (λ label w e. omega arith) (omega arith) tells)

module _ (bs : List Block) (good : Good bs) where
  -- In a show.
  pub told-show : joins_of bs (last_block bs) ≡ 0 → count bs ≤ max_total → (s t x : ℕ) → 1 ≤ t → t ≤ count bs
      → Tells each-one (show_links bs) no_chain s t x → fewest (show_links bs) (count bs) s t ≡ distance x
  told-show closed small s t x low high told =
      told-fewest (show_links bs) (count bs) s t x (λ l i. (show_ends bs good closed l i).0) low high (omega arith) told

  -- In a block alone, between its joins.
  pub told-summary : (k i j x : ℕ) → total bs k + joins_of bs k ≤ no_chain → Join bs k i → Join bs k j → x ≤ no_chain
      → Tells each-one (block_links bs k) no_chain (total bs k + i) (total bs k + j) x → summary bs k i j ≡ x
  told-summary k i j x small hi hj most told =
      summary-has fewest bs k i j hi.1 hj.1
      ∙ ap or_none
      (told-fewest (block_links bs k) (total bs k + joins_of bs k) (total bs k + i) (total bs k + j) x (λ l n. (block-ends bs good k l n).0)
      (omega arith) (omega arith) small told)
      ∙ distance_back x most

  -- A summary tells the least number of links.
  pub summary-tells : (k i j : ℕ) → total bs k + joins_of bs k ≤ no_chain → Join bs k i → Join bs k j
      → Tells each-one (block_links bs k) no_chain (total bs k + i) (total bs k + j) (summary bs k i j)
  summary-tells k i j small hi hj =
      let right : Summarised (followed (block_links bs k)) (total bs k) (joins_of bs k) i j (summary bs k i j) =
      summary-right bs good k i j small hj.0 in
      record {
        reached = λ h. chain-walk (right.chain (λ e. omega arith));
        least = λ n c. (right.least hi.1 hj.1 n (walk_chain c)).0;
      }

  -- Numbers that are the summaries of the blocks below limit are an exact table of them.
  pub summary-exact : (limit : ℕ) (tab : ℕ → ℕ → ℕ → ℕ) → ((k : ℕ) → k < limit → total bs k + joins_of bs k ≤ no_chain)
      → ((k i j : ℕ) → k < limit → Join bs k i → Join bs k j → tab k i j ≡ summary bs k i j)
      → ExactTable each-one bs limit (InTable no_chain tab)
  summary-exact limit tab small same =
      told-exact bs good each-one no_chain 1 tab (λ label w e. omega arith) limit (λ k h. omega (arith, small k h))
      (λ k i j h hi hj. rw (same k i j h hi hj) (summary-tells k i j (small k h) hi hj))

  -- Estimates over block k, begun with 0 at join i, by the summaries of the lower blocks: at join j they are the summary.
  pub estimates-summary : (k i j : ℕ) (tab : ℕ → ℕ → ℕ → ℕ) {d : ℕ → ℕ} → ((m : ℕ) → m ≤ k → total bs m + joins_of bs m ≤ no_chain)
      → ((m i j : ℕ) → m < k → Join bs m i → Join bs m j → tab m i j ≡ summary bs m i j)
      → Estimates (Local each-one (InTable no_chain tab) bs (block_at bs k)) (Cue (block_at bs k)) no_chain (At ((block_at bs k).own + i)) d
      → d ((block_at bs k).own + j) ≤ no_chain → Join bs k i → Join bs k j → summary bs k i j ≡ d ((block_at bs k).own + j)
  estimates-summary k i j tab {d} small same estimates most hi hj =
      told-summary k i j (d ((block_at bs k).own + j)) (small k (omega arith)) hi hj most
      (estimates-tells bs good k i j (summary-exact k tab (λ m h. small m (omega arith)) same) estimates hi hj)
