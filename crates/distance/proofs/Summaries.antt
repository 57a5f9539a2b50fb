-- Estimates from each join of a block in turn are the block's summary, and fill its numbers row by row.
use Prim.Native.Nat.{ℕ, suc, ◌+◌, ◌*◌, ◌/◌, ◌%◌, ◌≤◌, ◌<◌}
use native.Mathlib.Omega.{arith}
use native.Mathlib.Decide.{ℕ_discrete, dec_lt}
use mathlib.Core.Path.{◌≡◌, sym, ◌∙◌}
use mathlib.Core.Logic.{inl, inr}
use mathlib.Core.List.{List}
use mir.Syntax.{w32}
use mir.Val.{Fits}
use lib.ListN.{length, get_or, replicate, length-replicate, get_or-replicate}
use lib.Seq.{ext_get_or}
use Rattle.model.specs.Limits.{no_chain, max_joins, summary_size, summary_width}
use Rattle.model.specs.Blocks.{Block, block_at, joins_of, own_of, blocks_of}
use Rattle.model.specs.Chains.{fewest}
use Rattle.model.specs.Summaries.{summary, summary_of}
use Rattle.shows.proofs.Accepted.{cues-fit}
use Rattle.shows.proofs.BlockAt.{own_of_at}
use Rattle.distances.proofs.Fewest.{summary-lacks}
use Rattle.distances.proofs.Summing.{estimates-summary}
use Rattle.distances.proofs.Places.{summary_of-length, summary_of-at}
use Rattle.distances.specs.Walks.{each-one}
use Rattle.blocks.specs.Loaded.{Loaded, IsBlock}
use Rattle.blocks.proofs.Loaded.{loaded-show, joins-few}
use Rattle.searches.specs.Edges.{numbers, Only, SpreadIn}
use Rattle.searches.specs.Joins.{RowKept}
use Rattle.searches.specs.Parts.{part_of}
use Rattle.searches.proofs.Parts.{with_in}
use Rattle.distance.specs.Summaries.{RowFound, RowsFilled, PartFilled, Below}
use Rattle.searches.proofs.Settled.{spread_estimates}

-- The numbers, as they are at first.
pub filled-begin : (bs : List Block) (k : ℕ) → RowsFilled bs k 0 (replicate summary_size no_chain)
filled-begin bs k =
    record {
      size = length-replicate summary_size no_chain;
      done = λ a j h l. absurd (omega arith);
      rest = λ a j h l m. get_or-replicate summary_size (summary_width * a + j) no_chain 0 (omega arith);
    }

-- All rows.
pub filled-done : (bs : List Block) (k m : ℕ) (v : List ℕ) → m ≡ joins_of bs k → RowsFilled bs k m v → v ≡ summary_of bs k
filled-done bs k m v em f =
    ext_get_or 0 v (summary_of bs k) (f.size ∙ sym (summary_of-length fewest bs k)) (λ x h. at x h)
  where
    at : (x : ℕ) → x < length v → get_or v x 0 ≡ get_or (summary_of bs k) x 0
    at x h =
        let n : length v ≡ summary_size = f.size in
        let e : summary_width * (x / summary_width) + x % summary_width ≡ x = omega arith in
        rw e at (go (x / summary_width) (x % summary_width) (omega arith) (omega arith) (dec_lt (x / summary_width) m))
      where
        go : (a j : ℕ) → a < summary_width → j < summary_width → Dec (a < m)
            → get_or v (summary_width * a + j) 0 ≡ get_or (summary_of bs k) (summary_width * a + j) 0
        go a j l r (yes q) = f.done a j q r ∙ sym (summary_of-at fewest bs k a j l r)
        go a j l r (no q) =
            f.rest a j (omega arith) l r ∙ sym (summary-lacks fewest bs k (suc a) (suc j) (inl (omega arith))) ∙ sym
            (summary_of-at fewest bs k a j l r)

module _ {xs t : List ℕ} (loaded : Loaded xs t) (k : ℕ) (h : IsBlock xs k) (work : List ℕ) (below : Below (blocks_of xs) k work) where
  abbrev bs : List Block
  bs = blocks_of xs

  -- The estimates from join i are the summaries of that join.
  row-summary : (i j : ℕ) (d : List ℕ) → i < joins_of bs k → j < joins_of bs k → SpreadIn no_chain each-one bs work k (Only (own_of bs k + 1 + i)) d
      → get_or d (own_of bs k + 1 + j) 0 ≤ no_chain → get_or d (own_of bs k + 1 + j) 0 ≡ summary bs k (suc i) (suc j)
  row-summary i j d hi hj s most =
      let p : own_of bs k + 1 + i ≡ (block_at bs k).own + suc i = omega (arith, own_of_at bs k) in
      let q : own_of bs k + 1 + j ≡ (block_at bs k).own + suc j = omega (arith, own_of_at bs k) in
      rw q
      (sym (estimates-summary bs (loaded-show loaded).good k (suc i) (suc j) (numbers work) (λ m l. cues-fit (loaded-show loaded) m) below
      (spread_estimates bs (loaded-show loaded).good work k (rw p at s)) (rw q at most) (omega arith) (omega arith)))

  row-filled : (i : ℕ) (v d e : List ℕ) → i < joins_of bs k → RowsFilled bs k i v → SpreadIn no_chain each-one bs work k (Only (own_of bs k + 1 + i)) d
      → ((c : ℕ) → c < summary_size → get_or e c 0 ≤ no_chain) → RowKept v i d (own_of bs k + 1) (joins_of bs k) e → length e ≡ summary_size
      → RowsFilled bs k (i + 1) e
  row-filled i v d e l f s most r size =
      record {
        size = size;
        done = λ a j x y. done a j x y (ℕ_discrete a i) (dec_lt j (joins_of bs k));
        rest = λ a j x y z. r.else (summary_width * a + j) (inr (omega (arith, few))) ∙ f.rest a j (omega arith) y z;
      }
    where
      few : joins_of bs k ≤ max_joins
      few = joins-few loaded k h

      done : (a j : ℕ) → a < i + 1 → j < summary_width → Dec (a ≡ i) → Dec (j < joins_of bs k)
          → get_or e (summary_width * a + j) 0 ≡ summary bs k (suc a) (suc j)
      done a j x y (no n) w = r.else (summary_width * a + j) (inl (omega arith)) ∙ f.done a j (omega arith) y
      done a j x y (yes q) (yes w) =
          let here : summary_width * i + j < summary_size = omega (arith, few) in
          rw q (r.at j w ∙ row-summary i j d l w s (rw (r.at j w) at (most (summary_width * i + j) here)))
      done a j x y (yes q) (no w) =
          rw q
          (r.else (summary_width * i + j) (inr (omega arith)) ∙ f.rest i j (omega arith) (omega (arith, few)) y
          ∙ sym (summary-lacks fewest bs k (suc i) (suc j) (inr (omega arith))))

-- One more row of the block's part of the work area, where all numbers have 32 bits.
pub join_filled : {xs t : List ℕ} {k i : ℕ} {work after : List ℕ} → Loaded xs t → IsBlock xs k → RowsFilled (blocks_of xs) k i (part_of work k)
    → Below (blocks_of xs) k work → i < joins_of (blocks_of xs) k → summary_size * k + summary_size ≤ length work
    → RowFound no_chain each-one (blocks_of xs) k i work after → ((c : ℕ) → Fits w32 (get_or after c 0))
    → PartFilled (blocks_of xs) k (i + 1) work after
join_filled {k = k} {i} {work} {after} loaded h f below l long r most =
    record {
      part = r.part;
      is = r.is;
      filled = row-filled loaded k h work below i (part_of work k) r.estimates r.part l f r.spread (λ c m. small c m) r.row r.size;
    }
  where
    small : (c : ℕ) → c < summary_size → get_or r.part c 0 ≤ no_chain
    small c m =
        let here : get_or after (summary_size * k + c) 0 ≡ get_or r.part c 0 = rw r.is (with_in work r.part k long r.size c m) in
        omega (arith, most (summary_size * k + c))
