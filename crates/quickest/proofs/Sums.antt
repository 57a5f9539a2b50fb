-- Waits are summed: each followed link weighs its label's wait, at most 6,000. The work area tells the smallest sums between joins, row by row and block by
-- block, and what is told for the cues of two places is the quickest answer.
use Prim.Native.Nat.{ℕ, ◌+◌, ◌*◌, ◌-◌, ◌≤◌, ◌<◌}
use native.Mathlib.Omega.{arith}
use native.Mathlib.Decide.{ℕ_discrete}
use mathlib.Core.Path.{◌≡◌, refl, sym, ◌∙◌, ap}
use mathlib.Core.Logic.{inl}
use mathlib.Core.List.{List, ◌++◌}
use lib.ListN.{length, get_or, take, drop, replicate, length-replicate}
use lib.Seq.{length-take-le}
use Rattle.model.specs.Limits.{max_wait, max_joins, summary_size, summary_width, work_size}
use Rattle.model.specs.Lists.{overwrite}
use Rattle.model.specs.Blocks.{Block, block_at, joins_of, own_of, total, last_block, count, blocks_of}
use Rattle.model.specs.Unfolding.{show_links}
use Rattle.model.specs.Summaries.{block_links}
use Rattle.model.specs.Quickest.{quickest}
use Rattle.model.specs.Questions.{cleared}
use Rattle.shows.specs.Waits.{AreWaits}
use Rattle.shows.specs.Accepted.{Show}
use Rattle.shows.proofs.AtBlock.{joins-small}
use Rattle.shows.proofs.BlockAt.{own_of_at}
use Rattle.shows.proofs.Accepted.{cues-fit}
use Rattle.distances.specs.Tells.{Join, Tells, Knows, told, InTable, ExactTable}
use Rattle.distances.specs.Quickest.{priced, no_sum}
use Rattle.distances.proofs.Fewest.{Starts, show_ends}
use Rattle.distances.proofs.Lightest.{least-only, told-lightest}
use Rattle.distances.proofs.Knowing.{estimates-tells, told-exact}
use Rattle.distances.proofs.Quickest.{quickest-lightest}
use Rattle.blocks.specs.Loaded.{Loaded}
use Rattle.blocks.specs.Places.{Found}
use Rattle.blocks.specs.declared.Place.{Place}
use Rattle.blocks.proofs.Loaded.{loaded-show}
use Rattle.searches.specs.Edges.{numbers, Only, SpreadIn, MaySettle}
use Rattle.searches.specs.Joins.{RowKept}
use Rattle.searches.proofs.Parts.{block-count, part-kept}
use Rattle.distance.specs.Summaries.{RowFound}
use Rattle.searches.proofs.Settled.{spread_estimates}
use Rattle.searches.proofs.Answering.{cue-counted}
use Rattle.quickest.specs.Sums.{MaySum, SumsTo, HasSums}

module _ {xs t waits : List ℕ} (g : Loaded xs t) (w : AreWaits waits) where
  abbrev bs : List Block
  bs = blocks_of xs

  show : Show xs
  show = loaded-show g

  -- No link waits longer than a wait may be, and no chain that repeats no cue has a sum of 64 ones.
  light : (label n : ℕ) → priced waits label n → n ≤ max_wait
  light label n p = omega (arith, p.1, w.most label)

  large : (k : ℕ) → (total bs k + joins_of bs k - 1) * max_wait < no_sum
  large k = omega (arith, cues-fit show k)

  -- The numbers of the blocks below limit are an exact table of them.
  sums-exact : (limit : ℕ) (work : List ℕ) → Knows (priced waits) no_sum bs (numbers work) limit
      → ExactTable (priced waits) bs limit (InTable no_sum (numbers work))
  sums-exact limit work knows = told-exact bs show.good (priced waits) no_sum max_wait (numbers work) light limit (λ k h. large k) knows

  -- Nothing yet.
  pub sums-begin : (work : List ℕ) → SumsTo xs waits 0 0 work
  sums-begin work = record { below = λ k i j h. absurd (omega arith); rows = λ a j h x y. absurd (omega arith) }

  -- One row more: the sums from join i + 1, by the sums of the lower blocks.
  sums_on : (k i o m : ℕ) (before d work : List ℕ) → o ≡ own_of bs k → m ≡ joins_of bs k → i < m → SumsTo xs waits k i before
      → SpreadIn no_sum (priced waits) bs before k (Only (o + 1 + i)) d → RowKept before (summary_width * k + i) d (o + 1) m work
      → SumsTo xs waits k (i + 1) work
  sums_on k i o m before d work eo em l s sp r =
      record { below = λ b a j h x y. rw (lower b a j h x y) (s.below b a j h x y); rows = λ a j h x y. row a j h x y (ℕ_discrete a (i + 1)) }
    where
      few : (b : ℕ) → joins_of bs b ≤ max_joins
      few b = joins-small b show.small

      lower : (b a j : ℕ) → b < k → Join bs b a → Join bs b j → numbers work b a j ≡ numbers before b a j
      lower b a j h x y = r.else (summary_size * b + summary_width * (a - 1) + (j - 1)) (inl (omega (arith, few b)))

      Told : ℕ → ℕ → ℕ → Type 0
      Told a j n = Tells (priced waits) (block_links bs k) no_sum (total bs k + a) (total bs k + j) n

      new : (j : ℕ) → Join bs k (i + 1) → Join bs k j → Told (i + 1) j (get_or d ((block_at bs k).own + j) 0)
      new j x y =
          let p : o + 1 + i ≡ (block_at bs k).own + (i + 1) = omega (arith, own_of_at bs k) in
          estimates-tells bs show.good k (i + 1) j (sums-exact k before s.below)
          (spread_estimates bs show.good before k (rw p at sp)) x y

      row : (a j : ℕ) → a ≤ i + 1 → Join bs k a → Join bs k j → Dec (a ≡ i + 1) → Told a j (numbers work k a j)
      row a j h x y (yes e) =
          let p : summary_width * (summary_width * k + i) + (j - 1) ≡ summary_size * k + summary_width * (a - 1) + (j - 1) = omega arith in
          let q : o + 1 + (j - 1) ≡ (block_at bs k).own + j = omega (arith, own_of_at bs k) in
          let z : numbers work k a j ≡ get_or d ((block_at bs k).own + j) 0 =
          ap (λ (n : ℕ). get_or work n 0) (sym p) ∙ r.at (j - 1) (omega arith) ∙ ap (λ (n : ℕ). get_or d n 0) q in
          rw (z, e) (new j (rw e at x) y)
      row a j h x y (no n) =
          let z : numbers work k a j ≡ numbers before k a j =
          r.else (summary_size * k + summary_width * (a - 1) + (j - 1)) (inl (omega (arith, few k))) in
          rw z (s.rows a j (omega arith) x y)

  -- All rows of a block.
  pub sums-done : (k : ℕ) {i m : ℕ} {work : List ℕ} → SumsTo xs waits k i work → m ≡ joins_of bs k → m ≤ i → SumsTo xs waits (k + 1) 0 work
  sums-done k {work = work} s e l = record { below = λ b a j h x y. go b a j h x y (ℕ_discrete b k); rows = λ a j h x y. absurd (omega arith) }
    where
      go : (b a j : ℕ) → b < k + 1 → Join bs b a → Join bs b j → Dec (b ≡ k)
          → Tells (priced waits) (block_links bs b) no_sum (total bs b + a) (total bs b + j) (numbers work b a j)
      go b a j h x y (yes p) = let q : Join bs k a = rw p at x in rw p (s.rows a j (omega arith) q (rw p at y))
      go b a j h x y (no n) = s.below b a j (omega arith) x y

  -- All blocks.
  pub sums-all : (k : ℕ) {n : ℕ} {work : List ℕ} → SumsTo xs waits k 0 work → n ≡ last_block bs → n + 1 ≤ k → length work ≡ work_size
      → HasSums xs t waits work
  sums-all k {n} {work} s en h size =
      record {
        known = record {
          loaded = g;
          exact = sums-exact (length bs) work (λ m i j l. s.below m i j (omega (arith, block-count n g en)));
        };
        long = omega (arith, show.blocks);
      }

  -- What is told for a cue and that of a place.
  pub quickest-is : {b : List ℕ} {q : Place} → Found xs t b q → (s x : ℕ) → Tells (priced waits) (show_links bs) no_sum s q.cue x
      → quickest waits (show_links bs) (count bs) s q.cue ≡ told no_sum x
  unfolding count
  quickest-is {q = q} to s x tells =
      least-only (quickest waits (show_links bs) (count bs) s q.cue) (told no_sum x)
      (quickest-lightest waits (show_links bs) q.cue (count bs) s starts (cue-counted g to).0 (cue-counted g to).1)
      (told-lightest (priced waits) (show_links bs) s q.cue no_sum x (count bs) max_wait starts (cue-counted g to).0 (cue-counted g to).1 light
      (omega (arith, show.totals (last_block bs))) tells)
    where
      starts : Starts (show_links bs) (count bs)
      starts = λ l i. (show_ends bs show.good show.no_joins l i).0

-- A block's part of a work area for 128 blocks.
pub part-fits : {xs t waits : List ℕ} {k : ℕ} {work : List ℕ} → MaySum xs t waits k work → summary_size * k + summary_size ≤ length work
part-fits m = omega (arith, (loaded-show m.loaded).blocks, m.block, m.area)

joins-eight : {xs t waits : List ℕ} {k : ℕ} {work : List ℕ} → MaySum xs t waits k work → joins_of (blocks_of xs) k ≤ max_joins
joins-eight {k = k} m = joins-small k (loaded-show m.loaded).small

pub sum-settles : {xs t waits : List ℕ} {k : ℕ} {work : List ℕ} → MaySum xs t waits k work → MaySettle xs t k work
sum-settles m = record { loaded = m.loaded; block = m.block; room = omega (arith, part-fits m) }

-- One row more of a block's part of the work area.
pub sums_next : {xs t waits : List ℕ} {k i : ℕ} {before work : List ℕ} → MaySum xs t waits k before → SumsTo xs waits k i before
    → i < joins_of (blocks_of xs) k → RowFound no_sum (priced waits) (blocks_of xs) k i before work → SumsTo xs waits k (i + 1) work
sums_next {k = k} {i} {before = before} may s l r =
    let fits = part-fits may in
    rw r.is
    (sums_on may.loaded may.waited k i _ _ before r.estimates _ refl refl l s r.spread
    (part-kept before r.part k fits r.size i r.estimates _ _ (omega (arith, joins-eight may)) (omega (arith, joins-eight may)) r.row))

-- The first 16,384 numbers as they are lent, and as they are left.
pub area-lent : (work : List ℕ) → work_size ≤ length work → length (take (work_size - 0) (drop 0 work)) ≡ work_size
area-lent work h = let e : work_size - 0 ≡ work_size = omega arith in rw e (length-take-le work_size work h)

pub area-zeros : (before part : List ℕ) → part ≡ replicate (length before) 0 → length before ≡ work_size → part ≡ replicate work_size 0
area-zeros before part e n = e ∙ ap (λ (m : ℕ). replicate m 0) n

pub area-cleared : (work part : List ℕ) → part ≡ replicate work_size 0 → take 0 work ++ (part ++ drop (work_size - 0) (drop 0 work)) ≡ cleared work
unfolding cleared overwrite
area-cleared work part e =
    let d : work_size - 0 ≡ length (replicate {A = ℕ} work_size 0) = omega (arith, length-replicate {A = ℕ} work_size 0) in rw (e, d)
