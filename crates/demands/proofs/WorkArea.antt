-- The work area that the fewest question leaves has the summaries, each of which is the length of a shortest chain.
use Prim.Native.Nat.{ℕ, ◌+◌, ◌*◌, ◌-◌, ◌≤◌, ◌<◌}
use native.Mathlib.Omega.{arith}
use mathlib.Core.Path.{◌≡◌, sym, ◌∙◌, ap}
use mathlib.Core.List.{List, ◌++◌}
use lib.ListN.{length, get_or, replicate, length-append, length-replicate, get_or-replicate, get_or-append}
use lib.Seq.{get_or-append-add}
use Rattle.model.specs.Blocks.{Block, joins_of, blocks_of}
use Rattle.model.specs.Chains.{fewest}
use Rattle.model.specs.Verdicts.{verdict, Accepted}
use Rattle.model.specs.Summaries.{Search, summary_by, summaries_by, work_by, work_after}
use Rattle.shows.proofs.Accepted.{accepted-show, cues-fit}
use Rattle.distances.proofs.Fewest.{summary-right}
use Rattle.distances.proofs.Places.{summaries-at, summaries-length}
use Rattle.demands.specs.Acceptance.{joins_in}
use Rattle.demands.specs.Notes.{followed_inside}
use Rattle.demands.specs.WorkArea.{block_numbers, place, IsWorkArea}
use Rattle.demands.proofs.Buffers.{leaves, over_first, over-beyond}
use Rattle.demands.proofs.Blocks.{are-blocks}

-- Where the numbers stand, whatever finds them.
module _ (find : Search) (xs work : List ℕ) (v : verdict xs ≡ Accepted) (room : 16384 ≤ length work) where
  abbrev bs : List Block
  bs = blocks_of xs

  abbrev found : List ℕ
  found = summaries_by find bs

  abbrev left : List ℕ
  left = work_by find bs work

  -- The numbers that are written: the summaries, and zeros up to 16,384.
  abbrev zeros : List ℕ
  zeros = replicate (16384 - block_numbers * length bs) 0

  few : block_numbers * length bs ≤ 16384
  few = omega (arith, (accepted-show xs v).blocks)

  written : length (found ++ zeros) ≡ 16384
  written = omega (arith, few, length-append found zeros, summaries-length find bs, length-replicate {A = ℕ} (16384 - block_numbers * length bs) 0)

  first : (p : ℕ) → p < 16384 → get_or left p 0 ≡ get_or (found ++ zeros) p 0
  unfolding work_by
  first p h = over_first (found ++ zeros) work p 0 (omega (arith, written))

  pub holds : (k i j : ℕ) → k < length bs → 1 ≤ i → i ≤ 8 → 1 ≤ j → j ≤ 8
      → get_or left (place k i j) 0 ≡ summary_by find bs k i j
  holds k i j h a b c d =
      first (place k i j) (omega (arith, few))
      ∙ get_or-append found zeros 0 (place k i j) (omega (arith, summaries-length find bs))
      ∙ summaries-at find bs k i j h a b c d

  others : (p : ℕ) → block_numbers * length bs ≤ p → p < 16384 → get_or left p 0 ≡ 0
  others p h l =
      let e : length found + (p - block_numbers * length bs) ≡ p = omega (arith, summaries-length find bs) in
      first p l
      ∙ ap (λ n. get_or (found ++ zeros) n 0) (sym e)
      ∙ get_or-append-add found zeros (p - block_numbers * length bs) 0
      ∙ get_or-replicate (16384 - block_numbers * length bs) (p - block_numbers * length bs) 0 0 (omega arith)

  beyond : (p : ℕ) → 16384 ≤ p → get_or left p 0 ≡ get_or work p 0
  unfolding work_by
  beyond p h = over-beyond (found ++ zeros) work p 0 (omega (arith, written))

  size : length left ≡ length work
  unfolding work_by
  size = (leaves (found ++ zeros) work (omega (arith, written, room))).size

-- By the search for the fewest they are the lengths of shortest chains.
module _ (xs work : List ℕ) (v : verdict xs ≡ Accepted) (room : 16384 ≤ length work) where
  joins-are : (k : ℕ) → k < length (blocks_of xs) → joins_of (blocks_of xs) k ≡ joins_in xs k
  unfolding joins_of
  joins-are k h = (are-blocks xs v).joins k h

  pub work-area : IsWorkArea xs (followed_inside xs) work (work_after (blocks_of xs) work)
  work-area =
      record {
        summaries = λ k i j h a b c d.
            rw (holds fewest xs work v room k i j h a b c d, ← joins-are k h)
            (summary-right (blocks_of xs) (accepted-show xs v).good k i j (cues-fit (accepted-show xs v) k) c);
        others = others fewest xs work v room;
        beyond = beyond fewest xs work v room;
        size = size fewest xs work v room;
      }
