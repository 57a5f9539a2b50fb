-- From the last estimate to the answer: the copies that two places share, and the least weight between their cues.
use Prim.Native.Nat.{ℕ, ◌+◌, ◌≤◌, ◌<◌}
use native.Mathlib.Omega.{arith}
use native.Mathlib.Decide.{dec_lt}
use native.Mathlib.Numerals.{add-one}
use mathlib.Core.Path.{◌≡◌, sym, ◌∙◌, ap}
use mathlib.Core.List.{List}
use lib.ListN.{length, get_or}
use Rattle.model.specs.Blocks.{Block, block_at, count, blocks_of}
use Rattle.model.specs.Unfolding.{show_links}
use Rattle.shows.specs.WellFormed.{Cue}
use Rattle.shows.specs.Accepted.{Show}
use Rattle.shows.specs.Copies.{Part, Copy, number, Sound, IsPart, InCopy, part-copy, part_at}
use Rattle.shows.proofs.Ranges.{number-own}
use Rattle.shows.proofs.Locality.{part-total, not-inside, show_links_at, show_count}
use Rattle.distances.specs.Walks.{Price}
use Rattle.distances.specs.Tells.{Tells}
use Rattle.shows.proofs.Trails.{part-at_part}
use Rattle.blocks.specs.Loaded.{Loaded, uses_begin}
use Rattle.blocks.specs.Places.{block_on, Found}
use Rattle.blocks.specs.declared.Place.{Place}
use Rattle.blocks.proofs.Loaded.{loaded-show}
use Rattle.copies.specs.ByRows.{step_on, copy_on}
use Rattle.searches.specs.Copies.{TellsWhole, Common, Sunk}
use Rattle.copies.proofs.ByRows.{copy-suc, levels, here, here-sound, step-bounds, next-is, own-bounds, cue-is, cue-numbered, block_same, copy-same, parts-apart}

module _ {xs t : List ℕ} (g : Loaded xs t) where
  abbrev bs : List Block
  bs = blocks_of xs

  show : Show xs
  show = loaded-show g

  module _ {a b : List ℕ} {p q : Place} (from : Found xs t a p) (to : Found xs t b q) (r : ℕ)
      (c : Common a p.depth b q.depth r) where
    -- The copy that the two places share last.
    first : r ≤ p.depth
    first = c.first

    abbrev z : Copy
    z = here g from r first

    shared : copy_on xs t b r ≡ z
    shared = sym (copy-same xs t a b r c.same r (omega arith)) ∙ (levels g from r first).is

    same_copy : copy_on xs t a r ≡ copy_on xs t b r
    same_copy = copy-same xs t a b r c.same r (omega arith)

    -- The next copy on the way down does not have the first place's cue.
    module _ (less : r < q.depth) where
      block-is : block_on xs a r ≡ block_on xs b r
      block-is = block_same xs t a b r c.same r (omega arith)

      block-begin : uses_begin t (block_on xs a r) ≡ uses_begin t (block_on xs b r)
      block-begin = ap (uses_begin t) block-is

      step : (1 ≤ step_on xs t b r) × (step_on xs t b r ≤ length (block_at bs (block_on xs a r)).uses)
      step = rw block-is (step-bounds g to r less)

      abbrev part : Part
      part = part_at z (step_on xs t b r)

      member : IsPart z part
      member = part-at_part z (step_on xs t b r) step.0 step.1

      next : copy_on xs t b (r + 1) ≡ part-copy z part
      next = rw add-one (copy-suc xs t b r ∙ ap (λ (y : Copy). part-copy y (part_at y (step_on xs t b r))) shared)

      outside : InCopy (copy_on xs t b (r + 1)) p.cue → ⊥
      outside n = go (dec_lt r p.depth)
        where
          m : InCopy (part-copy z part) p.cue
          m = rw next at n

          go : Dec (r < p.depth) → ⊥
          go (yes h) =
              let s = step-bounds g from r h in
              let e : step_on xs t a r ≡ step_on xs t b r → get_or a r 0 ≡ get_or b r 0 = λ e. omega (arith, s, step, block-begin) in
              parts-apart (here-sound g from r first) (step_on xs t a r) (step_on xs t b r) p.cue s.0 s.1 step.0 step.1
              (λ o. c.differ h less (e o))
              (rw (next-is g from r first) at (rw add-one at (cue-numbered g from (r + 1) (omega arith)))) m
          go (no h) =
              let e : r ≡ p.depth = omega arith in
              let y : copy_on xs t a p.depth ≡ z = ap (copy_on xs t a) (sym e) ∙ (levels g from r first).is in
              let o : (copy_on xs t a p.depth).block.own ≡ z.block.own = ap (λ (x : Copy). x.block.own) y in
              let i : Cue z.block p.own = omega (arith, own-bounds g from) in
              let k : number z p.own ≡ p.cue = ap (λ (x : Copy). number x p.own) (sym y) ∙ cue-is g from in
              let sound : Sound z = here-sound g from r first in
              not-inside sound part p.cue member (rw k at (number-own sound.fit p.own i))
              (omega (arith, m, part-total sound part member))

  -- The cue of a place is one of the show's.
  pub cue-counted : {b : List ℕ} {q : Place} → Found xs t b q → (1 ≤ q.cue) × (q.cue ≤ count bs)
  unfolding copy_on
  cue-counted to = omega (arith, cue-numbered g to 0 (omega arith), show_count bs show.good)

  -- The estimate at the end of the way down tells the least weight in the show.
  told_at : {inf : ℕ} {price : Price} {b : List ℕ} {q : Place} (to : Found xs t b q) (s : ℕ) (d : List ℕ) (x : ℕ) → x ≡ get_or d q.own 0
      → TellsWhole inf price xs (copy_on xs t b q.depth) s d → Tells price (show_links bs) inf s q.cue x
  told_at {q = q} to s d x ex told =
      rw (← cue-is g to, ex, show_links_at bs show.good) (told q.own (omega (arith, own-bounds g to)))

  -- Down the levels that two places share, and on to the second.
  pub answered : {inf : ℕ} {price : Price} {a b : List ℕ} {p q : Place} → Found xs t a p → Found xs t b q → (r : ℕ)
      → Common a p.depth b q.depth r → (d e : List ℕ) (n x : ℕ) → n ≡ q.own → x ≡ get_or e n 0
      → TellsWhole inf price xs (copy_on xs t a r) p.cue d → Sunk inf price xs t b r q.depth d e
      → Tells price (show_links bs) inf p.cue q.cue x
  answered {p = p} from to r c d e n x en ex told sunk =
      told_at to p.cue e x (ex ∙ ap (λ (k : ℕ). get_or e k 0) en)
      (sunk p.cue (rw (same_copy from to r c) at told) (λ h k. outside from to r c h k))
