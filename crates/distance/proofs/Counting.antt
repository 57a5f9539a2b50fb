-- Follow-ons are counted: each followed link weighs 1. A work area that begins with the summaries tells the least weights between joins, and what is told
-- for the cues of two places is the fewest answer.
use Prim.Native.Nat.{ℕ, zero, suc, ◌*◌, ◌≤◌}
use native.Mathlib.Omega.{arith}
use mathlib.Core.Path.{◌≡◌, sym, ◌∙◌, ap}
use mathlib.Core.List.{List, [], ◌∷◌}
use lib.ListN.{length, get_or, take}
use lib.Seq.{get_or-take}
use Rattle.model.specs.Limits.{no_chain, max_joins, summary_size}
use Rattle.model.specs.Blocks.{Block, joins_of, last_block, count, blocks_of}
use Rattle.model.specs.Unfolding.{show_links}
use Rattle.model.specs.Chains.{fewest}
use Rattle.model.specs.Summaries.{summaries}
use Rattle.shows.specs.Accepted.{Show}
use Rattle.shows.proofs.AtBlock.{joins-small}
use Rattle.shows.proofs.Accepted.{cues-fit}
use Rattle.distances.specs.Walks.{each-one}
use Rattle.distances.specs.Tells.{Tells, summary_place, distance}
use Rattle.distances.proofs.Places.{summaries-at, summaries-length}
use Rattle.distances.proofs.Summing.{summary-exact, told-show}
use Rattle.blocks.specs.Loaded.{Loaded}
use Rattle.blocks.specs.Places.{Found}
use Rattle.blocks.specs.declared.Place.{Place}
use Rattle.blocks.proofs.Loaded.{loaded-show}
use Rattle.searches.specs.Edges.{numbers}
use Rattle.searches.specs.Knowing.{HasTable}
use Rattle.searches.proofs.Answering.{cue-counted}
use Rattle.distance.specs.Summaries.{Below}

take_short : (n : ℕ) (w : List ℕ) → length (take n w) ≤ length w
take_short zero w = omega arith
take_short (suc n) [] = omega arith
take_short (suc n) (x ∷ w) = omega (arith, take_short n w)

module _ {xs t : List ℕ} (g : Loaded xs t) where
  abbrev bs : List Block
  bs = blocks_of xs

  show : Show xs
  show = loaded-show g

  -- A work area that begins with the summaries.
  below : (work : List ℕ) → take (summary_size * length bs) work ≡ summaries bs → Below bs (length bs) work
  below work e m i j h x y =
      let few : joins_of bs m ≤ max_joins = joins-small m show.small in
      sym (get_or-take (summary_size * length bs) work (summary_place m i j) 0 (omega arith))
      ∙ ap (λ (w : List ℕ). get_or w (summary_place m i j) 0) e
      ∙ summaries-at fewest bs m i j h x.0 (omega arith) y.0 (omega arith)

  pub has_table : (work : List ℕ) → take (summary_size * length bs) work ≡ summaries bs → HasTable no_chain (λ d. d) each-one xs t work
  has_table work e =
      record {
        known = record {
          loaded = g;
          exact = summary-exact bs show.good (length bs) (numbers work) (λ k h. cues-fit show k) (below work e);
        };
        long = omega (arith, take_short (summary_size * length bs) work, ap length e, summaries-length fewest bs);
      }

  -- What is told for a cue and that of a place.
  pub fewest-is : {b : List ℕ} {q : Place} → Found xs t b q → (s x : ℕ) → Tells each-one (show_links bs) no_chain s q.cue x
      → fewest (show_links bs) (count bs) s q.cue ≡ distance x
  unfolding count
  fewest-is {q = q} to s x told =
      told-show bs show.good show.no_joins (show.totals (last_block bs)) s q.cue x (cue-counted g to).0 (cue-counted g to).1 told
