-- The answers of the fewest question.
use Prim.Native.Nat.{ℕ, ◌*◌, ◌≤◌, ◌<◌}
use mathlib.Core.Path.{◌≡◌}
use mathlib.Core.List.{List}
use lib.ListN.{length, take}
use Rattle.std.specs.Prelude.{Ok, Some, None}
use Rattle.model.specs.Limits.{summary_size, no_chain}
use Rattle.model.specs.Blocks.{Block, blocks_of, count}
use Rattle.model.specs.Unfolding.{show_links}
use Rattle.model.specs.Chains.{fewest}
use Rattle.model.specs.Summaries.{summaries, work_after}
use Rattle.model.specs.Answers.{of_fewest}
use Rattle.model.specs.Questions.{outcome, answer, distance_values}
use Rattle.distances.specs.Tells.{distance}
use Rattle.distances.proofs.Lightest.{told-far, told-lost}
use Rattle.blocks.specs.Places.{Found}
use Rattle.blocks.specs.declared.Place.{Place}
use Rattle.distance.proofs.Area.{area-summaries}
use Rattle.answers.specs.Asked.{between}

-- What the search asks of the work area, once the summaries are there.
pub search_asks : (xs t up down lent work : List ℕ) (from to : Place) → Found xs t up from → Found xs t down to
    → work ≡ work_after (blocks_of xs) lent
    → Found xs t up from × Found xs t down to × (take (summary_size * length (blocks_of xs)) work ≡ summaries (blocks_of xs))
search_asks xs t up down lent work from to f h w = (f, h, rw w (area-summaries (blocks_of xs) lent))

-- What it says: n is the number, from cue u to cue v.
module _ (bs : List Block) (s t u v n : ℕ) (lent work : List ℕ) (eu : u ≡ s) (ev : v ≡ t) (w : work ≡ work_after bs lent)
    (e : fewest (show_links bs) (count bs) u v ≡ distance n) where
  values : distance_values (fewest (show_links bs) (count bs) s t) ≡ distance_values (distance n)
  values = rw (← eu, ← ev, e)

  pub steps-found : n < no_chain → outcome (of_fewest (Ok (Some n))) work ≡ between bs s t lent
  unfolding of_fewest between answer distance_values
  steps-found h = rw (w, values, told-far no_chain n h)

  pub steps-none : no_chain ≤ n → outcome (of_fewest (Ok None)) work ≡ between bs s t lent
  unfolding of_fewest between answer distance_values
  steps-none h = rw (w, values, told-lost no_chain n h)
