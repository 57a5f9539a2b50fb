-- What each function over a list of blocks gives at the list's first block (hit) and at the blocks behind that (skip), so that no other
-- file has to open its definition.
use Prim.Native.Nat.{ℕ, ◌+◌, ◌-◌, ◌≤◌}
use native.Mathlib.Omega.{arith}
use native.Mathlib.Decide.{ℕ_discrete}
use mathlib.Core.Path.{◌≡◌, refl, ◌∙◌, ap}
use mathlib.Core.Logic.{◌≢◌}
use mathlib.Core.Bool.{true, false}
use mathlib.Core.List.{List, [], ◌∷◌, ◌++◌, map}
use lib.ListN.{length}
use lib.Dec.{eqb}
use borrow.Author.Tests.{eq-eqb, ne_eqb}
use Rattle.model.specs.Choice.{if_lt}
use Rattle.model.specs.Limits.{max_joins, max_own}
use Rattle.model.specs.Blocks.{Block, no_block, block_at, joins_of, own_of, sum_over, total}
use Rattle.model.specs.Unfolding.{cue_at, renamed, uses_links, links}
use Rattle.model.specs.Paths.{copy_number, number_in, uses_place, place_in}
use Rattle.shows.specs.WellFormed.{Small, small-none, small-more}

module _ (b : Block) (earlier : List Block) (k : ℕ) where
  pub block_at_hit : eqb k (length earlier) ≡ true → block_at (b ∷ earlier) k ≡ b
  unfolding block_at
  block_at_hit e = rw (e, block_at)

  pub block_at_skip : eqb k (length earlier) ≡ false → block_at (b ∷ earlier) k ≡ block_at earlier k
  unfolding block_at
  block_at_skip e = rw (e, block_at)

  pub joins_of-hit : eqb k (length earlier) ≡ true → joins_of (b ∷ earlier) k ≡ b.joins
  unfolding joins_of
  joins_of-hit e = ap (λ (c : Block). c.joins) (block_at_hit e)

  pub joins_of-skip : eqb k (length earlier) ≡ false → joins_of (b ∷ earlier) k ≡ joins_of earlier k
  unfolding joins_of
  joins_of-skip e = ap (λ (c : Block). c.joins) (block_at_skip e)

  pub own_of_hit : eqb k (length earlier) ≡ true → own_of (b ∷ earlier) k ≡ b.own
  unfolding own_of
  own_of_hit e = ap (λ (c : Block). c.own) (block_at_hit e)

  pub own_of_skip : eqb k (length earlier) ≡ false → own_of (b ∷ earlier) k ≡ own_of earlier k
  unfolding own_of
  own_of_skip e = ap (λ (c : Block). c.own) (block_at_skip e)

  pub total-hit : eqb k (length earlier) ≡ true → total (b ∷ earlier) k ≡ b.own + sum_over (total earlier) b.uses
  unfolding total
  total-hit e = rw (e, total)

  pub total-skip : eqb k (length earlier) ≡ false → total (b ∷ earlier) k ≡ total earlier k
  unfolding total
  total-skip e = rw (e, total)

  pub links-hit : (base : ℕ) (met : List ℕ) → eqb k (length earlier) ≡ true
      → links (b ∷ earlier) k base met
      ≡ map (renamed (cue_at b.own base met)) b.links
      ++ uses_links (total earlier) (links earlier) (cue_at b.own base met) (base + b.own) b.uses
  unfolding links
  links-hit base met e = rw (e, links)

  pub links-skip : (base : ℕ) (met : List ℕ) → eqb k (length earlier) ≡ false
      → links (b ∷ earlier) k base met ≡ links earlier k base met
  unfolding links
  links-skip base met e = rw (e, links)

  pub number_in_hit : (base : ℕ) (path : List ℕ) (c : ℕ) → eqb k (length earlier) ≡ true
      → number_in (b ∷ earlier) k base path c ≡ copy_number (total earlier) (number_in earlier) b base path c
  unfolding number_in
  number_in_hit base path c e = rw (e, number_in)

  pub number_in_skip : (base : ℕ) (path : List ℕ) (c : ℕ) → eqb k (length earlier) ≡ false
      → number_in (b ∷ earlier) k base path c ≡ number_in earlier k base path c
  unfolding number_in
  number_in_skip base path c e = rw (e, number_in)

  pub place_in_hit : (n : ℕ) → eqb k (length earlier) ≡ true
      → place_in (b ∷ earlier) k n
      ≡ if_lt b.own n (uses_place (total earlier) (place_in earlier) 1 (n - b.own) b.uses) (record { path = []; block = k; own = n })
  unfolding place_in
  place_in_hit n e = rw (e, place_in)

  pub place_in_skip : (n : ℕ) → eqb k (length earlier) ≡ false → place_in (b ∷ earlier) k n ≡ place_in earlier k n
  unfolding place_in
  place_in_skip n e = rw (e, place_in)

-- The same by the number itself.
module _ (b : Block) (earlier : List Block) (k : ℕ) where
  pub joins-hit : k ≡ length earlier → joins_of (b ∷ earlier) k ≡ b.joins
  joins-hit e = joins_of-hit b earlier k (eq-eqb k (length earlier) e)

  pub joins-skip : k ≢ length earlier → joins_of (b ∷ earlier) k ≡ joins_of earlier k
  joins-skip n = joins_of-skip b earlier k (ne_eqb k (length earlier) n)

-- A block that is not there has no joins; none has more than eight.
pub joins-beyond : (bs : List Block) (k : ℕ) → length bs ≤ k → joins_of bs k ≡ 0
unfolding joins_of block_at no_block
joins-beyond [] k h = refl
joins-beyond (b ∷ earlier) k h = joins-skip b earlier k (λ e. omega arith) ∙ joins-beyond earlier k (omega arith)

-- The first of small blocks.
pub head_small : {b : Block} {earlier : List Block} → Small (b ∷ earlier) → (b.own ≤ max_own) × (b.joins ≤ max_joins)
head_small (small-more j o gs) = (o, j)

pub joins-small : {bs : List Block} (k : ℕ) → Small bs → joins_of bs k ≤ max_joins
joins-small k small-none = let e : joins_of [] k ≡ 0 = joins-beyond [] k (omega arith) in omega arith
joins-small k (small-more {b = b} {earlier = earlier} j o gs) = go (joins-small k gs) (ℕ_discrete k (length earlier))
  where
    go : joins_of earlier k ≤ max_joins → Dec (k ≡ length earlier) → joins_of (b ∷ earlier) k ≤ max_joins
    go below (yes e) = rw (joins-hit b earlier k e) j
    go below (no n) = rw (joins-skip b earlier k n) below

pub own-small : {bs : List Block} (k : ℕ) → Small bs → own_of bs k ≤ max_own
unfolding own_of block_at no_block
own-small k small-none = omega arith
own-small k (small-more {b = b} {earlier = earlier} j o gs) = go (own-small k gs) (ℕ_discrete k (length earlier))
  where
    go : own_of earlier k ≤ max_own → Dec (k ≡ length earlier) → own_of (b ∷ earlier) k ≤ max_own
    go below (yes e) = rw (own_of_hit b earlier k (eq-eqb k (length earlier) e)) o
    go below (no n) = rw (own_of_skip b earlier k (ne_eqb k (length earlier) n)) below
