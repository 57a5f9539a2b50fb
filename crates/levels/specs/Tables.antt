-- What a table of levels says, and how the levels of one block change.
use Rattle.std.specs.Prelude.{ℕ, ◌+◌, ◌*◌, ◌≤◌, ◌<◌, ◌≡◌, Bool, true, ◌≢◌, List, length}
use Rattle.model.specs.Choice.{if_eq}
use Rattle.model.specs.Limits.{max_joins, max_blocks}
use Rattle.model.specs.Blocks.{block_at, joins_of, own_of, blocks_of}
use Rattle.model.specs.Behind.{best, opening_row}
use Rattle.shows.specs.Copies.{copy_of, Sound}
use Rattle.verdicts.specs.Index.{use_at}
use Rattle.blocks.specs.Loaded.{UseRow}
use Rattle.levels.specs.Levels.{level, better_level, origins_in, position_of, pairs_size, table_size, level_at, links_level, use_level, uses_level}

-- n is the level of the best link from cue x to cue y of a copy of block k, whatever cues its joins meet.
pub record IsLevel (xs : List ℕ) (k x y n : ℕ) : Type 0 where
  pub at : (base : ℕ) (met : List ℕ) → Sound (copy_of (blocks_of xs) k base met) → n ≡ level (best (origins_in (opening_row xs) (blocks_of xs) k base met x y))

-- Join i of block k, from 0, as one of the block's cues.
abbrev pub join_cue : ℕ → ℕ → ℕ
join_cue own i = own + 1 + i

-- The table is right for the joins of the blocks below end.
pub record Levels (xs m : List ℕ) (end : ℕ) : Type 0 where
  pub long : length m ≡ table_size
  pub at : (k i j : ℕ) → k < end → i < joins_of (blocks_of xs) k → j < joins_of (blocks_of xs) k
      → IsLevel xs k (join_cue (own_of (blocks_of xs) k) i) (join_cue (own_of (blocks_of xs) k) j) (level_at m k i j)

-- And it has none yet for the others.
pub record Fresh (m : List ℕ) (k : ℕ) : Type 0 where
  pub at : (b i j : ℕ) → k ≤ b → i < max_joins → j < max_joins → level_at m b i j ≡ 0

-- The levels of block k, which has so many own cues, are on their way from m to what whole makes of them, and rest is what is still to be made; the
-- others are as they were.
pub record Going (k own : ℕ) (rest whole : ℕ → ℕ → ℕ → ℕ) (m w : List ℕ) : Type 0 where
  pub long : length w ≡ length m
  pub here : (i j : ℕ) → i < max_joins → j < max_joins
      → rest (join_cue own i) (join_cue own j) (level_at w k i j) ≡ whole (join_cue own i) (join_cue own j) (level_at m k i j)
  pub else : (b i j : ℕ) → b ≢ k → i < max_joins → j < max_joins → level_at w b i j ≡ level_at m b i j

-- Nothing is left to be made.
abbrev pub done : ℕ → ℕ → ℕ → ℕ
done x y n = n

abbrev pub Changed : ℕ → ℕ → (ℕ → ℕ → ℕ → ℕ) → List ℕ → List ℕ → Type 0
Changed k own whole m w = Going k own done whole m w

-- Level n is put in from cue a to cue b.
unfoldable pub put_level : ℕ → ℕ → ℕ → ℕ → ℕ → ℕ → ℕ
put_level a b n x y old = if_eq a x (if_eq b y (better_level old n) old) old

-- Cue c of a block with so many own cues is none of its joins.
abbrev pub IsNoJoin : ℕ → ℕ → Type 0
IsNoJoin own c = (i : ℕ) → i < max_joins → c ≡ join_cue own i → ⊥

-- The table has room for block k.
abbrev pub HasPairs : List ℕ → ℕ → Type 0
HasPairs m k = pairs_size * k + pairs_size ≤ length m

-- If r is true, no link leads from join i of block k to another.
pub record Unlinked (m : List ℕ) (k i : ℕ) (r : Bool) : Type 0 where
  pub none : r ≡ true → (j : ℕ) → j < max_joins → level_at m k i j ≡ 0

-- The joins of the block that the use of row r names.
abbrev pub used_joins : List ℕ → ℕ → ℕ
used_joins xs r = joins_of (blocks_of xs) (use_at xs (blocks_of xs) r).block

-- What may be lifted through the use of row r of block k: the levels of the block that it names are small.
pub record MayLift (xs m : List ℕ) (k r : ℕ) : Type 0 where
  pub row : UseRow xs k r
  pub room : HasPairs m k
  pub few : used_joins xs r ≤ max_joins
  pub small : (i j : ℕ) → i < used_joins xs r → j < used_joins xs r → level_at m (use_at xs (blocks_of xs) r).block i j ≤ max_blocks

-- What the links of block k make of a level; what its uses do, and one use, that of row r.
abbrev pub links_put : List ℕ → ℕ → ℕ → ℕ → ℕ → ℕ
links_put xs k = links_level (block_at (blocks_of xs) k).links

abbrev pub uses_lift : List ℕ → List ℕ → ℕ → ℕ → ℕ → ℕ → ℕ
uses_lift xs m k = uses_level m (block_at (blocks_of xs) k).uses

unfoldable pub use_lift : List ℕ → List ℕ → ℕ → ℕ → ℕ → ℕ → ℕ
use_lift xs m r x y n = better_level n (use_level m (use_at xs (blocks_of xs) r) x y)

-- The same of the use, where x is met by its join i; and where y is met by its join j too.
unfoldable pub join_lift : List ℕ → List ℕ → ℕ → ℕ → ℕ → ℕ → ℕ → ℕ
join_lift xs m r i x y n = if_eq (position_of (use_at xs (blocks_of xs) r).at x) i (use_lift xs m r x y n) n

unfoldable pub pair_lift : List ℕ → List ℕ → ℕ → ℕ → ℕ → ℕ → ℕ → ℕ → ℕ
pair_lift xs m r i j x y n =
    if_eq (position_of (use_at xs (blocks_of xs) r).at x) i (if_eq (position_of (use_at xs (blocks_of xs) r).at y) j (use_lift xs m r x y n) n) n
