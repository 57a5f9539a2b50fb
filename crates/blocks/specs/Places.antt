-- A place in a loaded show: the rows of the uses that lead from the show down to a copy, and an own cue there. Rows and levels are counted
-- from 0 here: level 0 is the show, and row l leads from level l to level l + 1.
use Rattle.std.specs.Prelude.{ℕ, zero, suc, ◌+◌, ◌≤◌, ◌<◌, ◌≡◌, List, length, get_or}
use Rattle.model.specs.Limits.{max_depth}
use Rattle.model.specs.Blocks.{blocks_of, last_block}
use Rattle.model.specs.Paths.{number_in}
use Rattle.verdicts.specs.Index.{use_at}
use Rattle.blocks.specs.Loaded.{uses_begin, UseRow}
use Rattle.blocks.specs.declared.Place.{Place}

-- The block at level l.
unfoldable pub block_on : List ℕ → List ℕ → ℕ → ℕ
block_on xs rows zero = last_block (blocks_of xs)
block_on xs rows (suc l) = (use_at xs (blocks_of xs) (get_or rows l 0)).block

-- The first l rows are those of uses, each of the block at its level.
pub record UsesTo (xs rows : List ℕ) (l : ℕ) : Type 0 where
  pub long : l ≤ length rows
  pub at : (j : ℕ) → j < l → UseRow xs (block_on xs rows j) (get_or rows j 0)

-- Step p of a path from block k takes the use of row r: "use positions (1 for the block's first use)".
abbrev pub Takes : List ℕ → ℕ → ℕ → ℕ → Type 0
Takes t k p r = r + 1 ≡ uses_begin t k + p

-- The rows lead along a path from the show.
pub record Along (xs t rows path : List ℕ) : Type 0 where
  pub uses : UsesTo xs rows (length path)
  pub steps : (l : ℕ) → l < length path → Takes t (block_on xs rows l) (get_or path l 0) (get_or rows l 0)

-- The place q, with the rows that lead there, is that of a cue.
pub record Found (xs t rows : List ℕ) (q : Place) : Type 0 where
  pub path : List ℕ
  pub depth : q.depth ≡ length path
  pub deep : q.depth ≤ max_depth
  pub along : Along xs t rows path
  pub block : q.block ≡ block_on xs rows q.depth
  pub number : number_in (blocks_of xs) (last_block (blocks_of xs)) 0 path q.own ≡ q.cue
  pub some : 1 ≤ q.cue
