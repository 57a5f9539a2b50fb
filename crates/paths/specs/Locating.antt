-- The way down to a cue: where a cue of a copy of a block is, and the rows of the uses that lead there.
use Rattle.std.specs.Prelude.{ℕ, zero, suc, ◌+◌, ◌≤◌, ◌<◌, ◌≡◌, List, [], ◌∷◌, ◌++◌, length, get_or, take, drop}
use Rattle.model.specs.Limits.{max_depth}
use Rattle.model.specs.Blocks.{Use, block_at, sum_over, total, blocks_of, last_block}
use Rattle.model.specs.Paths as paths
use Rattle.model.specs.Lists.{overwrite}
use Rattle.verdicts.specs.Index.{use_at}
use Rattle.blocks.specs.Loaded.{Loaded, IsBlock, uses_begin, UseRow}
use Rattle.blocks.specs.Places.{block_on, Takes}
use Rattle.blocks.specs.declared.Place.{Place}

-- The place of cue n as it is answered.
abbrev pub place_of : ℕ → paths.Place → Place
place_of n q = record { cue = n; depth = length q.path; block = q.block; own = q.own }

-- The uses of block k, and how many cues some uses stand for.
abbrev pub uses_of : List ℕ → ℕ → List Use
uses_of xs k = (block_at (blocks_of xs) k).uses

abbrev pub cues_of : List ℕ → List Use → ℕ
cues_of xs us = sum_over (total (blocks_of xs)) us

-- Where cue n of a copy of block k is, and cue n of the copies of its uses.
abbrev pub in_copy : List ℕ → ℕ → ℕ → paths.Place
in_copy xs k n = paths.place_in (blocks_of xs) k n

abbrev pub in_uses : List ℕ → ℕ → ℕ → paths.Place
in_uses xs k n = paths.uses_place (total (blocks_of xs)) (paths.place_in (blocks_of xs)) 1 n (uses_of xs k)

-- What is asked for cue n, of so many of block k's, with a lent list: the rows so far and those to come have room in it.
pub record MayLocate (xs t lent : List ℕ) (k cues n depth : ℕ) : Type 0 where
  pub loaded : Loaded xs t
  pub block : IsBlock xs k
  pub low : 1 ≤ n
  pub high : n ≤ cues
  pub short : depth + k ≤ max_depth
  pub room : max_depth ≤ length lent

-- Row r is that of a use of block k, and not before the first of them.
pub record UseFrom (xs t : List ℕ) (k r : ℕ) : Type 0 where
  pub row : UseRow xs k r
  pub from : uses_begin t k ≤ r

-- The rows of a list are those of the uses that a path from block k takes.
pub data Descends (xs t : List ℕ) : ℕ → List ℕ → List ℕ → Type 0 where
  ends : {k : ℕ} → Descends xs t k [] []
  goes : {k r p : ℕ} {rows path : List ℕ} → UseFrom xs t k r → Takes t k p r → Descends xs t (use_at xs (blocks_of xs) r).block rows path
      → Descends xs t k (r ∷ rows) (p ∷ path)

-- The block l uses below block k, along the rows of these uses.
unfoldable pub block_below : List ℕ → ℕ → List ℕ → ℕ → ℕ
block_below xs k rows zero = k
block_below xs k rows (suc l) = (use_at xs (blocks_of xs) (get_or rows l 0)).block

-- What is answered of a place q in a copy of block k, and what the lent list holds afterwards, where so many of its rows are those before.
pub record Reached (xs t : List ℕ) (k before : ℕ) (q : paths.Place) (lent : List ℕ) (depth block own : ℕ) (after : List ℕ) : Type 0 where
  pub deep : depth ≡ before + length q.path
  pub copy : block ≡ q.block
  pub cue : own ≡ q.own
  pub rows : List ℕ
  pub leads : Descends xs t k rows q.path
  pub end : block ≡ block_below xs k rows (length rows)
  pub written : after ≡ take before lent ++ overwrite rows (drop before lent)

-- The first rows of a list, so many of them, are those of uses on a way down from the show.
pub record Down (xs t rows : List ℕ) (depth : ℕ) : Type 0 where
  pub deep : depth ≤ max_depth
  pub long : depth ≤ length rows
  pub at : (l : ℕ) → l < depth → UseFrom xs t (block_on xs rows l) (get_or rows l 0)

-- They have become the positions of these uses; the others are as they were.
pub record Positions (xs t rows : List ℕ) (depth : ℕ) (after : List ℕ) : Type 0 where
  pub long : length after ≡ length rows
  pub done : (l : ℕ) → l < depth → Takes t (block_on xs rows l) (get_or after l 0) (get_or rows l 0)
  pub else : (l : ℕ) → depth ≤ l → get_or after l 0 ≡ get_or rows l 0

-- The place of cue n of the show, and what the lent list holds afterwards: the rows of the uses that lead there, then what it held.
pub record IsReached (xs t : List ℕ) (n : ℕ) (lent : List ℕ) (place : Place) (after : List ℕ) : Type 0 where
  pub cue : place.cue ≡ n
  pub down : Reached xs t (last_block (blocks_of xs)) 0 (in_copy xs (last_block (blocks_of xs)) n) lent place.depth place.block place.own after
