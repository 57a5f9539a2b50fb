-- A copy in the show, as the code holds it, and the way down to the copy that owns a cue.
use Rattle.std.specs.Prelude.{ℕ, ◌+◌, ◌-◌, ◌≤◌, ◌<◌, ◌≡◌, List, [], ◌∷◌, length, get_or, take}
use Rattle.model.specs.Limits.{max_joins, max_total}
use Rattle.model.specs.Blocks.{Block, Link, block_at, joins_of, own_of, sum_over, total, blocks_of}
use Rattle.model.specs.Unfolding.{cue_at, links}
use Rattle.shows.specs.Copies.{Copy, copy_of, show_copy, after}
use Rattle.verdicts.specs.Index.{use_at}
use Rattle.blocks.specs.Loaded.{IsBlock, uses_begin, column_at}
use Rattle.blocks.specs.Places.{block_on, Takes, Along}
use Rattle.copies.specs.declared.Frame.{Frame}

-- What the joins of a copy meet, the copy as theory has it, and its links.
abbrev pub met_of : List Block → Frame → List ℕ
met_of bs z = take (joins_of bs z.block) z.met

abbrev pub framed : List Block → Frame → Copy
framed bs z = copy_of bs z.block z.base (met_of bs z)

abbrev pub links_of : List Block → Frame → List Link
links_of bs z = links bs z.block z.base (met_of bs z)

-- It is a copy of a block of the show, and its numbers fit.
pub record IsCopy (xs : List ℕ) (z : Frame) : Type 0 where
  pub known : IsBlock xs z.block
  pub size : length z.met ≡ max_joins
  pub small : z.base + total (blocks_of xs) z.block ≤ max_total

-- The number that the cues of the copy of the use of row r follow, in a copy of block k after base.
abbrev pub inner_base : List ℕ → List ℕ → ℕ → ℕ → ℕ → ℕ
inner_base xs t k base r = base + own_of (blocks_of xs) k + sum_over (total (blocks_of xs)) (take (r - uses_begin t k) (block_at (blocks_of xs) k).uses)

-- What a step down may start from: row r is among those of the uses of the copy's block.
pub record MayStep (xs t : List ℕ) (z : Frame) (r : ℕ) : Type 0 where
  pub copy : IsCopy xs z
  pub low : uses_begin t z.block ≤ r
  pub high : r < uses_begin t z.block + length (block_at (blocks_of xs) z.block).uses

-- Where it leads: to the copy of the use of row r.
pub record Stepped (xs t : List ℕ) (z : Frame) (r : ℕ) (y : Frame) : Type 0 where
  pub copy : IsCopy xs y
  pub block : y.block ≡ (use_at xs (blocks_of xs) r).block
  pub leads : (p : ℕ) → Takes t z.block p r → after (framed (blocks_of xs) z) (p ∷ []) ≡ framed (blocks_of xs) y

-- The first columns of a use's row name cues of a block with own own cues; what they meet in a copy
-- of it.
pub record ColumnsFit (xs : List ℕ) (r joins own : ℕ) : Type 0 where
  pub at : (n : ℕ) → n < joins → column_at xs r n ≤ own + max_joins

pub record MeetIs (xs : List ℕ) (r joins own : ℕ) (z : Frame) (out : List ℕ) : Type 0 where
  pub long : length out ≡ max_joins
  pub at : (n : ℕ) → n < joins → get_or out n 0 ≡ cue_at own z.base z.met (column_at xs r n)

-- The copy at level l of the way along some rows: the one at the end of every path that they lead
-- along.
pub record CopyAt (xs t rows : List ℕ) (l : ℕ) (z : Frame) : Type 0 where
  pub copy : IsCopy xs z
  pub block : z.block ≡ block_on xs rows l
  pub at : (path : List ℕ) → length path ≡ l → Along xs t rows path → after (show_copy (blocks_of xs)) path ≡ framed (blocks_of xs) z
