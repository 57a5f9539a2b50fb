-- The best row of a copy itself, and the use that leads on to the best row below it.
use Rattle.std.specs.Prelude.{ℕ, suc, ◌+◌, ◌-◌, ◌≤◌, ◌<◌, ◌≡◌, ◌≢◌, Bool, true, false, List, [], ◌∷◌, map, get_or}
use Rattle.std.specs.Prelude.{Option, None, Some, IfSome, MatchOption}
use Rattle.model.specs.Choice.{if_eq, if_true}
use Rattle.model.specs.Blocks.{Link, block_at, own_of, total, blocks_of}
use Rattle.model.specs.Behind.{uses_traced, traced, opening_row, origins, depth_wins, Behind, Missing, winner, best}
use Rattle.shows.specs.WellFormed.{Cue}
use Rattle.shows.specs.Copies.{number, copy_of, Sound}
use Rattle.shows.specs.Origins.{into}
use Rattle.verdicts.specs.Index.{use_at, uses_from}
use Rattle.blocks.specs.Loaded.{IsBlock, uses_begin, UseRows, UseRow}
use Rattle.copies.specs.Copies.{inner_base}
use Rattle.levels.specs.Tables.{IsLevel, join_cue, Levels, used_joins}
use Rattle.behind.specs.declared.Pair.{Pair}
use Rattle.behind.specs.declared.Lead.{Lead}

-- The number of the first of some links' rows, from row r on, that leads from x to y; 0 if none does.
unfoldable pub row_between : ℕ → ℕ → ℕ → List Link → ℕ
row_between x y r [] = 0
row_between x y r (l ∷ ls) = if_eq l.from x (if_eq l.to y r (row_between x y (suc r) ls)) (row_between x y (suc r) ls)

-- The code has such a number as an Option: none where it is 0.
abbrev pub IsFound : Option ℕ → ℕ → Type 0
IsFound o n = MatchOption o (n ≡ 0) (λ k. (k ≢ 0) × (n ≡ k))

-- The level of the link that a lead leads to; 0 where there is no lead.
unfoldable pub level_of : Option Lead → ℕ
level_of None = 0
level_of (Some b) = b.level

-- A level is better than one found before; 0 is none.
unfoldable pub beats_level : ℕ → ℕ → Bool
beats_level n old = if_eq n 0 false (if_eq old 0 true (depth_wins n old))

-- The way ends in a copy with its own row, or without any, unless a use leads on to a better one: level n is that below the use.
unfoldable pub stays_here : ℕ → ℕ → Bool
stays_here row n = if_eq n 0 true (if_eq row 0 false (if_true (depth_wins (n + 1) 1) false true))

-- Which use of block k the row r is, from 1.
abbrev pub step_of : List ℕ → ℕ → ℕ → ℕ
step_of t k r = r + 1 - uses_begin t k

-- What may be asked of two cues of a block: the levels of the blocks below are made.
pub record MayLead (xs m : List ℕ) (c : Pair) : Type 0 where
  pub block : IsBlock xs c.block
  pub levels : Levels xs m c.block
  pub from : Cue (block_at (blocks_of xs) c.block) c.from
  pub to : Cue (block_at (blocks_of xs) c.block) c.to

-- Row r is one of those of block k's uses.
pub record UsesRow (xs t : List ℕ) (k r : ℕ) : Type 0 where
  pub first : ℕ
  pub end : ℕ
  pub rows : UseRows xs t k first end
  pub low : first ≤ r
  pub high : r < end

-- The use of a lead: its row stands before row r, its joins meet the two cues, and its level is that of the best link between these joins: there is one.
pub record Led (xs t : List ℕ) (c : Pair) (r : ℕ) (b : Lead) : Type 0 where
  pub row : UsesRow xs t c.block b.row
  pub earlier : b.row < r
  pub from-join : b.from < used_joins xs b.row
  pub to-join : b.to < used_joins xs b.row
  pub from-cue : get_or (use_at xs (blocks_of xs) b.row).at b.from 0 ≡ c.from
  pub to-cue : get_or (use_at xs (blocks_of xs) b.row).at b.to 0 ≡ c.to
  pub level : IsLevel xs (use_at xs (blocks_of xs) b.row).block (join_cue (own_of (blocks_of xs) (use_at xs (blocks_of xs) b.row).block) b.from)
      (join_cue (own_of (blocks_of xs) (use_at xs (blocks_of xs) b.row).block) b.to) b.level
  pub some : b.level ≢ 0

abbrev pub IsLead : List ℕ → List ℕ → Pair → ℕ → Option Lead → Type 0
IsLead xs t c r o = IfSome o (λ b. Led xs t c r b)

-- In a copy of the block: the best link of the part that the use of row r makes, and of the parts that the uses of rows r to end make.
abbrev pub part_best : List ℕ → List ℕ → Pair → ℕ → List ℕ → ℕ → Behind
part_best xs t c base met r =
    best
    (origins (number (copy_of (blocks_of xs) c.block base met) c.from) (number (copy_of (blocks_of xs) c.block base met) c.to)
    (traced (opening_row xs) (blocks_of xs) (use_at xs (blocks_of xs) r).block (inner_base xs t c.block base r)
    (map (number (copy_of (blocks_of xs) c.block base met)) (use_at xs (blocks_of xs) r).at)))

abbrev pub parts_best : List ℕ → List ℕ → Pair → ℕ → List ℕ → ℕ → ℕ → Behind
parts_best xs t c base met r end =
    best
    (origins (number (copy_of (blocks_of xs) c.block base met) c.from) (number (copy_of (blocks_of xs) c.block base met) c.to)
    (uses_traced (total (blocks_of xs)) (traced (opening_row xs) (blocks_of xs)) (number (copy_of (blocks_of xs) c.block base met)) (step_of t c.block r)
    (inner_base xs t c.block base r) (uses_from xs (blocks_of xs) r (end - r))))

-- The best link that a lead leads to, if there is a lead.
unfoldable pub led_to : List ℕ → List ℕ → Pair → ℕ → List ℕ → Option Lead → Behind
led_to xs t c base met None = Missing
led_to xs t c base met (Some b) = into (step_of t c.block b.row) (part_best xs t c base met b.row)

-- After the use of row r was tried, the lead is the better of the two, in every copy of the block.
pub record Tried (xs t : List ℕ) (c : Pair) (r : ℕ) (old new : Option Lead) : Type 0 where
  pub lead : IsLead xs t c (r + 1) new
  pub won : (base : ℕ) (met : List ℕ) → Sound (copy_of (blocks_of xs) c.block base met)
      → winner (led_to xs t c base met old) (into (step_of t c.block r) (part_best xs t c base met r)) ≡ led_to xs t c base met new

-- The lead is the best of the uses before row r, in every copy of the block: with those from there on it makes the best of all, up to row end.
pub record LeadsTo (xs t : List ℕ) (c : Pair) (first end r : ℕ) (b : Option Lead) : Type 0 where
  pub lead : IsLead xs t c r b
  pub best : (base : ℕ) (met : List ℕ) → Sound (copy_of (blocks_of xs) c.block base met)
      → parts_best xs t c base met first end ≡ winner (led_to xs t c base met b) (parts_best xs t c base met r end)

-- The lead is the best of all uses.
pub record BestLead (xs t : List ℕ) (c : Pair) (b : Option Lead) : Type 0 where
  pub end : ℕ
  pub lead : IsLead xs t c end b
  pub best : (base : ℕ) (met : List ℕ) → Sound (copy_of (blocks_of xs) c.block base met)
      → best (origins (number (copy_of (blocks_of xs) c.block base met) c.from) (number (copy_of (blocks_of xs) c.block base met) c.to)
      (uses_traced (total (blocks_of xs)) (traced (opening_row xs) (blocks_of xs)) (number (copy_of (blocks_of xs) c.block base met)) 1
      (base + own_of (blocks_of xs) c.block) (block_at (blocks_of xs) c.block).uses))
      ≡ led_to xs t c base met b

-- The use that a lead names, and the two cues in the copy that it leads to.
pub record MayFollow (xs : List ℕ) (b : Lead) : Type 0 where
  pub k : ℕ
  pub row : UseRow xs k b.row
  pub from : b.from < used_joins xs b.row
  pub to : b.to < used_joins xs b.row

pub record Followed (xs : List ℕ) (b : Lead) (c : Pair) : Type 0 where
  pub block : c.block ≡ (use_at xs (blocks_of xs) b.row).block
  pub from : c.from ≡ join_cue (own_of (blocks_of xs) c.block) b.from
  pub to : c.to ≡ join_cue (own_of (blocks_of xs) c.block) b.to
