-- The ring show by computation: its rows are accepted and stand for its blocks; and what the demands on unfolding, numbers, the rows behind follow-ons and
-- notes say of it, after its single steps (RingSteps) and those of its block 1 alone, of a show with several links between two cues, and of a block with a
-- note. Nothing here rests on a law, so a definition that does not meet these demands is refused here by itself.
use Prim.Native.Nat.{ℕ, suc, ◌≤◌, ◌<◌}
use native.Mathlib.Omega.{arith}
use mathlib.Core.Path.{◌≡◌, refl}
use mathlib.Core.Bool.{Bool, true, false}
use mathlib.Core.List.{List, [], ◌∷◌, ◌++◌, map}
use lib.Dec.{eqb}
use Rattle.model.specs.Choice.{if_lt, if_eq, if_true}
use Rattle.model.specs.Limits.{no_chain}
use Rattle.model.specs.Rows.{cell, row_at, rows_from, row_count, rows_of}
use Rattle.model.specs.Blocks.{Link, Block, no_block, block_at, joins_of, own_of, add_link, add_use, add_row, add_rows, blocks_of, sum_over, total, last_block, count}
use Rattle.model.specs.Rules.{start, cues_in, may_open, goes_on, may_follow, columns_used, named, every, is_cue, is_zero, label_fits, own_fits, in_range, differs, distinct, is_below, link_key, use_key, in_order, fault, after}
use Rattle.model.specs.Verdicts.{refusal, refused, and_then, check_length, check_rows, opening_rows, check_blocks, may_stand, total_fits, verdict, Accepted}
use Rattle.model.specs.Unfolding.{cue_at, renamed, uses_links, links, show_links}
use Rattle.model.specs.Paths.{own_number, uses_number, copy_number, number_in, nowhere, step_then, uses_place, place_in}
use Rattle.model.specs.Lists.{range, keep, cues_after, is_linked, is_out, is_into}
use Rattle.model.specs.Chains.{followed, Far, Unreachable, is_in, successors, search_from, fewest}
use Rattle.model.specs.Summaries.{block_links, or_none, summary, summary_by}
use Rattle.model.specs.Behind.{Origin, Stands, Missing, step_into, traced_into, rows_traced, uses_traced, traced, opening_row, show_traced, origins, depth_wins, steps_win, better, winner, best, behind}
use Rattle.model.specs.Ring.{ring_with, ring, noted_ring, opening}
use Rattle.shows.specs.Copies.{nth_use, after as copy-after, ends, goes}
use Rattle.shows.specs.Numbering.{used_by, block_after}
use Rattle.demands.specs.Replacement.{node_number, node_at, end_number, by_numbers}
use Rattle.demands.specs.Numbers.{Before, own-order, own_first, use_order_lem, same-use}
use Rattle.demands.specs.Acceptance.{here}
use Rattle.demands.specs.RowBehind.{StandsAs, Wins, by-depth, by-step, by_row}
use Rattle.demands.proofs.RingSteps.{link-of, use_of, bs, a, b, c, d, e, after-4, alone_3, met-1, met-2}

-- How often a thing stands in a list, and that two lists have each thing as often.
module _ {A : Type 0} (same : A → A → Bool) where
  times : A → List A → ℕ
  times x [] = 0
  times x (y ∷ ys) = if_true (same x y) (suc (times x ys)) (times x ys)

  as_often : List A → List A → List A → Bool
  as_often [] xs ys = true
  as_often (z ∷ zs) xs ys = if_eq (times z xs) (times z ys) (as_often zs xs ys) false

  alike : List A → List A → Bool
  alike xs ys = as_often (xs ++ ys) xs ys

same-link : Link → Link → Bool
same-link l m = if_eq l.from m.from (if_eq l.to m.to (if_eq l.label m.label true false) false) false

rises : List ℕ → Bool
rises [] = true
rises (x ∷ []) = true
rises (x ∷ y ∷ ys) = if_lt x y (rises (y ∷ ys)) false

-- Its rows are accepted, and so are those with a note, and a single opening row with one own cue.
pub ring-accepted : verdict ring ≡ Accepted
unfolding if_lt if_eq if_true cell row_at rows_from row_count rows_of start cues_in may_open goes_on may_follow columns_used named every is_cue is_zero label_fits own_fits in_range differs distinct is_below link_key use_key in_order fault after no_block block_at joins_of own_of add_link add_use add_row add_rows blocks_of sum_over total refusal refused and_then check_length check_rows opening_rows check_blocks may_stand total_fits verdict
ring-accepted = refl

pub noted_accepted : verdict noted_ring ≡ Accepted
unfolding if_lt if_eq if_true cell row_at rows_from row_count rows_of start cues_in may_open goes_on may_follow columns_used named every is_cue is_zero label_fits own_fits in_range differs distinct is_below link_key use_key in_order fault after no_block block_at joins_of own_of add_link add_use add_row add_rows blocks_of sum_over total refusal refused and_then check_length check_rows opening_rows check_blocks may_stand total_fits verdict
noted_accepted = refl

pub opening-accepted : verdict (opening 1) ≡ Accepted
unfolding if_lt if_eq if_true cell row_at rows_from row_count rows_of start cues_in may_open goes_on may_follow columns_used named every is_cue is_zero label_fits own_fits in_range differs distinct is_below link_key use_key in_order fault after no_block block_at joins_of own_of add_link add_use add_row add_rows blocks_of sum_over total refusal refused and_then check_length check_rows opening_rows check_blocks may_stand total_fits verdict
opening-accepted = refl

ring-blocks : blocks_of ring ≡ bs
unfolding if_lt if_eq cell row_at rows_from row_count rows_of no_block block_at joins_of add_link add_use add_row add_rows blocks_of
ring-blocks = refl

-- Its links, each cue replaced by its number, are those of the unfolded show; its cues have the numbers 1 to the count.
ring-links : alike same-link (map (by_numbers bs (last_block bs)) after-4.links) (show_links bs) ≡ true
unfolding alike as_often times same-link by_numbers end_number node_number if_lt if_eq if_true block_at sum_over total last_block cue_at renamed uses_links links show_links own_number uses_number copy_number number_in
ring-links = refl

ring-cues : alike eqb (map (node_number bs (last_block bs)) after-4.cues) (range 1 (count bs)) ≡ true
unfolding alike as_often times node_number range if_lt if_eq if_true sum_over total last_block count own_number uses_number copy_number number_in
ring-cues = refl

-- Each number names a cue that has this number.
ring-places : alike eqb (map (node_number bs (last_block bs)) (map (node_at bs (last_block bs)) (range 1 (count bs)))) (range 1 (count bs)) ≡ true
unfolding alike as_often times node_number node_at range if_lt if_eq if_true sum_over total last_block count own_number uses_number copy_number number_in nowhere step_then uses_place place_in
ring-places = refl

-- Block 1 alone. Its links by number are those of "that block's own unfolding"; its cues have the numbers 1 to 3, which is its total, and what its joins
-- meet the two after.
alone_links : alike same-link (map (by_numbers bs 1) alone_3.links) (block_links bs 1) ≡ true
unfolding alike as_often times same-link by_numbers end_number node_number range if_lt if_eq if_true block_at joins_of sum_over total cue_at renamed uses_links links block_links own_number uses_number copy_number number_in
alone_links = refl

alone_cues : (total bs 1 ≡ 3)
    × (alike eqb (map (node_number bs 1) alone_3.cues) (range 1 (total bs 1)) ≡ true)
    × (map (end_number bs 1) (met-1 ∷ met-2 ∷ []) ≡ 4 ∷ 5 ∷ [])
unfolding alike as_often times end_number node_number range if_lt if_eq if_true block_at sum_over total own_number uses_number copy_number number_in
alone_cues = (refl, refl, refl)

-- "own cues first, then the cues of its uses in order": the five cues in this order, and their numbers rise.
in_order_is : Before [] 1 [] 2 × Before [] 2 (1 ∷ []) 1 × Before (1 ∷ []) 1 (1 ∷ 1 ∷ []) 1 × Before (1 ∷ 1 ∷ []) 1 (1 ∷ 2 ∷ []) 1
in_order_is = let h : 1 < 2 = omega arith in (own-order h, own_first, same-use refl own_first, same-use refl (use_order_lem h))

ring-order : rises (map (node_number bs (last_block bs)) (a ∷ b ∷ c ∷ d ∷ e ∷ [])) ≡ true
unfolding rises node_number if_lt if_eq sum_over total last_block own_number uses_number copy_number number_in
ring-order = refl

-- Row 2 stands as the follow-on from cue 4 to cue 2 in the copy of block 0 that the first use of the show's first use is,
pub ring-stands : StandsAs ring 4 2 (1 ∷ 1 ∷ []) 2
unfolding if_lt if_eq cell row_at rows_from row_count rows_of no_block block_at joins_of add_link add_use add_row add_rows blocks_of sum_over total last_block cue_at nth_use copy-after used_by block_after
ring-stands =
    let l : 1 ≤ 1 = omega arith in
    let m : 1 ≤ 2 = omega arith in
    let n : 2 ≤ 9 = omega arith in
    record {
      steps = goes l l (goes l m ends);
      is = (m, n);
      links = refl;
      block = refl;
      from = refl;
      to = refl;
    }

-- and it is the row behind that follow-on, as these are behind the others; there is none behind one that the ring lacks.
abbrev at_path : List ℕ → ℕ → Origin
at_path path row = record { path = path; row = row }

ring-rows : (behind ring 4 2 ≡ Stands (at_path (1 ∷ 1 ∷ []) 2))
    × (behind ring 2 1 ≡ Stands (at_path [] 8))
    × (behind ring 3 4 ≡ Stands (at_path (1 ∷ 1 ∷ []) 3))
    × (behind ring 5 3 ≡ Stands (at_path (1 ∷ 2 ∷ []) 2))
    × (behind ring 1 5 ≡ Stands (at_path (1 ∷ 2 ∷ []) 3))
    × (behind ring 2 4 ≡ Missing)
unfolding if_lt if_eq if_true cell row_at rows_from row_count rows_of no_block block_at joins_of add_link add_use add_row add_rows blocks_of sum_over total last_block cue_at renamed opening_rows step_into traced_into rows_traced uses_traced traced opening_row show_traced origins depth_wins steps_win better winner best behind
ring-rows = (refl, refl, refl, refl, refl, refl)

-- A show in which several links join two cues: block 0 has two joins, no own cue, and two links from the first join to the second; the show has a link from
-- its cue 2 to its cue 1, uses block 0 from 1 to 2 twice, and from 2 to 1.
abbrev several : List ℕ
several =
    0 ∷ 0 ∷ 2 ∷ 0 ∷ 0 ∷ 0 ∷ 0 ∷ 0 ∷ 0 ∷ 0 ∷ 0
    ∷ 0 ∷ 1 ∷ 1 ∷ 1 ∷ 2 ∷ 0 ∷ 0 ∷ 0 ∷ 0 ∷ 0 ∷ 0
    ∷ 0 ∷ 1 ∷ 2 ∷ 1 ∷ 2 ∷ 0 ∷ 0 ∷ 0 ∷ 0 ∷ 0 ∷ 0
    ∷ 1 ∷ 0 ∷ 0 ∷ 2 ∷ 0 ∷ 0 ∷ 0 ∷ 0 ∷ 0 ∷ 0 ∷ 0
    ∷ 1 ∷ 1 ∷ 1 ∷ 2 ∷ 1 ∷ 0 ∷ 0 ∷ 0 ∷ 0 ∷ 0 ∷ 0
    ∷ 1 ∷ 2 ∷ 0 ∷ 1 ∷ 2 ∷ 0 ∷ 0 ∷ 0 ∷ 0 ∷ 0 ∷ 0
    ∷ 1 ∷ 2 ∷ 0 ∷ 1 ∷ 2 ∷ 0 ∷ 0 ∷ 0 ∷ 0 ∷ 0 ∷ 0
    ∷ 1 ∷ 2 ∷ 0 ∷ 2 ∷ 1 ∷ 0 ∷ 0 ∷ 0 ∷ 0 ∷ 0 ∷ 0 ∷ []

several_accepted : verdict several ≡ Accepted
unfolding if_lt if_eq if_true cell row_at rows_from row_count rows_of start cues_in may_open goes_on may_follow columns_used named every is_cue is_zero label_fits own_fits in_range differs distinct is_below link_key use_key in_order fault after no_block block_at joins_of own_of add_link add_use add_row add_rows blocks_of sum_over total refusal refused and_then check_length check_rows opening_rows check_blocks may_stand total_fits verdict
several_accepted = refl

-- From 1 to 2 the first of the two uses wins, and in it the smaller row; from 2 to 1 the show's own link, whose path is shorter.
several_rows : (behind several 1 2 ≡ Stands (at_path (1 ∷ []) 2)) × (behind several 2 1 ≡ Stands (at_path [] 5))
unfolding if_lt if_eq if_true cell row_at rows_from row_count rows_of no_block block_at joins_of add_link add_use add_row add_rows blocks_of sum_over total last_block cue_at renamed opening_rows step_into traced_into rows_traced uses_traced traced opening_row show_traced origins depth_wins steps_win better winner best behind
several_rows = (refl, refl)

several_wins : Wins (1 ∷ []) 2 (2 ∷ []) 2 × Wins (1 ∷ []) 2 (1 ∷ []) 3 × Wins [] 5 (3 ∷ []) 2
several_wins = let h : 1 < 2 = omega arith in (by-step refl (here h), by_row refl (omega arith), by-depth (omega arith))

-- The ring with a note from cue 2 to cue 1: no chain has it, so none leads there, though by all links one does; with label 254 it is followed. The
-- lists and the row behind it still show it.
ring-note : (fewest (show_links (blocks_of noted_ring)) 5 2 1 ≡ Unreachable)
    × (search_from (show_links (blocks_of noted_ring)) 1 5 0 (2 ∷ []) ≡ Far 1)
    × (fewest (show_links (blocks_of (ring_with 254))) 5 2 1 ≡ Far 1)
    × (cues_after (is_out (show_links (blocks_of noted_ring)) 2) 5 0 ≡ 1 ∷ [])
    × (cues_after (is_into (show_links (blocks_of noted_ring)) 1) 5 0 ≡ 2 ∷ [])
    × (behind noted_ring 2 1 ≡ Stands (at_path [] 8))
unfolding if_lt if_eq if_true cell row_at rows_from row_count rows_of no_block block_at joins_of add_link add_use add_row add_rows blocks_of sum_over total last_block cue_at renamed uses_links links show_links followed is_in successors search_from fewest range keep cues_after is_linked is_out is_into opening_rows step_into traced_into rows_traced uses_traced traced opening_row show_traced origins depth_wins steps_win better winner best behind
ring-note = (refl, refl, refl, refl, refl, refl)

-- Block 0 with two joins and a link of this label from the first to the second; block 1 uses it between its own two joins, and the show uses block 1 from
-- its cue 1 to its cue 2.
abbrev through : ℕ → List Block
through label =
    record { joins = 0; own = 2; links = []; uses = use_of 1 (1 ∷ 2 ∷ []) ∷ [] }
    ∷ record { joins = 2; own = 0; links = []; uses = use_of 0 (1 ∷ 2 ∷ []) ∷ [] }
    ∷ record { joins = 2; own = 0; links = link-of 1 2 label ∷ []; uses = [] } ∷ []

-- With a note: no chain in either block, none in the show, though by all links there is one. With label 254: one link, in the block that has it and in the
-- one that uses that.
noted_summaries : (summary (through 255) 0 1 2 ≡ no_chain)
    × (summary (through 255) 1 1 2 ≡ no_chain)
    × (search_from (block_links (through 255) 1) 2 2 0 (1 ∷ []) ≡ Far 1)
    × (fewest (show_links (through 255)) 2 1 2 ≡ Unreachable)
    × (summary (through 254) 0 1 2 ≡ 1)
    × (summary (through 254) 1 1 2 ≡ 1)
    × (summary (through 254) 1 2 1 ≡ no_chain)
unfolding if_lt block_at joins_of sum_over total last_block cue_at renamed uses_links links show_links range followed is_in successors search_from fewest block_links or_none summary_by
noted_summaries = (refl, refl, refl, refl, refl, refl, refl)
