-- The starred cases of document 01, "The ring show", and some of its other examples and of document 02's, as one table. proofs/Starred.antt proves it by
-- computation. Figures stand as the documents have them, not by the names of Limits.
use Rattle.std.specs.Prelude.{ℕ, ◌≡◌, replicate}
use Rattle.std.proofs.Math.Bool.{true, false}
use mathlib.Core.List.{List, [], ◌∷◌, ◌++◌}
use Rattle.std.proofs.Math.ListN.{drop}
use Rattle.model.specs.Values.{run, decimal, is_value}
use Rattle.model.specs.Blocks.{Link, blocks_of, total}
use Rattle.model.specs.Verdicts.{refusal}
use Rattle.model.specs.Unfolding.{show_links}
use Rattle.model.specs.Answers.{returned, given}
use Rattle.model.specs.Questions.{answer, refuse, read_asked, write_asked, count_asked, locate_asked, number_asked, out_asked, in_asked, row_asked, fewest_asked, quickest_asked}
use Rattle.model.specs.Printed.{triples, printed}
use Rattle.model.specs.Ring.{ring, noted_ring, ring_file, noted_file, ring_printed, noted_printed, opening, opening_file, padded_file}
use Rattle.model.specs.Ring.{detour, waits_of, ones_wait, ring_waits, long_waits, detour_waits, cut_waits, outside_waits, twice_waits}

-- Lent lists hold 7s before the call, so that a place which must not change is seen.
abbrev pub lent_path : List ℕ
lent_path = replicate 127 7

abbrev pub lent_work : List ℕ
lent_work = replicate 16384 7 ++ (7 ∷ 7 ∷ [])

abbrev pub arrow : ℕ → ℕ → ℕ → Link
arrow from to label = record { from = from; to = to; label = label }

-- The summary of a block with two joins, where a chain of n links leads from the first to the second and none back.
abbrev pub one_way : ℕ → List ℕ
one_way n = (0 ∷ n ∷ replicate 6 4294967295) ++ (4294967295 ∷ 0 ∷ replicate 6 4294967295) ++ replicate 48 4294967295

-- The work area after fewest was asked of the ring show: blocks 0, 1 and 2, zeros, and two numbers beyond.
abbrev pub ring_work : List ℕ
ring_work = one_way 2 ++ one_way 4 ++ replicate 64 4294967295 ++ replicate 16192 0 ++ (7 ∷ 7 ∷ [])

-- The work area after a quickest answer.
abbrev pub cleared_work : List ℕ
cleared_work = replicate 16384 0 ++ (7 ∷ 7 ∷ [])

pub record Starred : Type 0 where
  -- *totals 1, 3, 5 for blocks 0, 1, 2
  pub total-0 : total (blocks_of ring) 0 ≡ 1
  pub total-1 : total (blocks_of ring) 1 ≡ 3
  pub total-2 : total (blocks_of ring) 2 ≡ 5
  pub cues : count_asked ring ≡ given (5 ∷ [])
  -- *cue 5: path 1, 2, block 0, own cue 1; *cue 3: path 1, block 1, own cue 1; *cue 1: empty path
  pub cue-5 : locate_asked ring 5 lent_path ≡ answer (2 ∷ 0 ∷ 1 ∷ []) (1 ∷ 2 ∷ drop 2 lent_path)
  pub cue-3 : locate_asked ring 3 lent_path ≡ answer (1 ∷ 1 ∷ 1 ∷ []) (1 ∷ drop 1 lent_path)
  pub cue-1 : locate_asked ring 1 lent_path ≡ answer (0 ∷ 2 ∷ 1 ∷ []) lent_path
  -- *fewest 1 to 2 is 4; *2 to 1 is 1; *1 to 1 is 0; *4 to 3 is 4
  pub fewest-1_2 : fewest_asked ring 1 2 lent_work ≡ answer (1 ∷ 4 ∷ []) ring_work
  pub fewest-2_1 : fewest_asked ring 2 1 lent_work ≡ answer (1 ∷ 1 ∷ []) ring_work
  pub fewest-1_1 : fewest_asked ring 1 1 lent_work ≡ answer (1 ∷ 0 ∷ []) ring_work
  pub fewest-4_3 : fewest_asked ring 4 3 lent_work ≡ answer (1 ∷ 4 ∷ []) ring_work
  -- *list out of 4 after 0 is 2; *after 2 it is empty with no more
  pub out_4_0 : out_asked ring 4 0 (7 ∷ 7 ∷ []) ≡ answer (1 ∷ 0 ∷ []) (2 ∷ 7 ∷ [])
  pub out_4_2 : out_asked ring 4 2 (7 ∷ 7 ∷ []) ≡ answer (0 ∷ 0 ∷ []) (7 ∷ 7 ∷ [])
  -- *a single opening row `0,0,0,1,...` has one cue; with own 0: refusal 9 at row 1
  pub single : count_asked (opening 1) ≡ given (1 ∷ [])
  pub empty : count_asked (opening 0) ≡ returned (refusal 9 1)
  -- Beside the starred ones: the way back from a path; cue 6 and cue 0; who leads to 3, on a page of length 0 too; the links and
  -- what the unfolding program prints; the file, read and written.
  pub path-5 : number_asked ring (1 ∷ 2 ∷ []) 1 ≡ given (5 ∷ [])
  pub path-3 : number_asked ring (1 ∷ []) 1 ≡ given (3 ∷ [])
  pub path-1 : number_asked ring [] 1 ≡ given (1 ∷ [])
  pub no_path : number_asked ring (1 ∷ 3 ∷ []) 1 ≡ returned (refusal 13 0)
  pub cue-6 : locate_asked ring 6 lent_path ≡ refuse (refusal 12 0) lent_path
  pub cue-0 : locate_asked ring 0 lent_path ≡ refuse (refusal 12 0) lent_path
  pub in_3_0 : in_asked ring 3 0 (7 ∷ 7 ∷ []) ≡ answer (1 ∷ 0 ∷ []) (5 ∷ 7 ∷ [])
  pub in_3_none : in_asked ring 3 0 [] ≡ answer (0 ∷ 1 ∷ []) []
  pub follow_ons : show_links (blocks_of ring) ≡ arrow 2 1 2 ∷ arrow 4 2 1 ∷ arrow 3 4 1 ∷ arrow 5 3 1 ∷ arrow 1 5 1 ∷ []
  pub shown : triples (blocks_of ring) ≡ arrow 1 5 1 ∷ arrow 2 1 2 ∷ arrow 3 4 1 ∷ arrow 4 2 1 ∷ arrow 5 3 1 ∷ []
  pub print : printed ring_file ≡ ring_printed
  pub read : read_asked ring_file (replicate 100 7) ≡ answer (9 ∷ 3 ∷ 5 ∷ []) (ring ++ (7 ∷ []))
  pub write : write_asked ring (replicate 232 7) ≡ answer (231 ∷ []) (ring_file ++ (7 ∷ []))
  -- 02, Paper 1: 65535, 00000 and 00001 are values; 65536, 000001, 065536, -1 and no digit at all are none
  pub largest : is_value (run (54 ∷ 53 ∷ 53 ∷ 51 ∷ 53 ∷ [])) ≡ true
  pub too_large : is_value (run (54 ∷ 53 ∷ 53 ∷ 51 ∷ 54 ∷ [])) ≡ false
  pub all-zeros : is_value (run (48 ∷ 48 ∷ 48 ∷ 48 ∷ 48 ∷ [])) ≡ true
  pub all-zeros_number : decimal 0 (run (48 ∷ 48 ∷ 48 ∷ 48 ∷ 48 ∷ [])) ≡ 0
  pub leading_zeros : is_value (run (48 ∷ 48 ∷ 48 ∷ 48 ∷ 49 ∷ [])) ≡ true
  pub leading-zeros_number : decimal 0 (run (48 ∷ 48 ∷ 48 ∷ 48 ∷ 49 ∷ [])) ≡ 1
  pub six_digits : is_value (run (48 ∷ 48 ∷ 48 ∷ 48 ∷ 48 ∷ 49 ∷ [])) ≡ false
  pub six_digits_too_large : is_value (run (48 ∷ 54 ∷ 53 ∷ 53 ∷ 51 ∷ 54 ∷ [])) ≡ false
  pub sign : is_value (run (45 ∷ 49 ∷ [])) ≡ false
  pub no_digit : is_value (run (44 ∷ [])) ≡ false
  -- 02, Paper 1: a padded file is read; its rows are written without padding; that file is read to the same rows
  pub read-padded : read_asked padded_file (replicate 12 7) ≡ answer (1 ∷ 1 ∷ 1 ∷ []) (opening 1 ++ (7 ∷ []))
  pub write-unpadded : write_asked (opening 1) (replicate 56 7) ≡ answer (55 ∷ []) (opening_file ++ (7 ∷ []))
  pub read-unpadded : read_asked opening_file (replicate 12 7) ≡ answer (1 ∷ 1 ∷ 1 ∷ []) (opening 1 ++ (7 ∷ []))
  -- 02, Paper 2: the ring's five links, each with its row, depth and path; no link from 1 to 2, nor from a cue to itself; no cue 6; a short list
  pub row-2_1 : row_asked ring 2 1 lent_path ≡ answer (8 ∷ 0 ∷ []) lent_path
  pub row-4_2 : row_asked ring 4 2 lent_path ≡ answer (2 ∷ 2 ∷ []) (1 ∷ 1 ∷ drop 2 lent_path)
  pub row-3_4 : row_asked ring 3 4 lent_path ≡ answer (3 ∷ 2 ∷ []) (1 ∷ 1 ∷ drop 2 lent_path)
  pub row-5_3 : row_asked ring 5 3 lent_path ≡ answer (2 ∷ 2 ∷ []) (1 ∷ 2 ∷ drop 2 lent_path)
  pub row-1_5 : row_asked ring 1 5 lent_path ≡ answer (3 ∷ 2 ∷ []) (1 ∷ 2 ∷ drop 2 lent_path)
  pub row-1_2 : row_asked ring 1 2 lent_path ≡ refuse (refusal 14 0) lent_path
  pub row-1_1 : row_asked ring 1 1 lent_path ≡ refuse (refusal 14 0) lent_path
  pub row-6_1 : row_asked ring 6 1 lent_path ≡ refuse (refusal 12 0) lent_path
  pub row-short : row_asked ring 6 1 (drop 1 lent_path) ≡ refuse (refusal 11 0) (drop 1 lent_path)
  -- 02, Paper 3: with a note for the ring's link from 2 to 1, fewest 2 to 1 and 4 to 3 are none and 1 to 2 is still 4; the work area is the same
  pub noted_2_1 : fewest_asked noted_ring 2 1 lent_work ≡ answer (0 ∷ 0 ∷ []) ring_work
  pub noted_4_3 : fewest_asked noted_ring 4 3 lent_work ≡ answer (0 ∷ 0 ∷ []) ring_work
  pub noted_1_2 : fewest_asked noted_ring 1 2 lent_work ≡ answer (1 ∷ 4 ∷ []) ring_work
  -- the lists, the row behind it and the printed links still show it
  pub noted_out : out_asked noted_ring 2 0 (7 ∷ 7 ∷ []) ≡ answer (1 ∷ 0 ∷ []) (1 ∷ 7 ∷ [])
  pub noted_in : in_asked noted_ring 1 0 (7 ∷ 7 ∷ []) ≡ answer (1 ∷ 0 ∷ []) (2 ∷ 7 ∷ [])
  pub noted_row : row_asked noted_ring 2 1 lent_path ≡ answer (8 ∷ 0 ∷ []) lent_path
  pub noted_print : printed noted_file ≡ noted_printed
  -- 02, Paper 5: the ring under the waits 1,10 and 2,25, to cue 2 and to cue 3 from each cue
  pub quickest-1_2 : quickest_asked ring 1 2 ring_waits lent_work ≡ answer (1 ∷ 40 ∷ 0 ∷ []) cleared_work
  pub quickest-2_2 : quickest_asked ring 2 2 ring_waits lent_work ≡ answer (1 ∷ 0 ∷ 0 ∷ []) cleared_work
  pub quickest-3_2 : quickest_asked ring 3 2 ring_waits lent_work ≡ answer (1 ∷ 20 ∷ 0 ∷ []) cleared_work
  pub quickest-4_2 : quickest_asked ring 4 2 ring_waits lent_work ≡ answer (1 ∷ 10 ∷ 0 ∷ []) cleared_work
  pub quickest-5_2 : quickest_asked ring 5 2 ring_waits lent_work ≡ answer (1 ∷ 30 ∷ 0 ∷ []) cleared_work
  pub quickest-1_3 : quickest_asked ring 1 3 ring_waits lent_work ≡ answer (1 ∷ 20 ∷ 0 ∷ []) cleared_work
  pub quickest-2_3 : quickest_asked ring 2 3 ring_waits lent_work ≡ answer (1 ∷ 45 ∷ 0 ∷ []) cleared_work
  pub quickest-3_3 : quickest_asked ring 3 3 ring_waits lent_work ≡ answer (1 ∷ 0 ∷ 0 ∷ []) cleared_work
  pub quickest-4_3 : quickest_asked ring 4 3 ring_waits lent_work ≡ answer (1 ∷ 55 ∷ 0 ∷ []) cleared_work
  pub quickest-5_3 : quickest_asked ring 5 3 ring_waits lent_work ≡ answer (1 ∷ 10 ∷ 0 ∷ []) cleared_work
  -- label 2 without a line waits 0; the names alone: every wait is 0; all waits 6,000
  pub unlined-1_2 : quickest_asked ring 1 2 ones_wait lent_work ≡ answer (1 ∷ 40 ∷ 0 ∷ []) cleared_work
  pub unlined-2_1 : quickest_asked ring 2 1 ones_wait lent_work ≡ answer (1 ∷ 0 ∷ 0 ∷ []) cleared_work
  pub unlined-4_3 : quickest_asked ring 4 3 ones_wait lent_work ≡ answer (1 ∷ 30 ∷ 0 ∷ []) cleared_work
  pub no_waits_1_2 : quickest_asked ring 1 2 (waits_of []) lent_work ≡ answer (1 ∷ 0 ∷ 0 ∷ []) cleared_work
  pub no_waits_2_1 : quickest_asked ring 2 1 (waits_of []) lent_work ≡ answer (1 ∷ 0 ∷ 0 ∷ []) cleared_work
  pub no_waits_4_3 : quickest_asked ring 4 3 (waits_of []) lent_work ≡ answer (1 ∷ 0 ∷ 0 ∷ []) cleared_work
  pub long-waits_1_2 : quickest_asked ring 1 2 long_waits lent_work ≡ answer (1 ∷ 24000 ∷ 0 ∷ []) cleared_work
  pub long-waits_2_1 : quickest_asked ring 2 1 long_waits lent_work ≡ answer (1 ∷ 6000 ∷ 0 ∷ []) cleared_work
  pub long-waits_4_3 : quickest_asked ring 4 3 long_waits lent_work ≡ answer (1 ∷ 24000 ∷ 0 ∷ []) cleared_work
  -- a note is not followed, whatever waits; a cue is 0 from itself
  pub noted_quickest_1_2 : quickest_asked noted_ring 1 2 ring_waits lent_work ≡ answer (1 ∷ 40 ∷ 0 ∷ []) cleared_work
  pub noted_quickest_2_1 : quickest_asked noted_ring 2 1 ring_waits lent_work ≡ answer (0 ∷ 0 ∷ 0 ∷ []) cleared_work
  pub noted_quickest_4_3 : quickest_asked noted_ring 4 3 ring_waits lent_work ≡ answer (0 ∷ 0 ∷ 0 ∷ []) cleared_work
  pub noted_quickest_3_3 : quickest_asked noted_ring 3 3 ring_waits lent_work ≡ answer (1 ∷ 0 ∷ 0 ∷ []) cleared_work
  -- more links can be quicker, where fewest is 1
  pub detour-1_2 : quickest_asked detour 1 2 detour_waits lent_work ≡ answer (1 ∷ 20 ∷ 0 ∷ []) cleared_work
  -- 15 at line 4, 16 at line 4 and 17 at line 3, each ahead of the next; 15 where s is t too, and behind 12; no names; a short work area
  pub cut_line : quickest_asked ring 1 2 cut_waits lent_work ≡ refuse (refusal 15 4) lent_work
  pub outside_range : quickest_asked ring 1 2 outside_waits lent_work ≡ refuse (refusal 16 4) lent_work
  pub not-above : quickest_asked ring 1 2 twice_waits lent_work ≡ refuse (refusal 17 3) lent_work
  pub cut_line_1_1 : quickest_asked ring 1 1 cut_waits lent_work ≡ refuse (refusal 15 4) lent_work
  pub cut_line_6_1 : quickest_asked ring 6 1 cut_waits lent_work ≡ refuse (refusal 12 0) lent_work
  pub no_names : quickest_asked ring 1 2 [] lent_work ≡ refuse (refusal 15 1) lent_work
  pub short-work : quickest_asked ring 6 1 cut_waits (drop 3 lent_work) ≡ refuse (refusal 11 0) (drop 3 lent_work)
