-- The starred cases hold, by computation: every definition that they lean on is unfolded.
use mathlib.Core.Path.{refl}
use mathlib.Core.List.{flat_map}
use Rattle.model.specs.Choice.{if_lt, if_eq, if_true}
use Rattle.model.specs.Values.{is_digit, run, after_run, decimal, is_value, digit_at, digits}
use Rattle.model.specs.Text.{names, ends, value_then, ended_by, values_of, into_first, lines_of, line_text}
use Rattle.model.specs.Rows.{cell, row_at, rows_from, row_count, rows_of, row_values, row_lines, file_text}
use Rattle.model.specs.Rules.{start, cues_in, may_open, goes_on, may_follow, columns_used, named, every, is_cue, is_zero, label_fits, own_fits, in_range, differs, distinct, is_below, link_key, use_key, in_order, fault, after}
use Rattle.model.specs.Blocks.{no_block, block_at, joins_of, own_of, add_link, add_use, add_row, add_rows, blocks_of, sum_over, total, last_block, count}
use Rattle.model.specs.Verdicts.{refusal, refused, and_then, check_length, check_rows, opening_rows, check_blocks, may_stand, total_fits, verdict, row_then, read_lines, same, read_all, read_file, by_line, in_lines, numbers_of, read_verdict, file_verdict}
use Rattle.model.specs.Unfolding.{cue_at, renamed, uses_links, links, show_links}
use Rattle.model.specs.Paths.{own_number, uses_number, copy_number, number_in, nowhere, step_then, uses_place, place_in}
use Rattle.model.specs.Lists.{is_linked, range, keep, cues_after, is_out, is_into, overwrite}
use Rattle.model.specs.Behind.{step_into, traced_into, rows_traced, uses_traced, traced, opening_row, show_traced, origins, depth_wins, steps_win, better, winner, best, behind}
use Rattle.model.specs.Chains.{followed, is_in, successors, search_from, fewest}
use Rattle.model.specs.Summaries.{block_links, or_none, summary_by, summary_of_by, summaries_by, work_by}
use Rattle.model.specs.Tables.{line_then, table_lines, table_all, table_read}
use Rattle.model.specs.Waits.{wait_names, wait_ends, is_outside, first_outside, first_not_above, waits_with, no_waits, waits_or, waits_in, wait_file}
use Rattle.model.specs.Quickest.{quicker, with_wait, quickest_over, quickest_within, quickest}
use Rattle.model.specs.Answers.{returned, given, flag, halves}
use Rattle.model.specs.Questions.{refuse, answer, on_accepted, with_room, with_cue, read_into, read_asked, write_into, write_asked, count_asked, located, locate_in, locate_asked, numbered, show_number, number_asked, listed, list_in, out_asked, in_asked, row_found, row_in, row_asked, distance_values, fewest_in, fewest_asked, sum_values, cleared, quickest_under, quickest_in, quickest_asked}
use Rattle.model.specs.Printed.{is_triple, triples_of, triples, number_text, values_text, links_title, show_text, printed}
use Rattle.model.specs.Starred.{Starred}

pub starred : Starred
unfolding flat_map if_lt if_eq if_true names ends is_digit run after_run decimal is_value value_then ended_by values_of into_first lines_of digit_at digits line_text cell row_at rows_from row_count rows_of row_values row_lines file_text start cues_in may_open goes_on may_follow columns_used named every is_cue is_zero label_fits own_fits in_range differs distinct is_below link_key use_key in_order fault after no_block block_at joins_of own_of add_link add_use add_row add_rows blocks_of sum_over total last_block count refusal refused and_then check_length check_rows opening_rows check_blocks may_stand total_fits verdict row_then read_lines same read_all read_file by_line in_lines numbers_of read_verdict file_verdict cue_at renamed uses_links links show_links own_number uses_number copy_number number_in nowhere step_then uses_place place_in is_linked range keep cues_after is_out is_into overwrite followed is_in successors search_from fewest block_links or_none summary_by summary_of_by summaries_by work_by returned given flag refuse answer on_accepted with_room with_cue read_into read_asked write_into write_asked count_asked located locate_in locate_asked numbered show_number number_asked listed list_in out_asked in_asked step_into traced_into rows_traced uses_traced traced opening_row show_traced origins depth_wins steps_win better winner best behind row_found row_in row_asked distance_values fewest_in fewest_asked line_then table_lines table_all table_read wait_names wait_ends is_outside first_outside first_not_above waits_with no_waits waits_or waits_in wait_file quicker with_wait quickest_over quickest_within quickest halves sum_values cleared quickest_under quickest_in quickest_asked is_triple triples_of triples number_text values_text links_title show_text printed
starred =
    record {
      total-0 = refl;
      total-1 = refl;
      total-2 = refl;
      cues = refl;
      cue-5 = refl;
      cue-3 = refl;
      cue-1 = refl;
      fewest-1_2 = refl;
      fewest-2_1 = refl;
      fewest-1_1 = refl;
      fewest-4_3 = refl;
      out_4_0 = refl;
      out_4_2 = refl;
      single = refl;
      empty = refl;
      path-5 = refl;
      path-3 = refl;
      path-1 = refl;
      no_path = refl;
      cue-6 = refl;
      cue-0 = refl;
      in_3_0 = refl;
      in_3_none = refl;
      follow_ons = refl;
      shown = refl;
      print = refl;
      read = refl;
      write = refl;
      largest = refl;
      too_large = refl;
      all-zeros = refl;
      all-zeros_number = refl;
      leading_zeros = refl;
      leading-zeros_number = refl;
      six_digits = refl;
      six_digits_too_large = refl;
      sign = refl;
      no_digit = refl;
      read-padded = refl;
      write-unpadded = refl;
      read-unpadded = refl;
      row-2_1 = refl;
      row-4_2 = refl;
      row-3_4 = refl;
      row-5_3 = refl;
      row-1_5 = refl;
      row-1_2 = refl;
      row-1_1 = refl;
      row-6_1 = refl;
      row-short = refl;
      noted_2_1 = refl;
      noted_4_3 = refl;
      noted_1_2 = refl;
      noted_out = refl;
      noted_in = refl;
      noted_row = refl;
      noted_print = refl;
      quickest-1_2 = refl;
      quickest-2_2 = refl;
      quickest-3_2 = refl;
      quickest-4_2 = refl;
      quickest-5_2 = refl;
      quickest-1_3 = refl;
      quickest-2_3 = refl;
      quickest-3_3 = refl;
      quickest-4_3 = refl;
      quickest-5_3 = refl;
      unlined-1_2 = refl;
      unlined-2_1 = refl;
      unlined-4_3 = refl;
      no_waits_1_2 = refl;
      no_waits_2_1 = refl;
      no_waits_4_3 = refl;
      long-waits_1_2 = refl;
      long-waits_2_1 = refl;
      long-waits_4_3 = refl;
      noted_quickest_1_2 = refl;
      noted_quickest_2_1 = refl;
      noted_quickest_4_3 = refl;
      noted_quickest_3_3 = refl;
      detour-1_2 = refl;
      cut_line = refl;
      outside_range = refl;
      not-above = refl;
      cut_line_1_1 = refl;
      cut_line_6_1 = refl;
      no_names = refl;
      short-work = refl;
    }
