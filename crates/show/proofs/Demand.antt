-- Demands 2 and 3, and what Papers 4 and 5 demand, as theorems about the entry points' answers: what they ensure says just this.
use Prim.Native.Nat.{ℕ}
use mathlib.Core.Path.{◌≡◌, refl}
use mathlib.Core.List.{List}
use Rattle.std.specs.Prelude.{Ok}
use Rattle.model.specs.Answers.{show_size}
use Rattle.model.specs.Blocks.{blocks_of}
use Rattle.model.specs.Verdicts.{verdict, Accepted}
use Rattle.model.specs.Ring.{ring, noted_ring}
use Rattle.shows.proofs.Accepted.{accepted-show}
use Rattle.demands.proofs.Acceptance.{accepted-exactly}
use Rattle.demands.proofs.Words.{words}
use Rattle.demands.proofs.Answered.{read-answers, desk_answers, write-answers, count-answers, locate-answers, number-answers, out_answers, in_answers, row-answers, fewest-answers, quickest-answers}
use Rattle.demands.proofs.Ring.{ring-accepted, noted_accepted, ring-stands}
use Rattle.demands.proofs.Blocks.{are-blocks}
use Rattle.demands.proofs.Refusals.{write-refuses, count-refuses, locate-refuses, number-refuses, out_refuses, in_refuses, row-refuses, fewest-refuses, quickest-refuses}
use Rattle.demands.proofs.Reading.{first_way, is_read}
use Rattle.demands.proofs.Writing.{is-written}
use Rattle.demands.proofs.Padding.{padded_file_lem}
use Rattle.demands.proofs.RoundTrips.{writes_back, reads_back, reads_again}
use Rattle.demands.proofs.Replacement.{unfolds, unfolds_show}
use Rattle.demands.proofs.Numbers.{is-count, is_number, is-located}
use Rattle.demands.proofs.Copies.{copies-by_path}
use Rattle.demands.proofs.Lists.{list_out, list_in_lem, pages_out, pages_in}
use Rattle.demands.proofs.RowBehind.{is-row_behind}
use Rattle.demands.proofs.Shortest.{is-fewest, leaves-summaries}
use Rattle.demands.proofs.Notes.{chain-links, old-figure, ring-unnoted, ring-noted}
use Rattle.demands.proofs.QuickestAsked.{quickest-exact}
use Rattle.demands.proofs.Askable.{ring-askable}
use Rattle.demands.proofs.WaitCases.{some-lawful, some-malformed, some-outside, some-fallen}
use Rattle.demands.proofs.DeskTable.{table-fact}
use Rattle.demands.proofs.DeskReading.{is-desk_read, own-lines, desk_lawful, writes_whole}
use Rattle.demands.proofs.DeskExample.{desk_file}
use Rattle.demands.proofs.DeskWork.{has-desk_summaries}
use Rattle.show.specs.Demand.{RightAgainstUnfolding, Demand2, Demand3, Demand4, Demand5}

-- Demand 2: of rows that keep the rules, of the rules, and of the round trips.
right : (xs : List ℕ) → verdict xs ≡ Accepted → RightAgainstUnfolding xs
right xs v =
    record {
      blocks = are-blocks xs v;
      unfolding_steps = let s = accepted-show xs v in unfolds_show (blocks_of xs) s.good s.blocks.0 s.no_joins;
      copies = copies-by_path xs v;
      counts = is-count xs v;
      locates = λ n lent after r low high room. is-located xs v n lent after r room low high;
      numbers = is_number xs v;
      lists-out = λ w n page after r. list_out xs w n page after r v;
      lists-in = λ w n page after r. list_in_lem xs w n page after r v;
      pages_out = λ w n many cues more. pages_out xs w n many cues more v;
      pages_in = λ w n many cues more. pages_in xs w n many cues more v;
      rows_behind = λ s t lent after r low high low' high' room. is-row_behind xs v s t lent after r room low high low' high';
    }

pub demand_2 : Demand2
demand_2 =
    record {
      words = words;
      answered =
          record {
            read = read-answers;
            read-desk = desk_answers;
            write = write-answers;
            count = count-answers;
            locate = locate-answers;
            number = number-answers;
            list_out = out_answers;
            list_in_lem = in_answers;
            row = row-answers;
            fewest = fewest-answers;
            quickest = quickest-answers;
          };
      acceptance =
          record {
            read = is_read;
            write = is-written;
          };
      refusals =
          record {
            write = write-refuses;
            count = count-refuses;
            locate = locate-refuses;
            number = number-refuses;
            list_out = out_refuses;
            list_in_lem = in_refuses;
            row = row-refuses;
            fewest = fewest-refuses;
            quickest = quickest-refuses;
          };
      a_show = (accepted-exactly ring).0 ring-accepted;
      a_padded_file = padded_file_lem;
      a_row_behind = ring-stands;
      round_trips =
          record {
            write-back = λ file out after rows blocks cues e. writes_back file out after (Ok (show_size rows blocks cues)) rows blocks cues e refl;
            read_back = λ xs out after bytes e. reads_back xs out after (Ok bytes) bytes e refl;
            read_again = reads_again first_way;
          };
      right = λ xs l. right xs ((accepted-exactly xs).1 l);
    }

-- Demand 3.
pub demand_3 : Demand3
demand_3 =
    record {
      exact = λ xs l. let v = (accepted-exactly xs).1 l in
          record {
            block-steps = unfolds (blocks_of xs) (accepted-show xs v).good;
            chain-links = chain-links xs v;
            fewest = is-fewest xs v;
            work-area = leaves-summaries xs v;
            old-figure = old-figure xs v;
          };
      a_note = ((accepted-exactly noted_ring).0 noted_accepted, ring-noted);
      no_note = ((accepted-exactly ring).0 ring-accepted, ring-unnoted);
    }

-- Document 02, Paper 4.
pub demand_4 : Demand4
demand_4 =
    record {
      table = table-fact;
      read = is-desk_read;
      places = own-lines;
      lawful = desk_lawful;
      round_trip = writes_whole;
      work-area = has-desk_summaries;
      a_file = desk_file;
    }

-- Document 02, Paper 5.
pub demand_5 : Demand5
demand_5 =
    record {
      exact = quickest-exact;
      a_question = ring-askable;
      a_file = some-lawful;
      a_malformed_file = some-malformed;
      an_outside_file = some-outside;
      a_fallen_file = some-fallen;
    }
