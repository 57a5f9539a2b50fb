-- Wait files at the edges of what is lawful, computed: the largest label with the largest wait, and a file just past each limit. By these the statements of
-- wait files have something to speak of on either side.
use Prim.Native.Nat.{ℕ}
use mathlib.Core.Path.{◌≡◌, refl}
use mathlib.Core.List.{List, [], ◌∷◌, ◌++◌}
use lib.ListN.{set}
use Rattle.model.specs.Choice.{if_lt, if_eq, if_true}
use Rattle.model.specs.Values.{is_digit, run, after_run, decimal, is_value}
use Rattle.model.specs.Text.{value_then, ended_by, values_of, into_first, lines_of}
use Rattle.model.specs.Verdicts.{same}
use Rattle.model.specs.Tables.{Lines, line_then, table_lines, table_all, table_read}
use Rattle.model.specs.Waits.{WaitTable, Unfit, is_outside, first_outside, first_not_above, waits_with, no_waits, waits_or, waits_in, wait_file}
use Rattle.model.specs.Waits as model
use Rattle.model.specs.Ring.{ring_waits, cut_waits, outside_waits, twice_waits}
use Rattle.demands.specs.Waits.{wait_names, LawfulWaits, Malformed, Outside, NotRising}
use Rattle.demands.proofs.WaitTexts.{lines_are, one-spelling}
use Rattle.demands.proofs.WaitFiles.{reads_waits}

-- `254,6000`, and `254,06000` with a zero in front; label 255, label 0, a wait of 6,001; `1,0` twice; `1,0` without its line feed; names alone, other names.
abbrev largest : List ℕ
largest = wait_names ++ (50 ∷ 53 ∷ 52 ∷ 44 ∷ 54 ∷ 48 ∷ 48 ∷ 48 ∷ 10 ∷ [])

pub record AtTheLimits : Type 0 where
  pub largest-taken : wait_file largest ≡ WaitTable (set no_waits 254 6000)
  pub padded_taken : wait_file (wait_names ++ (50 ∷ 53 ∷ 52 ∷ 44 ∷ 48 ∷ 54 ∷ 48 ∷ 48 ∷ 48 ∷ 10 ∷ [])) ≡ WaitTable (set no_waits 254 6000)
  pub label-255 : wait_file (wait_names ++ (50 ∷ 53 ∷ 53 ∷ 44 ∷ 48 ∷ 10 ∷ [])) ≡ Unfit 16 2
  pub label-0 : wait_file (wait_names ++ (48 ∷ 44 ∷ 48 ∷ 10 ∷ [])) ≡ Unfit 16 2
  pub wait-6001 : wait_file (wait_names ++ (49 ∷ 44 ∷ 54 ∷ 48 ∷ 48 ∷ 49 ∷ 10 ∷ [])) ≡ Unfit 16 2
  pub twice : wait_file (wait_names ++ (49 ∷ 44 ∷ 48 ∷ 10 ∷ 49 ∷ 44 ∷ 48 ∷ 10 ∷ [])) ≡ Unfit 17 3
  pub cut : wait_file (wait_names ++ (49 ∷ 44 ∷ 48 ∷ [])) ≡ Unfit 15 2
  pub names-alone : wait_file wait_names ≡ WaitTable no_waits
  pub other_names : wait_file (108 ∷ wait_names) ≡ Unfit 15 1
  pub nothing : wait_file [] ≡ Unfit 15 1

pub at-the_limits : AtTheLimits
unfolding if_lt if_eq if_true is_digit run after_run decimal is_value value_then ended_by values_of into_first lines_of same line_then table_lines table_all table_read model.wait_names model.wait_ends is_outside first_outside first_not_above waits_with no_waits waits_or waits_in wait_file
at-the_limits = record {
  largest-taken = refl;
  padded_taken = refl;
  label-255 = refl;
  label-0 = refl;
  wait-6001 = refl;
  twice = refl;
  cut = refl;
  names-alone = refl;
  other_names = refl;
  nothing = refl;
}

-- So there is a lawful file, with its lines; one whose first malformed line is behind one of 16 and 17; one of 16 behind one of 17; and one of 17.
abbrev lines : List (List ℕ)
lines = (1 ∷ 10 ∷ []) ∷ (2 ∷ 25 ∷ []) ∷ []

pub record Files : Type 0 where
  pub read : table_read model.wait_names model.wait_ends ring_waits ≡ Lines lines
  pub taken : wait_file ring_waits ≡ WaitTable (set (set no_waits 1 10) 2 25)
  pub cut : wait_file cut_waits ≡ Unfit 15 4
  pub outside : wait_file outside_waits ≡ Unfit 16 4
  pub twice : wait_file twice_waits ≡ Unfit 17 3

files : Files
unfolding if_lt if_eq if_true is_digit run after_run decimal is_value value_then ended_by values_of into_first lines_of same line_then table_lines table_all table_read model.wait_names model.wait_ends is_outside first_outside first_not_above waits_with no_waits waits_or waits_in wait_file
files = record { read = refl; taken = refl; cut = refl; outside = refl; twice = refl }

pub some-lawful : LawfulWaits ring_waits lines
some-lawful =
    let (vss, l) = (reads_waits ring_waits).accepted.0 (_, files.taken) in
    let e : vss ≡ lines = one-spelling ring_waits vss lines l.spells ((lines_are ring_waits lines).0 files.read) in
    rw e at l

pub some-malformed : Malformed cut_waits 4
some-malformed = ((reads_waits _).malformed 4).0 files.cut

pub some-outside : Outside outside_waits 4
some-outside = ((reads_waits _).out_of_range 4).0 files.outside

pub some-fallen : NotRising twice_waits 3
some-fallen = ((reads_waits _).not-above 3).0 files.twice
