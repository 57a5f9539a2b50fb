-- The words shared with the model and its laws mean what the documents mean by them.
use Prim.Native.Nat.{ℕ, zero, suc, ◌+◌, ◌*◌, ◌-◌, ◌<◌}
use native.Mathlib.Omega.{arith}
use mathlib.Core.Path.{◌≡◌, refl, sym, ◌∙◌, ap, ap₂}
use mathlib.Core.List.{List, [], ◌∷◌, map, Memᴰ}
use lib.ListN.{length, get_or}
use Rattle.model.specs.Choice.{if_lt, if_eq, if_true}
use Rattle.model.specs.Values.{digit_zero, is_digit, run, after_run, decimal, is_value}
use Rattle.model.specs.Text.{names, ends, value_then, ended_by, values_of, into_first, lines_of}
use Rattle.model.specs.Rows.{Row, cell, row_at, rows_from, row_count, rows_of}
use Rattle.model.specs.Blocks.{last_block}
use Rattle.model.specs.Verdicts.{refusal, row_then, read_lines, same, read_all, read_file}
use Rattle.model.specs.Answers.{returned, given, flag, of_read, of_write, of_count, of_locate, of_number, of_list, of_row, of_fewest, halves, of_quickest}
use Rattle.basics.proofs.Choices.{lt_then, lt_else, eq_then, eq_else}
use Rattle.basics.proofs.Members.{get_d_mem, mem_at, range_length, range_at}
use Rattle.basics.specs.Members.{Each}
use Rattle.basics.specs.Values.{Digit, shown, SpellsValue}
use Rattle.basics.proofs.Digits.{decimal-last, shown-length}
use Rattle.shows.specs.Lists.{Rising, none, more}
use Rattle.shows.proofs.Files.{file-reads}
use Rattle.demands.specs.Words.{ChoiceWords, Figures, Bytes, IsDigit, ValueText, ValueWords, counted_file, FileWords, RowWords, ListWords, AnswerWords, Words}

choices : ChoiceWords
choices = record { less = lt_then; not-less = lt_else; equal = eq_then; not_equal = eq_else }

figures : Figures
figures =
    record {
      row = refl;
      value = refl;
      digits = refl;
      joins = refl;
      own = refl;
      label = refl;
      followed-label = refl;
      wait = refl;
      blocks = refl;
      bytes = refl;
      rows = refl;
      total = refl;
      depth = refl;
      work = refl;
      block-summary = refl;
      join_summary = refl;
      none = refl;
      printed = refl;
      desk_rows_lem = refl;
      desk_blocks_lem = refl;
    }

bytes : Bytes
unfolding names ends decimal
bytes =
    record {
      digit_0 = refl;
      a_comma = refl;
      line_feed_lem = refl;
      line_of_names = refl;
      line_ends = refl;
      no_digit = refl;
      next-digit = decimal-last 0;
    }

-- The digits of a text, as numbers, are those that it shows.
abbrev pub figures_of : List ℕ → List ℕ
figures_of t = map (λ (b : ℕ). b - 48) t

shown-figures : (ds : List ℕ) → figures_of (shown ds) ≡ ds
shown-figures [] = refl
shown-figures (d ∷ ds) = let e : digit_zero + d - 48 ≡ d = omega arith in ap₂ ◌∷◌ e (shown-figures ds)

figures-shown : (t : List ℕ) → Each IsDigit t → shown (figures_of t) ≡ t
figures-shown [] h = refl
figures-shown (b ∷ t) h = let (k, _) = h in let e : digit_zero + (b - 48) ≡ b = omega arith in ap₂ ◌∷◌ e (figures-shown t h.1)

shown-digits : (ds : List ℕ) → Each Digit ds → Each IsDigit (shown ds)
shown-digits [] h = tt
shown-digits (d ∷ ds) h = let k = h.0 in ((omega arith), shown-digits ds h.1)

pub figures-digits : (t : List ℕ) → Each IsDigit t → Each Digit (figures_of t)
figures-digits [] h = tt
figures-digits (b ∷ t) h = let (k, _) = h in ((omega arith), figures-digits t h.1)

pub figures-length : (t : List ℕ) → length (figures_of t) ≡ length t
figures-length [] = refl
figures-length (b ∷ t) = ap suc (figures-length t)

values : ValueWords
values t v = (to, from)
  where
    to : SpellsValue t v → ValueText t v
    to s =
        let e = s.text in
        let n : length t ≡ length s.figures = ap length e ∙ shown-length s.figures in
        record {
          all_digits = rw e (shown-digits s.figures s.each);
          one-to_five = (omega (arith, s.some), omega (arith, s.few));
          number = rw (e, shown-figures s.figures) s.number;
          at_most = s.limit;
        }

    from : ValueText t v → SpellsValue t v
    from w =
        let n = figures-length t in
        record {
          figures = figures_of t;
          text = sym (figures-shown t w.all_digits);
          each = figures-digits t w.all_digits;
          some = omega (arith, w.one-to_five.0);
          few = omega (arith, w.one-to_five.1);
          number = w.number;
          limit = w.at_most;
        }

-- The rows from row r on: how many, and which.
rows_long : (xs : List ℕ) (r n : ℕ) → length (rows_from xs r n) ≡ n
unfolding rows_from
rows_long xs r zero = refl
rows_long xs r (suc n) = ap suc (rows_long xs (r + 1) n)

row_from_is : (xs : List ℕ) (r n i : ℕ) (w : Row) → i < n → get_or (rows_from xs r n) i w ≡ row_at xs (r + i)
unfolding rows_from
row_from_is xs r zero i w h = absurd (omega arith)
row_from_is xs r (suc n) zero w h = let e : r + 0 ≡ r = omega arith in rw e
row_from_is xs r (suc n) (suc i) w h = let e : r + suc i ≡ r + 1 + i = omega arith in rw e (row_from_is xs (r + 1) n i w (omega arith))

rows : (xs : List ℕ) → RowWords xs
unfolding row_count rows_of row_at cell
rows xs =
    record {
      count = refl;
      block = λ r. let e : (r - 1) * 11 + 0 ≡ (r - 1) * 11 = omega arith in ap (λ (i : ℕ). get_or xs i 0) e;
      kind = λ r. refl;
      label = λ r. refl;
      a_to_h = λ r. refl;
      rows-many = rows_long xs 0 _;
      rows_are = λ r i. let e : 0 + (r - 1) ≡ r - 1 = omega arith in row_from_is xs 0 _ (r - 1) _ (omega arith) ∙ ap (row_at xs) e;
    }

-- Numbers that rise, and a property of each, by their places.
rises_at : (ns : List ℕ) → Rising ns → (i j : ℕ) → i < j → j < length ns → get_or ns i 0 < get_or ns j 0
rises_at [] none i j h l = absurd (omega arith)
rises_at (n ∷ ns) (more low r) i zero h l = absurd (omega arith)
rises_at (n ∷ ns) (more low r) zero (suc j) h l = low (get_or ns j 0) (get_d_mem ns j (omega arith))
rises_at (n ∷ ns) (more low r) (suc i) (suc j) h l = rises_at ns r i j (omega arith) (omega arith)

at-rises : (ns : List ℕ) → ((i j : ℕ) → i < j → j < length ns → get_or ns i 0 < get_or ns j 0) → Rising ns
at-rises [] h = none
at-rises (n ∷ ns) h = more low (at-rises ns (λ i j a b. h (suc i) (suc j) (omega arith) (omega arith)))
  where
    low : (m : ℕ) → Memᴰ m ns → n < m
    low m i = let (j, l, e) = mem_at m i in rw e at (h 0 (suc j) (omega arith) (omega arith))

each_at : (P : ℕ → Type 0) (ns : List ℕ) → Each P ns → (i : ℕ) → i < length ns → P (get_or ns i 0)
each_at P [] h i l = absurd (omega arith)
each_at P (n ∷ ns) h zero l = h.0
each_at P (n ∷ ns) h (suc i) l = each_at P ns h.1 i (omega arith)

at_each : (P : ℕ → Type 0) (ns : List ℕ) → ((i : ℕ) → i < length ns → P (get_or ns i 0)) → Each P ns
at_each P [] h = tt
at_each P (n ∷ ns) h = (h 0 (omega arith), at_each P ns (λ i l. h (suc i) (omega arith)))

lists : ListWords
unfolding last_block
lists =
    record {
      range-many = range_length;
      range-are = range_at;
      rising = λ ns. (rises_at ns, at-rises ns);
      each = λ P ns. (each_at P ns, at_each P ns);
      last = λ b earlier. omega arith;
    }

-- A file of two rows, read by computation.
file : FileWords
unfolding if_lt if_eq if_true names ends is_digit run after_run decimal is_value value_then ended_by values_of into_first lines_of row_then read_lines same read_all read_file refusal
file = (file-reads counted_file _).0 refl

answers : AnswerWords
unfolding refusal returned given flag of_read of_write of_count of_locate of_number of_list of_row of_fewest halves of_quickest
answers =
    record {
      refusal_is = λ n p. (refl, refl);
      refused = λ q. (refl, refl, refl);
      read = λ rows blocks cues. (refl, refl, refl);
      unread = λ q. refl;
      written = λ bytes. (refl, refl, refl);
      unwritten = λ q. refl;
      counted = λ n. (refl, refl, refl);
      uncounted = λ q. refl;
      found = λ depth block own. (refl, refl, refl);
      unlocated = λ q. refl;
      numbered = λ n. (refl, refl, refl);
      unnumbered = λ q. refl;
      page = λ written. (refl, refl, refl);
      page-more = λ written. (refl, refl, refl);
      unlisted = λ q. refl;
      row-behind = λ row depth. (refl, refl, refl);
      untraced = λ q. refl;
      steps = λ n. (refl, refl, refl);
      no_chain_lem = (refl, refl, refl);
      unsearched = λ q. refl;
      tenths = λ n. (refl, refl, refl);
      no_way = (refl, refl, refl);
      untimed = λ number place. (refl, refl, refl);
    }

pub words : Words
words = record { choices = choices; figures = figures; bytes = bytes; values = values; file = file; rows = rows; lists = lists; answers = answers }
