-- The text that is printed for a file is the one that document 01 demands.
use Prim.Native.Nat.{ℕ, ◌*◌, ◌≤◌}
use native.Mathlib.Omega.{arith}
use mathlib.Core.Path.{◌≡◌, refl, ◌∙◌, ap}
use mathlib.Core.List.{List, [], ◌∷◌, ◌++◌, flat_map, Memᴰ}
use lib.ListN.{length, length-append}
use Rattle.std.specs.Prelude.{Ok, Err}
use Rattle.model.specs.Answers.{show_size}
use Rattle.model.specs.Limits.{row_size, max_rows, max_total}
use Rattle.model.specs.Text.{names}
use Rattle.model.specs.Rows.{row_count}
use Rattle.model.specs.Blocks.{Link, blocks_of, last_block, count}
use Rattle.model.specs.Verdicts.{refusal, verdict, Numbers, Unread, read_file, numbers_of, by_line, in_lines, read_verdict, file_verdict, Accepted}
use Rattle.model.specs.Questions.{on_accepted}
use Rattle.model.specs.Printed.{values_text, triples, links_title, cues_title, refusal_title, refusal_text, show_text, printed}
use Rattle.model.specs.Asking.{AsksRead}
use Rattle.model.specs.declared.Refusal.{Refusal}
use Rattle.basics.specs.Members.{Each}
use Rattle.basics.proofs.Choices.{lt_then, lt_else}
use Rattle.shows.specs.Accepted.{Show}
use Rattle.shows.specs.Files.{SpellsLine, no_value, value-then, SpellsLines, no_line, line_then_lem}
use Rattle.shows.proofs.Accepted.{accepted-show}
use Rattle.demands.specs.Acceptance.{Check, Length, Sequence, Ranges, Repeats, Order, Ends, Totals, refusal_number, LooksAt}
use Rattle.demands.specs.Files.{line_place, ReadRefusal, of_length, of-names, of-line, of-rows, of_room, IsRead}
use Rattle.demands.specs.Printed.{triple, TripleLines, no_triple, triple-then, IsPrinted}
use Rattle.demands.proofs.Stages.{numbers}
use Rattle.demands.proofs.ReadCases.{no_refusal, answered, ReadCase, not-read, not-lawful, too_short, was_read, read-case}
use Rattle.demands.proofs.Reading.{first_way, is_read}
use Rattle.demands.proofs.NumberTexts.{Fits, numbers-line}
use Rattle.demands.proofs.Triples.{Among, of-show, all_listed}

-- The numbers of a refusal are small: no value stands in less than a byte, and no row in less than eleven, so there are no more lines than bytes.
line_long : {es l vs : List ℕ} → SpellsLine es l vs → length vs ≤ length l
line_long no_value = omega arith
line_long (value-then {e = e} {t = t} {l = l} s r) = omega (arith, line_long r, length-append t (e ∷ l))

lines_long : {t xs : List ℕ} → SpellsLines t xs → length xs ≤ length t
lines_long no_line = omega arith
lines_long (line_then_lem {l = l} {t = t} {vs = vs} {xs = xs} s r) = omega (arith, line_long s, lines_long r, length-append l t, length-append vs xs)

few-rows : {t xs : List ℕ} → SpellsLines t xs → row_count xs ≤ length t
unfolding row_count
few-rows s = omega (arith, lines_long s)

row_fits : (xs : List ℕ) (c : Check) (p : ℕ) → row_count xs ≤ 65536 → LooksAt xs c p → Fits (line_place c p)
unfolding line_place
row_fits xs Length p h l = omega arith
row_fits xs Sequence p h l = omega arith
row_fits xs Ranges p h l = omega arith
row_fits xs Repeats p h l = omega arith
row_fits xs Order p h l = omega arith
row_fits xs Ends p h l = omega (arith, l.0.1)
row_fits xs Totals p h l = omega (arith, l.0.1)

refusal-fits : (f out after : List ℕ) (q : Refusal) → IsRead f out (Err q) after → Fits q.number × Fits q.place
unfolding refusal
refusal-fits f out after q is = go (is.no_other q refl)
  where
    so : (n p : ℕ) → q ≡ refusal n p → Fits n → Fits p → Fits q.number × Fits q.place
    so n p e a b = rw e (a, b)

    go : ReadRefusal line_place q → Fits q.number × Fits q.place
    go (of_length e) = so 1 0 e (omega arith) (omega arith)
    go (of-names e) = so 2 1 e (omega arith) (omega arith)
    go (of-line n e) =
        let (h, b) = (is.malformed n).0 (ap Err e) in
        so 3 n e (omega arith)
        (omega
        (arith, few-rows b.values, b.place, ap length b.text, length-append names (b.before ++ b.broken), length-append b.before b.broken))
    go (of-rows c p e) =
        let (xs, s, b) = (is.refused c p).0 (ap Err e) in
        so (refusal_number c) (line_place c p) e (omega (arith, (numbers c).high))
        (row_fits xs c p (omega (arith, few-rows s.values, s.short, ap length s.text, length-append names s.lines)) b.looks)
    go (of_room e) = so 11 0 e (omega arith) (omega arith)

-- What is printed where rows are accepted, and where they or the text are refused.
text-read : (f xs : List ℕ) → read_file f ≡ Numbers xs → verdict xs ≡ Accepted → printed f ≡ show_text (blocks_of xs)
unfolding printed file_verdict read_verdict numbers_of in_lines on_accepted
text-read f xs e v = rw (e, v)

text-unread : (f : List ℕ) (q : Refusal) → read_file f ≡ Unread q → printed f ≡ refusal_text q
unfolding printed file_verdict read_verdict on_accepted
text-unread f q e = rw e

text-refused : (f xs : List ℕ) (q : Refusal) → read_file f ≡ Numbers xs → verdict xs ≡ Err q → printed f ≡ refusal_text (by_line q)
unfolding printed file_verdict read_verdict in_lines on_accepted
text-refused f xs q e v = rw (e, v)

-- Accepted rows are whole, at most 1,024, and have no more cues than a total may be.
pub whole-rows : (xs : List ℕ) → verdict xs ≡ Accepted → (row_count xs * row_size ≡ length xs) × (row_count xs ≤ max_rows)
unfolding row_count
whole-rows xs v = let s : Show xs = accepted-show xs v in (omega (arith, s.whole), s.rows.1)

count_most : (xs : List ℕ) → verdict xs ≡ Accepted → count (blocks_of xs) ≤ max_total
unfolding count
count_most xs v = (accepted-show xs v).totals (last_block (blocks_of xs))

-- What is printed of a refusal that reading gives where there is room for all rows.
refused-so : (f out after : List ℕ) (q : Refusal) → 1024 * 11 ≤ length out → AsksRead f out (Err q) after → printed f ≡ refusal_text q
refused-so f out after q room e = go (read-case first_way f out after (Err q) e)
  where
    go : ReadCase first_way f out (Err q) after → printed f ≡ refusal_text q
    go (not-read k t s l) = let z : q ≡ k = cc in rw z (text-unread f k t)
    go (not-lawful xs k t v s l) = let z : q ≡ by_line k = cc in rw z (text-refused f xs k t v)
    go (too_short xs t v h s l) = absurd (omega (arith, whole-rows xs v))
    go (was_read xs t v h s l) = absurd (no_refusal (Err q) _ _ _ q s refl)

-- The lines of links between cues of a show.
among_fits : (n : ℕ) → n ≤ 1000 → (l : Link) → Among n l → Each Fits (triple l)
among_fits n h l a = (omega (arith, a.from.1), (omega (arith, a.to.1), (omega (arith, a.label.1), tt)))

triple-lines : (ls : List Link) → ((l : Link) → Memᴰ l ls → Each Fits (triple l)) → TripleLines (flat_map (λ l. values_text (triple l)) ls) ls
unfolding flat_map
triple-lines [] h = no_triple
triple-lines (l ∷ ls) h = triple-then (numbers-line _ _ (h l (Memᴰ.head refl))) (triple-lines ls (λ m i. h m (Memᴰ.tail i)))

-- So every text is as it should be.
pub is-printed : (file : List ℕ) → IsPrinted file (printed file)
unfolding refusal_text refusal_title show_text links_title cues_title
is-printed file =
    record {
      links = λ out after rows blocks cues e few.
          let a = answered first_way file out after (Ok (show_size rows blocks cues)) e rows blocks cues refl in
          let bs = blocks_of a.own in
          let same : rows * 11 ≡ length a.own = omega (arith, a.rows_are, (whole-rows a.own a.lawful).0) in
          let fits : count bs ≤ 1000 = omega (arith, a.cues-are) in (
            flat_map (λ l. values_text (triple l)) (triples bs),
            triples bs,
            triple-lines (triples bs) (λ l i. among_fits (count bs) fits l (of-show bs l i).0),
            rw (same, a.left.first) (all_listed a.own a.lawful),
            text-read file a.own a.says a.lawful ∙ lt_else 1000 (count bs) _ _ fits,
          );
      count = λ out after rows blocks cues e many.
          let a = answered first_way file out after (Ok (show_size rows blocks cues)) e rows blocks cues refl in (
            values_text (cues ∷ []),
            numbers-line cues [] (omega (arith, a.cues-are, count_most a.own a.lawful), tt),
            text-read file a.own a.says a.lawful ∙ rw (← a.cues-are) (lt_then 1000 cues _ _ many),
          );
      refusal = λ out after q room e.
          let (n, p) = refusal-fits file out after q (is_read file out after (Err q) e) in
          (values_text (q.number ∷ q.place ∷ []), numbers-line _ _ (n, (p, tt)), refused-so file out after q room e);
    }
