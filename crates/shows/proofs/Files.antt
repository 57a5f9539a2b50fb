-- Files: a file is read to some numbers just where it spells them, and the one that is written for rows spells them.
use Prim.Native.Nat.{ℕ, suc, ◌*◌, ◌%◌, ◌≤◌}
use mathlib.Core.Path.{◌≡◌, refl, sym, ◌∙◌, ap}
use mathlib.Core.Bool.{true, false≢true}
use mathlib.Core.Logic.{◌↔◌}
use mathlib.Core.List.{List, [], ◌∷◌, ◌++◌, flatten}
use native.Mathlib.Omega.{arith}
use lib.ListN.{length, get_or, length-append}
use Rattle.model.specs.Limits.{row_size, max_bytes, max_rows}
use Rattle.model.specs.Text.{names, ends, LineValues, Values, Malformed, values_of, lines_of, line_text}
use Rattle.model.specs.Rows.{rows_from, row_count, rows_of, row_lines, file_text}
use Rattle.model.specs.Verdicts.{refusal, Reading, Numbers, Unread, row_then, read_lines, same, read_all, read_file}
use Rattle.model.specs.declared.Refusal.{Refusal}
use Rattle.basics.specs.Members.{Each}
use Rattle.basics.specs.Values.{Small}
use Rattle.shows.specs.Files.{SpellsLines, no_line, line_then_lem, SpellsFile, Rowed, none, row}
use Rattle.basics.proofs.Every.{at_each, each_append, each-parts}
use Rattle.basics.proofs.Choices.{lt_else, eq_then, true_then, lt_second, eq_first, true_first}
use Rattle.shows.proofs.Lines.{line_read, line_spelled, spelled_many, spelled_small, spelled_line, text-spelled, text-shortest, text-short}
use Rattle.shows.proofs.Lines.{lines-first, lines-flatten, names-line, ends-line, ends-other}
use Rattle.shows.proofs.FlatRows.{rowed, rowed_length, first-values, rows-first}

-- The text of rows begins with the line of the first.
pub row_lines_first : (vs xs : List ℕ) → length vs ≡ row_size
    → row_lines (rows_of (vs ++ xs)) ≡ line_text ends vs ++ row_lines (rows_of xs)
unfolding row_lines
row_lines_first vs xs e = rw (rows-first vs xs e, first-values vs xs e)

-- A line that says some values puts them before what the lines behind it say.
pub says_first : (n : ℕ) (l vs : List ℕ) (ls : List (List ℕ)) → values_of ends l ≡ Values vs
    → read_lines n (l ∷ ls) ≡ row_then vs (read_lines (suc n) ls)
unfolding read_lines
says_first n l vs ls e = rw (read_lines, e)

-- Lines that spell some numbers say them.
lines-read : {t xs : List ℕ} → SpellsLines t xs → (n : ℕ) → read_lines n (lines_of t) ≡ Numbers xs
unfolding read_lines lines_of row_then
lines-read no_line n = refl
lines-read (line_then_lem {l = l} {t = t} {vs = vs} s r) n =
    ap (read_lines n) (lines-first (spelled_line ends-line s) t)
    ∙ says_first n l vs (lines_of t) (line_read ends-other s)
    ∙ ap (row_then vs) (lines-read r (suc n))

-- A reading that has numbers: it was not refused, and a line's values stand before those of the lines behind it.
unread : (r : Refusal) (xs : List ℕ) → Unread r ≡ Numbers xs → ⊥
unread r xs e = let z : ◌≡◌ {A = ℕ} 0 1 = cc in omega arith

then_is : (vs : List ℕ) (k : Reading) (xs : List ℕ) → row_then vs k ≡ Numbers xs
    → (ys : List ℕ) × (k ≡ Numbers ys) × (xs ≡ vs ++ ys)
unfolding row_then
then_is vs (Numbers ys) xs e = (ys, refl, cc)
then_is vs (Unread r) xs e = absurd (unread r xs e)

-- Lines that say some numbers spell them.
lines-spelled : (n : ℕ) (ls : List (List ℕ)) (xs : List ℕ) → read_lines n ls ≡ Numbers xs → SpellsLines (flatten ls) xs
unfolding read_lines flatten
lines-spelled n [] xs e = let f : [] ≡ xs = cc in rw (← f) no_line
lines-spelled n (l ∷ ls) xs e = go (λ ys p. lines-spelled (suc n) ls ys p) (values_of ends l) refl
  where
    go : ((ys : List ℕ) → read_lines (suc n) ls ≡ Numbers ys → SpellsLines (flatten ls) ys) → (k : LineValues) → values_of ends l ≡ k
        → SpellsLines (l ++ flatten ls) xs
    go below (Values vs) p =
        let (ys, q, f) = then_is vs (read_lines (suc n) ls) xs (sym (says_first n l vs ls p) ∙ e) in
        rw f (line_then_lem (line_spelled ends l vs p) (below ys q))
    go below Malformed p = absurd (unread (refusal 3 n) xs (sym (rw (read_lines, p)) ∙ e))

-- What lines spell: rows of values, each at most the greatest.
pub spelled_rows : {t xs : List ℕ} → SpellsLines t xs → Rowed xs
unfolding ends
spelled_rows no_line = none
spelled_rows (line_then_lem {vs = vs} {xs = xs} s r) = row vs xs (spelled_many s) (spelled_rows r)

pub spelled_values : {t xs : List ℕ} → SpellsLines t xs → Each Small xs
spelled_values no_line = tt
spelled_values (line_then_lem {vs = vs} {xs = xs} s r) = each_append Small vs xs (spelled_small s) (spelled_values r)

-- The lines that are written for rows spell them, and none that do are shorter.
rows-spelled : {xs : List ℕ} → Rowed xs → Each Small xs → SpellsLines (row_lines (rows_of xs)) xs
unfolding row_lines rows_of rows_from row_count ends
rows-spelled none h = no_line
rows-spelled (row vs xs e r) h =
    let (p, q) = each-parts Small vs xs h in
    rw (row_lines_first vs xs e) (line_then_lem (text-spelled ends vs e p) (rows-spelled r q))

rows-shortest : {t xs : List ℕ} → SpellsLines t xs → length (row_lines (rows_of xs)) ≤ length t
unfolding row_lines rows_of rows_from row_count ends
rows-shortest no_line = omega arith
rows-shortest (line_then_lem {l = l} {t = t} {vs = vs} {xs = xs} s r) = go (spelled_many s) (text-shortest s) (rows-shortest r)
  where
    go : length vs ≡ length ends → length (line_text ends vs) ≤ length l → length (row_lines (rows_of xs)) ≤ length t
        → length (row_lines (rows_of (vs ++ xs))) ≤ length (l ++ t)
    go e h k =
        rw (row_lines_first vs xs e, length-append (line_text ends vs) (row_lines (rows_of xs)), length-append l t) (omega arith)

-- The test for equal lists, as for the line of names, is one.
pub same_refl : (l : List ℕ) → same l l ≡ true
unfolding same
same_refl [] = refl
same_refl (x ∷ l) = eq_then _ _ _ _ refl ∙ same_refl l

pub same-is : (l m : List ℕ) → same l m ≡ true → l ≡ m
unfolding same
same-is [] [] e = refl
same-is [] (y ∷ m) e = absurd (false≢true e)
same-is (x ∷ l) [] e = absurd (false≢true e)
same-is (x ∷ l) (y ∷ m) e =
    let (p, q) = eq_first _ _ _ _ _ false≢true e in
    let r : l ≡ m = same-is l m q in
    cc

-- Behind the line of names, the lines are read.
pub names-first : (t : List ℕ) → read_all (lines_of (names ++ t)) ≡ read_lines 2 (lines_of t)
unfolding read_all
names-first t = ap read_all (lines-first names-line t) ∙ true_then _ _ _ (same_refl names)

-- The text of rows of values up to 999 has at most four bytes for each value.
short-first : (vs xs : List ℕ) → length vs ≡ row_size → Each (λ v. v ≤ 999) vs
    → length (row_lines (rows_of xs)) ≤ 4 * length xs
    → length (row_lines (rows_of (vs ++ xs))) ≤ 4 * length (vs ++ xs)
unfolding ends
short-first vs xs e h k =
    rw (row_lines_first vs xs e, length-append (line_text ends vs) (row_lines (rows_of xs)), length-append vs xs)
    (omega (arith, text-short ends vs h))

rows_short : {xs : List ℕ} → Rowed xs → Each (λ v. v ≤ 999) xs → length (row_lines (rows_of xs)) ≤ 4 * length xs
unfolding row_lines rows_of rows_from row_count
rows_short none h = omega arith
rows_short (row vs xs e r) h = let (p, q) = each-parts _ vs xs h in short-first vs xs e p (rows_short r q)

-- So 1,024 such rows fit in a file with the line of names.
pub fits : (xs : List ℕ) → length xs % row_size ≡ 0 → ((i : ℕ) → get_or xs i 0 ≤ 999) → row_count xs ≤ max_rows
    → length (file_text (rows_of xs)) ≤ max_bytes
unfolding file_text names
fits xs e h k =
    let r = rowed xs e in
    let s : length (row_lines (rows_of xs)) ≤ 4 * length xs = rows_short r (at_each _ xs h) in
    rw (length-append names (row_lines (rows_of xs))) (omega (arith, rowed_length r))

-- A file that is read spells its numbers.
all-spelled : (ls : List (List ℕ)) (xs : List ℕ) → read_all ls ≡ Numbers xs
    → (ms : List (List ℕ)) × (ls ≡ names ∷ ms) × SpellsLines (flatten ms) xs
unfolding read_all
all-spelled [] xs e = absurd (unread _ xs e)
all-spelled (l ∷ ls) xs e =
    let (p, q) = true_first _ _ _ _ (unread _ xs) e in
    (ls, ap (λ (k : List ℕ). k ∷ ls) (same-is l names p), lines-spelled 2 ls xs q)

file-spelled : (f xs : List ℕ) → read_file f ≡ Numbers xs → SpellsFile f xs
unfolding read_file flatten
file-spelled f xs e =
    let (short, p) = lt_second _ _ _ _ _ (unread _ xs) e in
    let (ms, q, s) = all-spelled (lines_of f) xs p in
    record {
      lines = flatten ms;
      text = sym (lines-flatten f) ∙ ap flatten q;
      values = s;
      short = short;
    }

-- So a file is read to some numbers just where it spells them.
pub file-reads : (f xs : List ℕ) → (read_file f ≡ Numbers xs) ↔ SpellsFile f xs
unfolding read_file
file-reads f xs = (file-spelled f xs, back)
  where
    back : SpellsFile f xs → read_file f ≡ Numbers xs
    back s = lt_else _ _ _ _ s.short ∙ ap (λ (t : List ℕ). read_all (lines_of t)) s.text ∙ names-first s.lines ∙ lines-read s.values 2

-- And its numbers are whole rows.
pub read_whole : (f xs : List ℕ) → read_file f ≡ Numbers xs → length xs % row_size ≡ 0
read_whole f xs e = omega (arith, rowed_length (spelled_rows (file-spelled f xs e).values))

-- The file that is written for rows spells them, if it is short enough; none that does is shorter.
text-file : (xs : List ℕ) → Rowed xs → Each Small xs → length (file_text (rows_of xs)) ≤ max_bytes → SpellsFile (file_text (rows_of xs)) xs
unfolding file_text
text-file xs r h k = record { lines = row_lines (rows_of xs); text = refl; values = rows-spelled r h; short = k }

pub file-shortest : {f xs : List ℕ} → SpellsFile f xs → length (file_text (rows_of xs)) ≤ length f
unfolding file_text
file-shortest {f} {xs} s =
    rw (s.text, length-append names (row_lines (rows_of xs)), length-append names s.lines) (omega (arith, rows-shortest s.values))

-- So the file that is written for what a file says is short enough, and says the same.
pub written-again : {f xs : List ℕ} → SpellsFile f xs → SpellsFile (file_text (rows_of xs)) xs
written-again {f} {xs} s =
    text-file xs (spelled_rows s.values) (spelled_values s.values) (omega (arith, file-shortest s, s.short))

-- Rows of values up to 999 have a file.
pub rows-file : (xs : List ℕ) → length xs % row_size ≡ 0 → ((i : ℕ) → get_or xs i 0 ≤ 999) → row_count xs ≤ max_rows
    → SpellsFile (file_text (rows_of xs)) xs
rows-file xs e h k = text-file xs (rowed xs e) (at_each Small xs (λ i. small i (h i))) (fits xs e h k)
  where
    small : (i : ℕ) → get_or xs i 0 ≤ 999 → Small (get_or xs i 0)
    small i g = omega arith
