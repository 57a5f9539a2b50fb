-- The second way of reading is a way of reading, and answers and leaves what document 02, Paper 4, demands.
use Prim.Native.Nat.{ℕ, ◌+◌, ◌*◌, ◌-◌, ◌≤◌, ◌<◌}
use native.Mathlib.Omega.{arith}
use native.Mathlib.Decide.{ℕ_discrete, dec_lt}
use mathlib.Core.Path.{◌≡◌, refl, sym, ◌∙◌, ap}
use mathlib.Core.Logic.{◌⊎◌, inl, inr, ◌↔◌}
use mathlib.Core.List.{List, [], ◌∷◌}
use lib.ListN.{length, take}
use Rattle.std.specs.Prelude.{Ok, Err}
use Rattle.model.specs.Limits.{row_size, max_rows, desk_rows, desk_blocks}
use Rattle.model.specs.Rows.{row_at, row_count, rows_of, file_text}
use Rattle.model.specs.Blocks.{blocks_of, count}
use Rattle.model.specs.Summaries.{Search, summary_by}
use Rattle.model.specs.Lists.{overwrite}
use Rattle.model.specs.Verdicts.{refusal, refused, and_then, verdict, Numbers, Unread, read_file, numbers_of, Verdict, Accepted}
use Rattle.model.specs.Desk.{
  built_in_numbers,
  with_desk,
  check_own,
  check_first,
  desk_verdict,
  by_own_line,
  in_own_lines,
  desk_read_verdict,
  desk_file_verdict,
}
use Rattle.model.specs.Answers.{of_write, WriteAnswer, ReadAnswer, show_size}
use Rattle.model.specs.Questions.{Outcome, outcome, refuse, answer, on_accepted, read_into, desk_read_asked}
use Rattle.model.specs.declared.Refusal.{Refusal}
use Rattle.basics.proofs.Choices.{lt_then, lt_else, eq_then, eq_else}
use Rattle.shows.specs.Files.{SpellsFile}
use Rattle.shows.proofs.Accepted.{not-accepted, both_accepted}
use Rattle.shows.proofs.Files.{file-reads}
use Rattle.shows.proofs.RefusalPlaces.{place-most}
use Rattle.shows.proofs.RoundTrips.{rows-spell, rows_fit, write-answer}
use Rattle.shows.proofs.DeskTable.{with_count, with_length}
use Rattle.shows.proofs.Desk.{own-place, desk_blocks_lem, desk_summary}
use Rattle.demands.specs.Acceptance.{Lawful, Check, Length, Sequence, Ranges, Repeats, Order, Ends, Totals, refusal_number}
use Rattle.model.specs.Asking.{AsksDeskRead, AsksWrite}
use Rattle.demands.specs.Files.{ReadRefusal, of_length, of-names, of-line, of-rows, of_room}
use Rattle.demands.specs.Desk.{built_in_first, OwnRows, OpensFirst, DeskLawful, DeskBroken, bad-count, bad-first, bad-rows, own_line, IsDeskRead, OwnLines, WritesWhole}
use Rattle.demands.proofs.Acceptance.{accepted-exactly, refused-exactly, refused-is}
use Rattle.demands.proofs.Answers.{written_is}
use Rattle.demands.proofs.ReadCases.{Way, Answered, answered}
use Rattle.demands.proofs.Reading.{reads_as}
use Rattle.demands.proofs.RoundTrips.{rows_left, numbers-many, wrote, reads_again}

-- What the verdict on the file's own rows is.
data DeskCase (xs : List ℕ) : Type 0 where
  no_count : (OwnRows xs → ⊥) → desk_verdict xs ≡ refused 4 0 → DeskCase xs
  no_first : OwnRows xs → (OpensFirst xs → ⊥) → desk_verdict xs ≡ refused 5 169 → DeskCase xs
  as_rows : OwnRows xs → OpensFirst xs → check_own xs ≡ Accepted → check_first (row_at xs 0) ≡ Accepted → desk_verdict xs ≡ verdict (built_in_first xs)
      → DeskCase xs

desk_case : (xs : List ℕ) → DeskCase xs
unfolding desk_verdict with_desk check_own check_first and_then refused
desk_case xs = go (dec_lt (row_count xs) 1) (dec_lt max_rows (desk_rows + row_count xs)) (ℕ_discrete (row_at xs 0).kind 0) (ℕ_discrete (row_at xs 0).block desk_blocks)
  where
    behind : Verdict → Verdict
    behind v = and_then v (and_then (check_first (row_at xs 0)) (verdict (with_desk xs)))

    then-rows : Verdict → Verdict
    then-rows v = and_then v (verdict (with_desk xs))

    counted : (row_count xs < 1 → ⊥) → (max_rows < desk_rows + row_count xs → ⊥) → check_own xs ≡ Accepted
    counted a b = lt_else (row_count xs) 1 _ _ (omega arith) ∙ lt_else max_rows (desk_rows + row_count xs) _ _ (omega arith)

    go : Dec (row_count xs < 1) → Dec (max_rows < desk_rows + row_count xs) → Dec ((row_at xs 0).kind ≡ 0) → Dec ((row_at xs 0).block ≡ desk_blocks) → DeskCase xs
    go (yes a) b c d = no_count (λ h. omega (arith, h.0)) (ap behind (lt_then (row_count xs) 1 _ _ a))
    go (no a) (yes b) c d =
        no_count (λ h. omega (arith, h.1))
        (ap behind (lt_else (row_count xs) 1 _ _ (omega arith) ∙ lt_then max_rows (desk_rows + row_count xs) _ _ b))
    go (no a) (no b) (no c) d =
        no_first (omega arith, omega arith) (λ h. c h.0) (ap behind (counted a b) ∙ ap then-rows (eq_else (row_at xs 0).kind 0 _ _ c))
    go (no a) (no b) (yes c) (no d) =
        no_first (omega arith, omega arith) (λ h. d h.1)
        (ap behind (counted a b) ∙ ap then-rows (eq_then (row_at xs 0).kind 0 _ _ c ∙ eq_else (row_at xs 0).block desk_blocks _ _ d))
    go (no a) (no b) (yes c) (yes d) =
        let first : check_first (row_at xs 0) ≡ Accepted = eq_then (row_at xs 0).kind 0 _ _ c ∙ eq_then (row_at xs 0).block desk_blocks _ _ d in
        as_rows (omega arith, omega arith) (c, d) (counted a b) first (ap behind (counted a b) ∙ ap then-rows first)

-- It is accepted exactly where all is kept,
pub desk_right : (xs : List ℕ) → (desk_verdict xs ≡ Accepted) ↔ DeskLawful xs
desk_right xs = go (desk_case xs)
  where
    go : DeskCase xs → (desk_verdict xs ≡ Accepted) ↔ DeskLawful xs
    go (no_count n e) = (λ v. absurd (not-accepted 4 0 (sym e ∙ v)), λ l. absurd (n l.own-rows))
    go (no_first o n e) = (λ v. absurd (not-accepted 5 169 (sym e ∙ v)), λ l. absurd (n l.opens-first))
    go (as_rows o f a b e) = (
      λ v. record { own-rows = o; opens-first = f; lawful = (accepted-exactly (built_in_first xs)).0 (sym e ∙ v) },
      λ l. e ∙ (accepted-exactly (built_in_first xs)).1 l.lawful,
    )

pub desk_whole : (xs : List ℕ) → desk_verdict xs ≡ Accepted → verdict (built_in_first xs) ≡ Accepted
desk_whole xs v = (accepted-exactly (built_in_first xs)).1 ((desk_right xs).0 v).lawful

-- and refused exactly by the first sentence that is broken.
pub desk_broken : (xs : List ℕ) (q : Refusal) → desk_verdict xs ≡ Err q → (c : Check) × (q.number ≡ refusal_number c) × DeskBroken xs c q.place
unfolding refused refusal refusal_number
desk_broken xs q v = go (desk_case xs)
  where
    same : (n p : ℕ) → desk_verdict xs ≡ refused n p → q ≡ refusal n p
    same n p e = let z : Err q ≡ Err (refusal n p) = sym v ∙ e in cc

    go : DeskCase xs → (c : Check) × (q.number ≡ refusal_number c) × DeskBroken xs c q.place
    go (no_count n e) = rw (same 4 0 e) (Length, refl, bad-count n)
    go (no_first o n e) = rw (same 5 169 e) (Sequence, refl, bad-first o n)
    go (as_rows o f a b e) = let (c, n, k) = refused-is (built_in_first xs) q (sym e ∙ v) in (c, n, bad-rows o f k)

pub desk_breaks : (xs : List ℕ) (c : Check) (p : ℕ) → DeskBroken xs c p → desk_verdict xs ≡ refused (refusal_number c) p
unfolding refusal_number
desk_breaks xs c p k = go (desk_case xs) k
  where
    go : DeskCase xs → {d : Check} {o : ℕ} → DeskBroken xs d o → desk_verdict xs ≡ refused (refusal_number d) o
    go (no_count n e) (bad-count m) = e
    go (no_count n e) (bad-first o m) = absurd (n o)
    go (no_count n e) (bad-rows o f m) = absurd (n o)
    go (no_first o n e) (bad-count m) = absurd (m o)
    go (no_first o n e) (bad-first z m) = e
    go (no_first o n e) (bad-rows z f m) = absurd (n f)
    go (as_rows o f a b e) (bad-count m) = absurd (m o)
    go (as_rows o f a b e) (bad-first z m) = absurd (m f)
    go (as_rows o f a b e) (bad-rows {c = d} {p = r} z g m) = e ∙ (refused-exactly (built_in_first xs) d r).1 m

-- The line of a refused row.
own_line_lem : (c : Check) (p : ℕ) → ((refusal_number c ≡ 4) × (own_line c p ≡ p)) ⊎ ((5 ≤ refusal_number c) × (own_line c p ≡ p - 167))
unfolding refusal_number own_line
own_line_lem Length p = inl (refl, refl)
own_line_lem Sequence p = inr (omega arith, refl)
own_line_lem Ranges p = inr (omega arith, refl)
own_line_lem Repeats p = inr (omega arith, refl)
own_line_lem Order p = inr (omega arith, refl)
own_line_lem Ends p = inr (omega arith, refl)
own_line_lem Totals p = inr (omega arith, refl)

pub own-told : (c : Check) (p : ℕ) → by_own_line (refusal (refusal_number c) p) ≡ refusal (refusal_number c) (own_line c p)
unfolding by_own_line refusal
own-told c p = go (own_line_lem c p)
  where
    n : ℕ
    n = refusal_number c

    go : ((n ≡ 4) × (own_line c p ≡ p)) ⊎ ((5 ≤ n) × (own_line c p ≡ p - 167)) → by_own_line (refusal n p) ≡ refusal n (own_line c p)
    go (inl (h, e)) = lt_then n 5 _ _ (omega arith) ∙ ap (refusal n) (sym e)
    go (inr (h, e)) = let at : p + 1 - desk_rows ≡ own_line c p = omega arith in lt_else n 5 _ _ h ∙ ap (refusal n) at

-- A place is 0 for check 4, and one of the file's rows for the others; so no two have one line.
own-broken : (xs : List ℕ) (c : Check) (p : ℕ) → DeskBroken xs c p → 5 ≤ refusal_number c → (168 < p) × (p ≤ 168 + row_count xs)
unfolding refusal_number refused refusal with_desk
own-broken xs c p k h = go (desk_case xs) k h
  where
    go : DeskCase xs → {d : Check} {o : ℕ} → DeskBroken xs d o → 5 ≤ refusal_number d → (168 < o) × (o ≤ 168 + row_count xs)
    go e (bad-count m) l = absurd (omega arith)
    go e (bad-first o m) l = (omega arith, omega (arith, o.0))
    go (no_count n e) (bad-rows o f m) l = absurd (n o)
    go (no_first o n e) (bad-rows z f m) l = absurd (n f)
    go (as_rows o f a b e) (bad-rows {c = d} {p = r} z g m) l =
        let v = (refused-exactly (built_in_first xs) d r).1 m in (
          own-place xs (refusal (refusal_number d) r) a b v l,
          omega (arith, with_count xs, (place-most (built_in_first xs) (refusal (refusal_number d) r) v).0),
        )

pub own-once : (xs : List ℕ) (c : Check) (o p : ℕ) → DeskBroken xs c o → own_line c o ≡ own_line c p → o ≡ p
own-once xs c o p k e = go (own_line_lem c o) (own_line_lem c p)
  where
    go : ((refusal_number c ≡ 4) × (own_line c o ≡ o)) ⊎ ((5 ≤ refusal_number c) × (own_line c o ≡ o - 167))
        → ((refusal_number c ≡ 4) × (own_line c p ≡ p)) ⊎ ((5 ≤ refusal_number c) × (own_line c p ≡ p - 167)) → o ≡ p
    go (inl (h, a)) (inl (l, b)) = omega arith
    go (inl (h, a)) (inr (l, b)) = absurd (omega arith)
    go (inr (h, a)) (inl (l, b)) = absurd (omega arith)
    go (inr (h, a)) (inr (l, b)) = omega (arith, (own-broken xs c o k h).0)

-- The second way.
pub unread-second : (f out : List ℕ) (q : Refusal) → read_file f ≡ Unread q → desk_read_asked f out ≡ refuse q out
unfolding desk_read_asked desk_file_verdict desk_read_verdict on_accepted
unread-second f out q e = rw e

pub refused-second : (f out xs : List ℕ) (q : Refusal) → read_file f ≡ Numbers xs → desk_verdict xs ≡ Err q
    → desk_read_asked f out ≡ refuse (by_own_line q) out
unfolding desk_read_asked desk_file_verdict desk_read_verdict in_own_lines on_accepted
refused-second f out xs q e v = rw (e, v)

pub taken_second : (f out xs : List ℕ) → read_file f ≡ Numbers xs → desk_verdict xs ≡ Accepted → desk_read_asked f out ≡ read_into (built_in_first xs) out
unfolding desk_read_asked desk_file_verdict desk_read_verdict numbers_of in_own_lines on_accepted with_desk
taken_second f out xs e v = rw (e, v)

abbrev pub second_way : Way built_in_first DeskLawful DeskBroken own_line
second_way =
    record {
      asked = desk_read_asked;
      verdict-on = desk_verdict;
      told = by_own_line;
      unread = unread-second;
      declined = refused-second;
      taken = taken_second;
      right = desk_right;
      whole = desk_whole;
      broken = desk_broken;
      breaks = desk_breaks;
      in_line = own-told;
      same_line = own-once;
    }

pub is-desk_read : (f out after : List ℕ) (r : ReadAnswer) → AsksDeskRead f out r after → IsDeskRead f out r after
is-desk_read = reads_as second_way

-- What was left is a show, which every question takes; its first sixteen blocks have the table's summaries.
pub record DeskLeft (xs : List ℕ) (cues : ℕ) : Type 0 where
  pub accepted : verdict xs ≡ Accepted
  pub cues-are : cues ≡ count (blocks_of xs)
  pub blocks : 16 < length (blocks_of xs)
  pub same : (find : Search) (k i j : ℕ) → k < 16 → summary_by find (blocks_of xs) k i j ≡ summary_by find (blocks_of built_in_numbers) k i j

pub desk_left : (f out after : List ℕ) (rows blocks cues : ℕ) → AsksDeskRead f out (Ok (show_size rows blocks cues)) after → DeskLeft (take (rows * row_size) after) cues
unfolding with_desk desk_verdict
desk_left f out after rows blocks cues e = go (answered second_way f out after _ e rows blocks cues refl)
  where
    go : Answered second_way f out after rows blocks cues → DeskLeft (take (rows * row_size) after) cues
    go k =
        let (own, rest) = both_accepted (check_own k.own) _ k.lawful in
        let (first, all) = both_accepted (check_first (row_at k.own 0)) _ rest in
        rw (rows_left second_way f out after rows blocks cues k)
        (record {
          accepted = all;
          cues-are = k.cues-are;
          blocks = desk_blocks_lem k.own own first;
          same = desk_summary k.own own first;
        })

pub desk_lawful : (f out after : List ℕ) (rows blocks cues : ℕ) → AsksDeskRead f out (Ok (show_size rows blocks cues)) after → Lawful (take (rows * row_size) after)
desk_lawful f out after rows blocks cues e = (accepted-exactly (take (rows * row_size) after)).0 (desk_left f out after rows blocks cues e).accepted

-- "places are still the file's own lines".
pub own-lines : (f out after : List ℕ) (r : ReadAnswer) → AsksDeskRead f out r after → OwnLines f r
unfolding refusal
own-lines f out after r e n p a low high xs s = go ((is-desk_read f out after r e).no_other (refusal n p) a)
  where
    number : (k : ℕ) (o : ℕ) → refusal n p ≡ refusal k o → n ≡ k
    number k o q = ap (λ (x : Refusal). x.number) q

    lines : (c : Check) (o : ℕ) → n ≡ refusal_number c → p ≡ own_line c o → (ys : List ℕ) × SpellsFile f ys × DeskBroken ys c o
        → (2 ≤ p) × (p ≤ row_count xs + 1)
    lines c o m q (ys, t, b) = at (own_line_lem c o)
      where
        same : ys ≡ xs
        same = let u = (file-reads f ys).1 t in let v = (file-reads f xs).1 s in cc

        at : ((refusal_number c ≡ 4) × (own_line c o ≡ o)) ⊎ ((5 ≤ refusal_number c) × (own_line c o ≡ o - 167)) → (2 ≤ p) × (p ≤ row_count xs + 1)
        at (inl (h, k)) = absurd (omega arith)
        at (inr (h, k)) = let (x, y) = own-broken xs c o (rw same at b) h in (omega arith, omega arith)

    go : ReadRefusal own_line (refusal n p) → (2 ≤ p) × (p ≤ row_count xs + 1)
    go (of_length q) = absurd (omega (arith, number 1 0 q))
    go (of-names q) = absurd (omega (arith, number 2 1 q))
    go (of-line l q) = absurd (omega (arith, number 3 l q))
    go (of_room q) = absurd (omega (arith, number 11 0 q))
    go (of-rows c o q) =
        lines c o (number (refusal_number c) (own_line c o) q) (ap (λ (x : Refusal). x.place) q)
        (((is-desk_read f out after r e).refused c o).0 (a ∙ ap Err q))

-- How much longer all rows are than the file's own.
long-table : (xs : List ℕ) → length (built_in_first xs) ≡ 168 * 11 + length xs
unfolding with_desk
long-table = with_length

-- What is written for rows that were read the second way is "a whole file, which the first way reads to the same rows".
pub writes_whole : (f out after : List ℕ) (rows blocks cues : ℕ) → AsksDeskRead f out (Ok (show_size rows blocks cues)) after
    → (w : WriteAnswer) (out' after' : List ℕ) → AsksWrite (take (rows * row_size) after) out' w after' → 65536 ≤ length out'
    → WritesWhole f (Ok (show_size rows blocks cues)) (take (rows * row_size) after) w after'
unfolding answer
writes_whole f out after rows blocks cues e w out' after' e' room = go (answered second_way f out after _ e rows blocks cues refl)
  where
    go : Answered second_way f out after rows blocks cues → WritesWhole f (Ok (show_size rows blocks cues)) (take (rows * row_size) after) w after'
    go k =
        record {
          bytes = length text;
          answer = said;
          fits = fits;
          other_bytes = λ q. other (sym same_text ∙ q);
          first_way = λ r out'' after'' e'' h.
              reads_again second_way f out after rows blocks cues e (length text) out' after' (rw said at e') r out'' after'' e'' (omega (arith, long, h));
        }
      where
        xs : List ℕ
        xs = built_in_first k.own

        v : verdict xs ≡ Accepted
        v = desk_whole k.own k.lawful

        text : List ℕ
        text = file_text (rows_of xs)

        left : take (rows * row_size) after ≡ xs
        left = rows_left second_way f out after rows blocks cues k

        long : rows * row_size ≡ length (take (rows * row_size) after)
        long = numbers-many second_way f out after rows blocks cues k ∙ ap length (sym left)

        fits : length text ≤ 65536
        fits = rows_fit xs v

        given : outcome (of_write w) after' ≡ answer (length text ∷ []) (overwrite text out')
        given = (rw left at e') ∙ write-answer xs out' v (omega (arith, fits))

        said : w ≡ Ok (length text)
        said = written_is w (length text) (ap (λ (o : Outcome). o.answer) given)

        same_text : take (length text) after' ≡ text
        same_text = (wrote xs out' after' w (rw left at e') (length text) said).left.first

        as_many : Numbers k.own ≡ Numbers xs → length k.own ≡ length xs
        as_many q = let z : k.own ≡ xs = cc in ap length z

        other : text ≡ f → ⊥
        other q = omega (arith, long-table k.own, as_many (sym k.says ∙ ap read_file (sym q) ∙ (file-reads text xs).1 (rows-spell xs v)))
