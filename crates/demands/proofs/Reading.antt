-- What a way of reading answers and leaves is what the documents demand of it; and read is such a way.
use Prim.Native.Nat.{ℕ, suc, ◌+◌, ◌≤◌, ◌<◌}
use native.Mathlib.Omega.{arith}
use mathlib.Core.Path.{◌≡◌, refl, sym, ◌∙◌, ap}
use mathlib.Core.Logic.Iff
use mathlib.Core.Logic.{◌↔◌}
use mathlib.Core.List.{List}
use lib.ListN.{length}
use Rattle.std.specs.Prelude.{Ok, Err}
use Rattle.model.specs.Choice.{if_lt}
use Rattle.model.specs.Rows.{row_count}
use Rattle.model.specs.Blocks.{blocks_of, count}
use Rattle.model.specs.Verdicts.{refusal, refused, verdict, Numbers, Unread, read_file, numbers_of, by_line, in_lines, read_verdict, file_verdict, Accepted}
use Rattle.model.specs.Answers.{of_read, ReadAnswer, show_size}
use Rattle.model.specs.Questions.{outcome, refuse, on_accepted, read_into, read_asked}
use Rattle.model.specs.declared.Refusal.{Refusal}
use Rattle.demands.specs.Buffers.{Leaves}
use Rattle.demands.specs.Acceptance.{Lawful, Check, Length, Sequence, Ranges, Repeats, Order, Ends, Totals, refusal_number, FirstBroken}
use Rattle.model.specs.Asking.{AsksRead}
use Rattle.shows.specs.Files.{SpellsFile}
use Rattle.shows.proofs.Files.{file-reads}
use Rattle.demands.specs.Files.{line_place, ReadRefusal, of-rows, of_room, ReadsAs, IsRead}
use Rattle.demands.proofs.Stages.{numbers, same_check}
use Rattle.demands.proofs.Acceptance.{accepted-exactly, refused-exactly, refused-is}
use Rattle.demands.proofs.Breaks.{file-early, file-refusal, file-long, file-unnamed, file-breaks}
use Rattle.demands.proofs.ReadCases.{Way, is-refused, is-short, is-answered, no_refusal, Answered, answered}
use Rattle.demands.proofs.ReadCases.{ReadCase, not-read, not-lawful, too_short, was_read, read-case}

module _ {all : List ℕ → List ℕ} {Right : List ℕ → Type 0} {Broken : List ℕ → Check → ℕ → Type 0} {line : Check → ℕ → ℕ}
    (way : Way all Right Broken line) where
  -- A refusal of rows, told by its line, is that of the first sentence that is broken,
  broken-line : (xs : List ℕ) (q : Refusal) → way.verdict-on xs ≡ Err q
      → (c : Check) × (p : ℕ) × (way.told q ≡ refusal (refusal_number c) (line c p)) × Broken xs c p
  unfolding refusal
  broken-line xs q v =
      let (c, n, b) = way.broken xs q v in
      let t : q ≡ refusal (refusal_number c) q.place = ap (λ (k : ℕ). refusal k q.place) n in
      (c, q.place, ap way.told t ∙ way.in_line c q.place, b)

  -- at no other place,
  broken-so : (xs : List ℕ) (q : Refusal) (c : Check) (p : ℕ) → way.verdict-on xs ≡ Err q
      → way.told q ≡ refusal (refusal_number c) (line c p) → Broken xs c p
  unfolding refusal
  broken-so xs q c p v e =
      let (d, o, t, b) = broken-line xs q v in
      let s = sym t ∙ e in
      let same : d ≡ c = same_check d c (ap (λ (x : Refusal). x.number) s) in
      let k : Broken xs c o = rw same at b in
      let at : o ≡ p = way.same_line xs c o p k (rw same at (ap (λ (x : Refusal). x.place) s)) in
      rw at at k

  -- and its number is 4 to 10.
  told-range : (xs : List ℕ) (q : Refusal) → way.verdict-on xs ≡ Err q → (4 ≤ (way.told q).number) × ((way.told q).number ≤ 10)
  unfolding refusal
  told-range xs q v =
      let (c, p, t, b) = broken-line xs q v in
      let n : (way.told q).number ≡ refusal_number c = ap (λ (x : Refusal). x.number) t in
      omega (arith, (numbers c).low, (numbers c).high)

  -- Each answer and each refusal is the one that is demanded.
  pub reads_as : (f out after : List ℕ) (r : ReadAnswer) → outcome (of_read r) after ≡ way.asked f out → ReadsAs all Right Broken line f out r after
  unfolding refused refusal
  reads_as f out after r e =
      record {
        answers = (
          λ (rows, blocks, cues, a). answered-so rows blocks cues (answered way f out after r e rows blocks cues a),
          λ (xs, s, l, h). answers xs s l h,
        );
        given = λ rows blocks cues a xs s. given_so rows blocks cues xs (says xs s) (answered way f out after r e rows blocks cues a);
        too_long = Iff.trans (text (refusal 1 0) (omega arith)) (file-long f);
        no_names = Iff.trans (text (refusal 2 1) (omega arith)) (file-unnamed f);
        malformed = λ n. Iff.trans (text (refusal 3 n) (omega arith)) (file-breaks f n);
        refused = λ c p. (λ a. broken c p a case, λ (xs, s, b). refuses c p xs s b);
        no_room = (λ a. short a case, λ (xs, s, l, h). no_room xs s l h);
        no_other = λ q a. other q a case;
        unchanged = λ q a. kept q a case;
      }
    where
      case : ReadCase way f out r after
      case = read-case way f out after r e

      says : (xs : List ℕ) → SpellsFile f xs → read_file f ≡ Numbers xs
      says xs = (file-reads f xs).1

      answered-so : (rows blocks cues : ℕ) → Answered way f out after rows blocks cues
          → (xs : List ℕ) × SpellsFile f xs × Right xs × (length (all xs) ≤ length out)
      answered-so rows blocks cues a = (a.own, (file-reads f a.own).0 a.says, (way.right a.own).0 a.lawful, a.fits)

      answers : (xs : List ℕ) → SpellsFile f xs → Right xs → length (all xs) ≤ length out → (rows blocks cues : ℕ) × (r ≡ Ok (show_size rows blocks cues))
      answers xs s l h =
          (row_count (all xs), length (blocks_of (all xs)), count (blocks_of (all xs)), is-answered way f out after r e xs (says xs s) ((way.right xs).1 l) h)

      given_so : (rows blocks cues : ℕ) (xs : List ℕ) → read_file f ≡ Numbers xs → Answered way f out after rows blocks cues
          → (rows ≡ row_count (all xs)) × (blocks ≡ length (blocks_of (all xs))) × (cues ≡ count (blocks_of (all xs))) × Leaves (all xs) out after
      given_so rows blocks cues xs t a =
          let s = a.says in
          let same : a.own ≡ xs = cc in
          rw (← same) (a.rows_are, a.blocks-are, a.cues-are, a.left)

      number : (q k : Refusal) → r ≡ Err q → r ≡ Err k → q.number ≡ k.number
      number q k s a = let e : q ≡ k = cc in ap (λ (x : Refusal). x.number) e

      unread : (q : Refusal) → q.number ≤ 3 → r ≡ Err q → ReadCase way f out r after → read_file f ≡ Unread q
      unread q h a (not-read k t s l) = let z : k ≡ q = cc in rw (← z) t
      unread q h a (not-lawful xs k t v s l) = absurd (omega (arith, told-range xs k v, number (way.told k) q s a))
      unread q h a (too_short xs t v k s l) = absurd (omega (arith, number (refusal 11 0) q s a))
      unread q h a (was_read xs t v k s l) = absurd (no_refusal r _ _ _ q s a)

      text : (q : Refusal) → q.number ≤ 3 → (r ≡ Err q) ↔ (read_file f ≡ Unread q)
      text q h = (λ a. unread q h a case, λ t. is-refused way f out after r e q (way.unread f out q t))

      broken : (c : Check) (p : ℕ) → r ≡ Err (refusal (refusal_number c) (line c p)) → ReadCase way f out r after
          → (xs : List ℕ) × SpellsFile f xs × Broken xs c p
      broken c p a (not-read q t s l) = absurd (omega (arith, (numbers c).low, (numbers c).high, file-early f q t, number q _ s a))
      broken c p a (not-lawful xs q t v s l) = (xs, (file-reads f xs).0 t, broken-so xs q c p v cc)
      broken c p a (too_short xs t v h s l) = absurd (omega (arith, (numbers c).low, (numbers c).high, number (refusal 11 0) _ s a))
      broken c p a (was_read xs t v h s l) = absurd (no_refusal r _ _ _ _ s a)

      refuses : (c : Check) (p : ℕ) (xs : List ℕ) → SpellsFile f xs → Broken xs c p → r ≡ Err (refusal (refusal_number c) (line c p))
      refuses c p xs s b =
          is-refused way f out after r e _ (way.declined f out xs (refusal (refusal_number c) p) (says xs s) (way.breaks xs c p b))
          ∙ ap Err (way.in_line c p)

      short : r ≡ Err (refusal 11 0) → ReadCase way f out r after → (xs : List ℕ) × SpellsFile f xs × Right xs × (length out < length (all xs))
      short a (not-read q t s l) = absurd (omega (arith, file-early f q t, number q _ s a))
      short a (not-lawful xs q t v s l) = absurd (omega (arith, told-range xs q v, number (way.told q) _ s a))
      short a (too_short xs t v h s l) = (xs, (file-reads f xs).0 t, (way.right xs).0 v, h)
      short a (was_read xs t v h s l) = absurd (no_refusal r _ _ _ _ s a)

      no_room : (xs : List ℕ) → SpellsFile f xs → Right xs → length out < length (all xs) → r ≡ Err (refusal 11 0)
      no_room xs s l h = is-refused way f out after r e _ (is-short way f out after r e xs (says xs s) ((way.right xs).1 l) h)

      kept : (q : Refusal) → r ≡ Err q → ReadCase way f out r after → after ≡ out
      kept q a (not-read k t s l) = l
      kept q a (not-lawful xs k t v s l) = l
      kept q a (too_short xs t v h s l) = l
      kept q a (was_read xs t v h s l) = absurd (no_refusal r _ _ _ q s a)

      other : (q : Refusal) → r ≡ Err q → ReadCase way f out r after → ReadRefusal line q
      other q a (not-read k t s l) = let z : q ≡ k = cc in rw z (file-refusal line f k t)
      other q a (not-lawful xs k t v s l) =
          let z : q ≡ way.told k = cc in
          let (c, p, u, b) = broken-line xs k v in
          of-rows c p (z ∙ u)
      other q a (too_short xs t v h s l) = of_room cc
      other q a (was_read xs t v h s l) = absurd (no_refusal r _ _ _ q s a)

-- The line of a refused row, and that no two rows have one line.
pub line_told : (c : Check) (p : ℕ) → by_line (refusal (refusal_number c) p) ≡ refusal (refusal_number c) (line_place c p)
unfolding by_line refusal refusal_number line_place if_lt
line_told c p = go c
  where
    next : p + 1 ≡ suc p
    next = omega arith

    go : (c : Check) → by_line (refusal (refusal_number c) p) ≡ refusal (refusal_number c) (line_place c p)
    go Length = refl
    go Sequence = ap (refusal 5) next
    go Ranges = ap (refusal 6) next
    go Repeats = ap (refusal 7) next
    go Order = ap (refusal 8) next
    go Ends = ap (refusal 9) next
    go Totals = ap (refusal 10) next

pub line_once : (c : Check) (p q : ℕ) → line_place c p ≡ line_place c q → p ≡ q
unfolding line_place
line_once Length p q e = e
line_once Sequence p q e = omega arith
line_once Ranges p q e = omega arith
line_once Repeats p q e = omega arith
line_once Order p q e = omega arith
line_once Ends p q e = omega arith
line_once Totals p q e = omega arith

-- The first way of reading.
pub unread-first : (f out : List ℕ) (q : Refusal) → read_file f ≡ Unread q → read_asked f out ≡ refuse q out
unfolding read_asked file_verdict read_verdict on_accepted
unread-first f out q e = rw e

pub refused-first : (f out xs : List ℕ) (q : Refusal) → read_file f ≡ Numbers xs → verdict xs ≡ Err q → read_asked f out ≡ refuse (by_line q) out
unfolding read_asked file_verdict read_verdict in_lines on_accepted
refused-first f out xs q e v = rw (e, v)

pub taken_first : (f out xs : List ℕ) → read_file f ≡ Numbers xs → verdict xs ≡ Accepted → read_asked f out ≡ read_into xs out
unfolding read_asked file_verdict read_verdict numbers_of in_lines on_accepted
taken_first f out xs e v = rw (e, v)

abbrev pub first_way : Way (λ xs. xs) Lawful FirstBroken line_place
first_way =
    record {
      asked = read_asked;
      verdict-on = verdict;
      told = by_line;
      unread = unread-first;
      declined = refused-first;
      taken = taken_first;
      right = accepted-exactly;
      whole = λ xs v. v;
      broken = refused-is;
      breaks = λ xs c p. (refused-exactly xs c p).1;
      in_line = line_told;
      same_line = λ xs c o p b. line_once c o p;
    }

pub is_read : (f out after : List ℕ) (r : ReadAnswer) → AsksRead f out r after → IsRead f out r after
is_read = reads_as first_way
