-- What a way of reading answers and leaves, case by case: the text, its rows and the room.
use Prim.Native.Nat.{ℕ, ◌≤◌, ◌<◌}
use native.Mathlib.Omega.{arith}
use native.Mathlib.Decide.{dec_lt}
use mathlib.Core.Path.{◌≡◌, refl, ◌∙◌, ap}
use mathlib.Core.Logic.{◌↔◌}
use mathlib.Core.List.{List}
use lib.ListN.{length}
use Rattle.std.specs.Prelude.{Ok, Err}
use Rattle.model.specs.Rows.{row_count}
use Rattle.model.specs.Blocks.{blocks_of, count}
use Rattle.model.specs.Lists.{overwrite}
use Rattle.model.specs.Verdicts.{refusal, refused, verdict, Reading, Numbers, Unread, read_file, Verdict, Accepted}
use Rattle.model.specs.Answers.{of_read, ReadAnswer, show_size}
use Rattle.model.specs.Questions.{Outcome, outcome, refuse, answer, read_into}
use Rattle.model.specs.declared.Refusal.{Refusal}
use Rattle.shows.proofs.RoundTrips.{into-answer}
use Rattle.shows.proofs.Outcomes.{no_room}
use Rattle.demands.specs.Acceptance.{Check, refusal_number}
use Rattle.demands.specs.Buffers.{Leaves}
use Rattle.demands.proofs.Answers.{read_is, unread-is, sizes-same}
use Rattle.demands.proofs.Buffers.{leaves}

-- What is known of a way of reading (specs/Files: `ReadsAs`).
pub record Way (all : List ℕ → List ℕ) (Right : List ℕ → Type 0) (Broken : List ℕ → Check → ℕ → Type 0) (line : Check → ℕ → ℕ) : Type 0 where
  -- What is answered for a file and an output, the verdict on the numbers of a file, and a refusal of it, told by its line.
  pub asked : List ℕ → List ℕ → Outcome
  pub verdict-on : List ℕ → Verdict
  pub told : Refusal → Refusal
  -- The answer follows the text and the verdict.
  pub unread : (f out : List ℕ) (q : Refusal) → read_file f ≡ Unread q → asked f out ≡ refuse q out
  pub declined : (f out xs : List ℕ) (q : Refusal) → read_file f ≡ Numbers xs → verdict-on xs ≡ Err q → asked f out ≡ refuse (told q) out
  pub taken : (f out xs : List ℕ) → read_file f ≡ Numbers xs → verdict-on xs ≡ Accepted → asked f out ≡ read_into (all xs) out
  -- The verdict follows the sentences.
  pub right : (xs : List ℕ) → (verdict-on xs ≡ Accepted) ↔ Right xs
  pub whole : (xs : List ℕ) → verdict-on xs ≡ Accepted → verdict (all xs) ≡ Accepted
  pub broken : (xs : List ℕ) (q : Refusal) → verdict-on xs ≡ Err q → (c : Check) × (q.number ≡ refusal_number c) × Broken xs c q.place
  pub breaks : (xs : List ℕ) (c : Check) (p : ℕ) → Broken xs c p → verdict-on xs ≡ refused (refusal_number c) p
  -- Places are told by their lines, and no other place has the line of one that is broken first.
  pub in_line : (c : Check) (p : ℕ) → told (refusal (refusal_number c) p) ≡ refusal (refusal_number c) (line c p)
  pub same_line : (xs : List ℕ) (c : Check) (o p : ℕ) → Broken xs c o → line c o ≡ line c p → o ≡ p

-- Too little room.
into-short : (xs out : List ℕ) → length out < length xs → read_into xs out ≡ refuse (refusal 11 0) out
unfolding read_into
into-short xs out h = no_room _ _ _ h

-- An answer is no refusal.
pub no_refusal : (r : ReadAnswer) (rows blocks cues : ℕ) (q : Refusal) → r ≡ Ok (show_size rows blocks cues) → r ≡ Err q → ⊥
no_refusal r rows blocks cues q a b = let z : ◌≡◌ {A = ℕ} 0 1 = cc in omega arith

module _ {all : List ℕ → List ℕ} {Right : List ℕ → Type 0} {Broken : List ℕ → Check → ℕ → Type 0} {line : Check → ℕ → ℕ}
    (way : Way all Right Broken line) where
  -- What is known of the answer: where the text breaks a rule, where its rows are refused, where there is too little room, and where numbers are read.
  pub data ReadCase (f out : List ℕ) (r : ReadAnswer) (after : List ℕ) : Type 0 where
    not-read : (q : Refusal) → read_file f ≡ Unread q → r ≡ Err q → after ≡ out → ReadCase f out r after
    not-lawful : (xs : List ℕ) (q : Refusal) → read_file f ≡ Numbers xs → way.verdict-on xs ≡ Err q → r ≡ Err (way.told q) → after ≡ out
        → ReadCase f out r after
    too_short : (xs : List ℕ) → read_file f ≡ Numbers xs → way.verdict-on xs ≡ Accepted → length out < length (all xs) → r ≡ Err (refusal 11 0)
        → after ≡ out → ReadCase f out r after
    was_read : (xs : List ℕ) → read_file f ≡ Numbers xs → way.verdict-on xs ≡ Accepted → length (all xs) ≤ length out
        → r ≡ Ok (show_size (row_count (all xs)) (length (blocks_of (all xs))) (count (blocks_of (all xs)))) → after ≡ overwrite (all xs) out
        → ReadCase f out r after

  module _ (f out after : List ℕ) (r : ReadAnswer) (e : outcome (of_read r) after ≡ way.asked f out) where
    -- A refusal that is due is given, and nothing is written.
    pub is-refused : (q : Refusal) → way.asked f out ≡ refuse q out → r ≡ Err q
    unfolding refuse
    is-refused q p = unread-is r q (ap (λ (o : Outcome). o.answer) (e ∙ p))

    is_unchanged : (q : Refusal) → way.asked f out ≡ refuse q out → after ≡ out
    unfolding refuse
    is_unchanged q p = ap (λ (o : Outcome). o.after) (e ∙ p)

    pub is-short : (xs : List ℕ) → read_file f ≡ Numbers xs → way.verdict-on xs ≡ Accepted → length out < length (all xs)
        → way.asked f out ≡ refuse (refusal 11 0) out
    is-short xs p v h = way.taken f out xs p v ∙ into-short (all xs) out h

    -- So is an answer.
    pub is-answered : (xs : List ℕ) → read_file f ≡ Numbers xs → way.verdict-on xs ≡ Accepted → length (all xs) ≤ length out
        → r ≡ Ok (show_size (row_count (all xs)) (length (blocks_of (all xs))) (count (blocks_of (all xs))))
    unfolding answer
    is-answered xs p v h = read_is r _ _ _ (ap (λ (o : Outcome). o.answer) (e ∙ way.taken f out xs p v ∙ into-answer (all xs) out h))

    -- Every answer is one of these cases.
    pub read-case : ReadCase f out r after
    unfolding answer
    read-case = text (read_file f) refl
      where
        room : (xs : List ℕ) → read_file f ≡ Numbers xs → way.verdict-on xs ≡ Accepted → Dec (length out < length (all xs)) → ReadCase f out r after
        room xs p q (yes h) = let a = is-short xs p q h in too_short xs p q h (is-refused _ a) (is_unchanged _ a)
        room xs p q (no h) =
            let fits : length (all xs) ≤ length out = omega arith in
            was_read xs p q fits (is-answered xs p q fits)
            (ap (λ (o : Outcome). o.after) (e ∙ way.taken f out xs p q ∙ into-answer (all xs) out fits))

        rows : (xs : List ℕ) → read_file f ≡ Numbers xs → (v : Verdict) → way.verdict-on xs ≡ v → ReadCase f out r after
        rows xs p (Ok _) q = room xs p q (dec_lt (length out) (length (all xs)))
        rows xs p (Err s) q = let a = way.declined f out xs s p q in not-lawful xs s p q (is-refused _ a) (is_unchanged _ a)

        text : (k : Reading) → read_file f ≡ k → ReadCase f out r after
        text (Numbers xs) p = rows xs p (way.verdict-on xs) refl
        text (Unread q) p = let a = way.unread f out q p in not-read q p (is-refused q a) (is_unchanged q a)

  -- Where it answers, the file says some numbers that are taken, and there is room for all rows.
  pub record Answered (f out after : List ℕ) (rows blocks cues : ℕ) : Type 0 where
    pub own : List ℕ
    pub says : read_file f ≡ Numbers own
    pub lawful : way.verdict-on own ≡ Accepted
    pub fits : length (all own) ≤ length out
    pub rows_are : rows ≡ row_count (all own)
    pub blocks-are : blocks ≡ length (blocks_of (all own))
    pub cues-are : cues ≡ count (blocks_of (all own))
    pub left : Leaves (all own) out after

  pub answered : (f out after : List ℕ) (r : ReadAnswer) → outcome (of_read r) after ≡ way.asked f out → (rows blocks cues : ℕ)
      → r ≡ Ok (show_size rows blocks cues) → Answered f out after rows blocks cues
  answered f out after r e rows blocks cues a = go (read-case f out after r e)
    where
      go : ReadCase f out r after → Answered f out after rows blocks cues
      go (not-read q p s l) = absurd (no_refusal r _ _ _ q a s)
      go (not-lawful xs q p v s l) = absurd (no_refusal r _ _ _ (way.told q) a s)
      go (too_short xs p v h s l) = absurd (no_refusal r _ _ _ (refusal 11 0) a s)
      go (was_read xs p v h s l) =
          let (n, m, k) = sizes-same r _ _ _ _ _ _ a s in
          record {
            own = xs;
            says = p;
            lawful = v;
            fits = h;
            rows_are = n;
            blocks-are = m;
            cues-are = k;
            left = rw l (leaves (all xs) out h);
          }
