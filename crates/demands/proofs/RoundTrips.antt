-- A file that was read is written again without padding, and rows that were written are read again number for number.
use Prim.Native.Nat.{ℕ, ◌*◌, ◌≤◌}
use native.Mathlib.Omega.{arith}
use mathlib.Core.Path.{◌≡◌, refl, sym, ◌∙◌, ap}
use mathlib.Core.List.{List, [], ◌∷◌}
use lib.ListN.{length, get_or, take}
use Rattle.std.specs.Prelude.{Ok}
use Rattle.model.specs.Limits.{row_size}
use Rattle.model.specs.Rows.{row_count, rows_of, file_text}
use Rattle.model.specs.Lists.{overwrite}
use Rattle.model.specs.Verdicts.{verdict, Accepted}
use Rattle.model.specs.Answers.{given, of_read, of_write, WriteAnswer, ReadAnswer, show_size}
use Rattle.model.specs.Questions.{Outcome, outcome, answer, write_into, read_asked, write_asked}
use Rattle.shows.proofs.Accepted.{accepted-show}
use Rattle.shows.specs.Files.{SpellsFile}
use Rattle.shows.proofs.Files.{file-reads, file-shortest}
use Rattle.shows.proofs.RoundTrips.{read_back, write-back}
use Rattle.demands.specs.Buffers.{Leaves}
use Rattle.demands.specs.RoundTrips.{WritesBack, ReadsBack, ReadsAgain}
use Rattle.demands.proofs.Padding.{text-is, text-file_unpadded}
use Rattle.demands.proofs.Buffers.{leaves}
use Rattle.demands.proofs.Outcomes.{was_accepted, had_room}
use Rattle.demands.specs.Acceptance.{Check}
use Rattle.demands.proofs.ReadCases.{Way, Answered, answered}
use Rattle.demands.proofs.Reading.{first_way}
use Rattle.demands.proofs.Answers.{read_is, written_is}

-- The rows that were read are all of the numbers.
rows_long : (xs : List ℕ) → verdict xs ≡ Accepted → row_count xs * row_size ≡ length xs
unfolding row_count
rows_long xs v = let w = (accepted-show xs v).whole in omega arith

-- What a way of reading left at the beginning of the output: all rows, where the file says its own.
module _ {all : List ℕ → List ℕ} {Right : List ℕ → Type 0} {Broken : List ℕ → Check → ℕ → Type 0} {line : Check → ℕ → ℕ}
    (way : Way all Right Broken line) (f out after : List ℕ) (rows blocks cues : ℕ) (k : Answered way f out after rows blocks cues) where
  pub numbers-many : rows * row_size ≡ length (all k.own)
  numbers-many = omega (arith, k.rows_are, rows_long (all k.own) (way.whole k.own k.lawful))

  pub rows_left : take (rows * row_size) after ≡ all k.own
  rows_left = rw numbers-many k.left.first

-- What was written back, for the numbers that the file says.
pub writes_back : (f out after : List ℕ) (r : ReadAnswer) (rows blocks cues : ℕ)
    → outcome (of_read r) after ≡ read_asked f out → r ≡ Ok (show_size rows blocks cues)
    → (w : WriteAnswer) (out' after' : List ℕ) → outcome (of_write w) after' ≡ write_asked (take (rows * row_size) after) out' → length f ≤ length out'
    → WritesBack f (take (rows * row_size) after) w out' after'
unfolding answer
writes_back f out after r rows blocks cues e a w out' after' e' h = go (answered first_way f out after r e rows blocks cues a)
  where
    go : Answered first_way f out after rows blocks cues → WritesBack f (take (rows * row_size) after) w out' after'
    go k =
        let xs = k.own in
        let t = rows_left first_way f out after rows blocks cues k in
        let s : SpellsFile f xs = (file-reads f xs).0 k.says in
        let b = (rw t at e') ∙ write-back f xs out' k.says k.lawful h in
        rw t
        (record {
          read = s;
          file = file_text (rows_of xs);
          same_rows = text-file_unpadded s;
          same_bytes = λ u. text-is (record { spells = s; unpadded = u });
          no_longer = file-shortest s;
          answer = written_is w (length (file_text (rows_of xs))) (ap (λ (o : Outcome). o.answer) b);
          bytes = rw (ap (λ (o : Outcome). o.after) b) (leaves (file_text (rows_of xs)) out' (omega (arith, file-shortest s)));
        })

-- Where write answers, the rows are accepted, there is room for their file, and it stands in the output.
pub record Wrote (xs out after : List ℕ) (bytes : ℕ) : Type 0 where
  pub lawful : verdict xs ≡ Accepted
  pub fits : length (file_text (rows_of xs)) ≤ length out
  pub bytes-are : bytes ≡ length (file_text (rows_of xs))
  pub left : Leaves (file_text (rows_of xs)) out after

pub wrote : (xs out after : List ℕ) (w : WriteAnswer) → outcome (of_write w) after ≡ write_asked xs out → (bytes : ℕ) → w ≡ Ok bytes
    → Wrote xs out after bytes
unfolding of_write write_asked write_into answer given
wrote xs out after w e bytes a =
    let text : List ℕ = file_text (rows_of xs) in
    let (v, p) = was_accepted bytes [] after out _ (verdict xs) (rw a at e) in
    let (fits, q) = had_room bytes [] after out (answer (length text ∷ []) (overwrite text out)) (length text) p in
    record {
      lawful = v;
      fits = fits;
      bytes-are = ap (λ (o : Outcome). get_or o.answer.values 0 0) (sym q);
      left = rw (← ap (λ (o : Outcome). o.after) q) (leaves text out fits);
    }

-- What was read back, for rows that were written.
pub reads_back : (xs out after : List ℕ) (w : WriteAnswer) (bytes : ℕ) → outcome (of_write w) after ≡ write_asked xs out → w ≡ Ok bytes
    → (r : ReadAnswer) (out' after' : List ℕ) → outcome (of_read r) after' ≡ read_asked (take bytes after) out' → length xs ≤ length out'
    → ReadsBack xs r out' after'
unfolding answer
reads_back xs out after w bytes e a r out' after' e' h =
    let k = wrote xs out after w e bytes a in
    let t : take bytes after ≡ file_text (rows_of xs) = rw k.bytes-are k.left.first in
    let b = (rw t at e') ∙ read_back xs out' k.lawful h in
    record {
      answer = read_is r _ _ _ (ap (λ (o : Outcome). o.answer) b);
      rows = rw (ap (λ (o : Outcome). o.after) b) (leaves xs out' h);
    }

-- What was read again, of a file that was read in some way and whose rows were written.
pub reads_again : {all : List ℕ → List ℕ} {Right : List ℕ → Type 0} {Broken : List ℕ → Check → ℕ → Type 0} {line : Check → ℕ → ℕ}
    (way : Way all Right Broken line) (f out after : List ℕ) (rows blocks cues : ℕ) → outcome (of_read (Ok (show_size rows blocks cues))) after ≡ way.asked f out
    → (bytes : ℕ) (out' after' : List ℕ) → outcome (of_write (Ok bytes)) after' ≡ write_asked (take (rows * row_size) after) out'
    → (r : ReadAnswer) (out'' after'' : List ℕ) → outcome (of_read r) after'' ≡ read_asked (take bytes after') out'' → rows * row_size ≤ length out''
    → ReadsAgain (Ok (show_size rows blocks cues)) (take (rows * row_size) after) r out'' after''
reads_again {all} way f out after rows blocks cues e bytes out' after' e' r out'' after'' e'' h = go (answered way f out after _ e rows blocks cues refl)
  where
    go : Answered way f out after rows blocks cues → ReadsAgain (Ok (show_size rows blocks cues)) (take (rows * row_size) after) r out'' after''
    go k =
        let t = rows_left way f out after rows blocks cues k in
        let n : length (all k.own) ≤ length out'' = omega (arith, numbers-many way f out after rows blocks cues k) in
        let b = reads_back (all k.own) out' after' (Ok bytes) bytes (rw t at e') refl r out'' after'' e'' n in
        rw t (record { answer = b.answer ∙ rw (k.rows_are, k.blocks-are, k.cues-are); rows = b.rows })
