-- Reading and writing, as questions: what writing an accepted show gives is read back to its rows, and what reading an accepted file gives is
-- written as the file of these rows, in no more bytes than were read (02, Paper 1).
use Prim.Native.Nat.{ℕ, ◌≤◌}
use mathlib.Core.Path.{◌≡◌, refl}
use mathlib.Core.List.{List, [], ◌∷◌}
use native.Mathlib.Omega.{arith}
use lib.ListN.{length}
use Rattle.std.specs.Prelude.{Ok, Err}
use Rattle.model.specs.Limits.{max_bytes}
use Rattle.model.specs.Rows.{row_count, rows_of, file_text}
use Rattle.model.specs.Blocks.{blocks_of, count}
use Rattle.model.specs.Verdicts.{verdict, Reading, Numbers, Unread, read_file, numbers_of, in_lines, read_verdict, file_verdict, Verdict, Accepted}
use Rattle.model.specs.Lists.{overwrite}
use Rattle.model.specs.Questions.{answer, on_accepted, read_into, read_asked, write_into, write_asked}
use Rattle.model.specs.declared.Refusal.{Refusal}
use Rattle.shows.specs.Accepted.{Show}
use Rattle.shows.proofs.Accepted.{accepted-show}
use Rattle.shows.proofs.Outcomes.{has_room}
use Rattle.shows.specs.Files.{SpellsFile}
use Rattle.shows.proofs.Files.{file-reads, rows-file, file-shortest, fits}

-- What is answered for rows that are read, where there is room.
pub into-answer : (xs out : List ℕ) → length xs ≤ length out
    → read_into xs out ≡ answer (row_count xs ∷ length (blocks_of xs) ∷ count (blocks_of xs) ∷ []) (overwrite xs out)
unfolding read_into
into-answer xs out h = has_room _ _ _ h

-- What reading answers for a file of accepted rows.
pub read_answer : (f xs out : List ℕ) → read_file f ≡ Numbers xs → verdict xs ≡ Accepted → length xs ≤ length out
    → read_asked f out ≡ answer (row_count xs ∷ length (blocks_of xs) ∷ count (blocks_of xs) ∷ []) (overwrite xs out)
unfolding read_asked file_verdict read_verdict numbers_of in_lines on_accepted
read_answer f xs out e v h = rw (e, v) (into-answer xs out h)

-- The file that is written for accepted rows says their numbers.
pub rows-spell : (xs : List ℕ) → verdict xs ≡ Accepted → SpellsFile (file_text (rows_of xs)) xs
rows-spell xs v = let s : Show xs = accepted-show xs v in rows-file xs s.whole s.values s.rows.1

rows-read : (xs : List ℕ) → verdict xs ≡ Accepted → read_file (file_text (rows_of xs)) ≡ Numbers xs
rows-read xs v = (file-reads (file_text (rows_of xs)) xs).1 (rows-spell xs v)

-- Reading back what was written for accepted rows gives the rows.
pub read_back : (xs out : List ℕ) → verdict xs ≡ Accepted → length xs ≤ length out
    → read_asked (file_text (rows_of xs)) out
    ≡ answer (row_count xs ∷ length (blocks_of xs) ∷ count (blocks_of xs) ∷ []) (overwrite xs out)
read_back xs out v r = read_answer (file_text (rows_of xs)) xs out (rows-read xs v) v r

-- What writing answers for accepted rows.
pub write-answer : (xs out : List ℕ) → verdict xs ≡ Accepted → length (file_text (rows_of xs)) ≤ length out
    → write_asked xs out ≡ answer (length (file_text (rows_of xs)) ∷ []) (overwrite (file_text (rows_of xs)) out)
unfolding write_asked write_into on_accepted
write-answer xs out v h = rw v (has_room _ _ _ h)

-- Writing what was read from an accepted file gives the file of its rows. An output that has room for the file that was read is long enough.
pub write-back : (f xs out : List ℕ) → read_file f ≡ Numbers xs → verdict xs ≡ Accepted → length f ≤ length out
    → write_asked xs out ≡ answer (length (file_text (rows_of xs)) ∷ []) (overwrite (file_text (rows_of xs)) out)
write-back f xs out e v h = write-answer xs out v (omega (arith, file-shortest ((file-reads f xs).0 e)))

-- Accepted rows always fit a file.
pub rows_fit : (xs : List ℕ) → verdict xs ≡ Accepted → length (file_text (rows_of xs)) ≤ max_bytes
rows_fit xs v = let s : Show xs = accepted-show xs v in fits xs s.whole s.values s.rows.1

-- An accepted file says the numbers of an accepted show.
pub accepted-file : (f : List ℕ) → file_verdict f ≡ Accepted
    → (xs : List ℕ) × (read_file f ≡ Numbers xs) × (verdict xs ≡ Accepted)
unfolding file_verdict read_verdict in_lines
accepted-file f e = go (read_file f) refl e
  where
    refused≢ : (r : Refusal) → Err r ≡ Accepted → ⊥
    refused≢ r p = let z : ◌≡◌ {A = ℕ} 0 1 = cc in omega arith

    passed : (v : Verdict) → in_lines v ≡ Accepted → v ≡ Accepted
    passed (Ok _) p = refl
    passed (Err r) p = absurd (refused≢ _ p)

    go : (k : Reading) → read_file f ≡ k → read_verdict k ≡ Accepted
        → (xs : List ℕ) × (read_file f ≡ Numbers xs) × (verdict xs ≡ Accepted)
    go (Numbers xs) p q = (xs, p, passed (verdict xs) q)
    go (Unread r) p q = absurd (refused≢ r q)
