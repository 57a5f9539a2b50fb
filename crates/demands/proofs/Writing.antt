-- What write answers and leaves is what the documents demand.
use Prim.Native.Nat.{ℕ, ◌≤◌}
use mathlib.Core.Path.{◌≡◌, ◌∙◌, ap}
use mathlib.Core.List.{List}
use lib.ListN.{length}
use Rattle.std.specs.Prelude.{Ok}
use Rattle.model.specs.Answers.{WriteAnswer}
use Rattle.model.specs.Rows.{rows_of, file_text}
use Rattle.model.specs.Verdicts.{verdict, Accepted}
use Rattle.model.specs.Questions.{Outcome, answer}
use Rattle.shows.proofs.RoundTrips.{rows-spell, write-answer}
use Rattle.demands.specs.Buffers.{Leaves}
use Rattle.model.specs.Asking.{AsksWrite}
use Rattle.demands.specs.Acceptance.{Lawful}
use Rattle.demands.specs.Files.{UnpaddedFile, IsWritten}
use Rattle.demands.proofs.Acceptance.{accepted-exactly}
use Rattle.demands.proofs.Padding.{text-is, text-file_unpadded, one-file}
use Rattle.demands.proofs.Answers.{written_is}
use Rattle.demands.proofs.RoundTrips.{Wrote, wrote}

-- The file that is written for accepted rows says them, and is unpadded.
pub says : (xs : List ℕ) → verdict xs ≡ Accepted → UnpaddedFile (file_text (rows_of xs)) xs
says xs v = text-file_unpadded (rows-spell xs v)

-- Each answer of write is the one that is demanded.
pub is-written : (xs out after : List ℕ) (w : WriteAnswer) → AsksWrite xs out w after → IsWritten xs out w after
unfolding answer
is-written xs out after w e =
    record {
      file = λ l. (file_text (rows_of xs), says xs ((accepted-exactly xs).1 l));
      one-file = λ f g. one-file;
      answers = (λ (bytes, a). lawful bytes (wrote xs out after w e bytes a), λ (l, (f, s, h)). answers l f s h);
      given = λ bytes a. given bytes (wrote xs out after w e bytes a);
    }
  where
    lawful : (bytes : ℕ) → Wrote xs out after bytes → Lawful xs × ((f : List ℕ) × UnpaddedFile f xs × (length f ≤ length out))
    lawful bytes k = ((accepted-exactly xs).0 k.lawful, (file_text (rows_of xs), says xs k.lawful, k.fits))

    answers : Lawful xs → (f : List ℕ) → UnpaddedFile f xs → length f ≤ length out → (bytes : ℕ) × (w ≡ Ok bytes)
    answers l f s h =
        let a = write-answer xs out ((accepted-exactly xs).1 l) (rw (text-is s) h) in
        (length (file_text (rows_of xs)), written_is w _ (ap (λ (o : Outcome). o.answer) (e ∙ a)))

    given : (bytes : ℕ) → Wrote xs out after bytes → (f : List ℕ) × UnpaddedFile f xs × (bytes ≡ length f) × Leaves f out after
    given bytes k = (file_text (rows_of xs), says xs k.lawful, k.bytes-are, k.left)
