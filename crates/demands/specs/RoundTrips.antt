-- Round trips, of what the buffers hold: a file that was read is written again without padding, byte for byte where it has none, and rows that were
-- written are read again number for number. Document 02, Paper 1.
use Rattle.std.specs.Prelude.{ℕ, ◌≤◌, ◌≡◌, List, length, Ok}
use Rattle.model.specs.Answers.{WriteAnswer, ReadAnswer, show_size}
use Rattle.model.specs.Rows.{row_count}
use Rattle.model.specs.Blocks.{blocks_of, count}
use Rattle.shows.specs.Files.{SpellsFile}
use Rattle.demands.specs.Buffers.{Leaves}
use Rattle.demands.specs.Files.{Unpadded, UnpaddedFile}

-- File f was read to rows xs, and these are written to an output: the answer w, and the output before and afterwards. "Whoever reads a padded file and
-- writes it gets the unpadded file of the same rows. An unpadded file comes back as the same bytes." It is no longer than the file that was read.
pub record WritesBack (f xs : List ℕ) (w : WriteAnswer) (out after : List ℕ) : Type 0 where
  pub read : SpellsFile f xs
  pub file : List ℕ
  pub same_rows : UnpaddedFile file xs
  pub same_bytes : Unpadded f → file ≡ f
  pub no_longer : length file ≤ length f
  pub answer : w ≡ Ok (length file)
  pub bytes : Leaves file out after

-- Rows xs were written, and what was left of them is read to an output: the answer r, and the output before and afterwards.
pub record ReadsBack (xs : List ℕ) (r : ReadAnswer) (out after : List ℕ) : Type 0 where
  pub answer : r ≡ Ok (show_size (row_count xs) (length (blocks_of xs)) (count (blocks_of xs)))
  pub rows : Leaves xs out after

-- A file was read with the answer first and left rows xs; these were written, and what that left is read to an output: the answer r, and the output
-- before and afterwards.
pub record ReadsAgain (first : ReadAnswer) (xs : List ℕ) (r : ReadAnswer) (out after : List ℕ) : Type 0 where
  pub answer : r ≡ first
  pub rows : Leaves xs out after
