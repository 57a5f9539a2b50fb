-- The blocks that come with the desk, and what the second way of reading answers. Document 02, Paper 4. Rows are counted from 1.
use Rattle.std.specs.Prelude.{ℕ, ◌+◌, ◌*◌, ◌-◌, ◌≤◌, ◌<◌, ◌≡◌, ◌↔◌, length, get_or, take, Ok, Err}
use mathlib.Core.List.{List, [], ◌++◌, Memᴰ}
use Rattle.model.specs.Answers.{WriteAnswer, ReadAnswer}
use Rattle.model.specs.Rows.{row_count, file_text}
use Rattle.model.specs.Blocks.{Link, Block, block_at, blocks_of}
use Rattle.model.specs.Summaries.{summary}
use Rattle.model.specs.Verdicts.{refusal}
use Rattle.model.specs.Desk.{built_in, built_in_numbers}
use Rattle.shows.specs.Files.{SpellsFile}
use Rattle.model.specs.Asking.{AsksRead}
use Rattle.demands.specs.Acceptance.{nth_row, IsRow, Opens, Lawful, Check, Length, Sequence, Ranges, Repeats, Order, Ends, Totals, Keeps, turn, FirstBroken}
use Rattle.demands.specs.Blocks.{AreBlocks}
use Rattle.demands.specs.Files.{UnpaddedFile, ReadsAs}
use Rattle.demands.specs.RoundTrips.{ReadsAgain}
use Rattle.demands.specs.WorkArea.{place}

-- The table.

-- "Links of label 1 go from the first join to cue 1, on from each own cue to the next, and from the last own cue to the second join." Own cues are 1 to
-- k + 1, the joins k + 2 and k + 3.
pub data PlainLink (k : ℕ) (l : Link) : Type 0 where
  to-first : l.from ≡ k + 2 → l.to ≡ 1 → l.label ≡ 1 → PlainLink k l
  to-next : 1 ≤ l.from → l.from ≤ k → l.to ≡ l.from + 1 → l.label ≡ 1 → PlainLink k l
  from_last : l.from ≡ k + 1 → l.to ≡ k + 3 → l.label ≡ 1 → PlainLink k l

-- "Block k is a plain run with k + 1 own cues and two joins."
pub record IsPlainRun (bs : List Block) (k : ℕ) : Type 0 where
  pub own : (block_at bs k).own ≡ k + 1
  pub joins : (block_at bs k).joins ≡ 2
  pub uses : (block_at bs k).uses ≡ []
  pub links : (l : Link) → Memᴰ l (block_at bs k).links ↔ PlainLink k l

-- "a built-in table of 168 rows, sixteen blocks numbered 0 to 15". "A small program generates the table, and its printed file equals the constant": it
-- prints `file_text built_in` (crates/plain_runs), and the constant's numbers (crates/desk) are the table's, so that is the one unpadded file of them.
-- "Over the whole table one fact is proved: its rows pass checks 5 to 8, and block k's summary is k + 2 from first join to second and none back."
pub record TableFact : Type 0 where
  pub size : length built_in_numbers ≡ 168 * 11
  pub rows : row_count built_in_numbers ≡ 168
  pub blocks : length (blocks_of built_in_numbers) ≡ 16
  pub are : AreBlocks built_in_numbers (blocks_of built_in_numbers)
  pub plain : (k : ℕ) → k < 16 → IsPlainRun (blocks_of built_in_numbers) k
  pub printed : UnpaddedFile (file_text built_in) built_in_numbers
  pub passes : (c : Check) (r : ℕ) → turn c ≡ 1 → IsRow built_in_numbers r → Keeps built_in_numbers c r
  pub there : (k : ℕ) → k < 16 → summary (blocks_of built_in_numbers) k 1 2 ≡ k + 2
  pub back : (k : ℕ) → k < 16 → summary (blocks_of built_in_numbers) k 2 1 ≡ 4294967295

-- The second way of reading.

-- It "puts these rows before the file's".
abbrev pub built_in_first : List ℕ → List ℕ
built_in_first xs = built_in_numbers ++ xs

-- "The limits on rows and blocks count them"; "A file without rows of its own meets refusal 4 here too."
abbrev pub OwnRows : List ℕ → Type 0
OwnRows xs = (1 ≤ row_count xs) × (168 + row_count xs ≤ 1024)

-- "its first row opens block 16".
abbrev pub OpensFirst : List ℕ → Type 0
OpensFirst xs = Opens (nth_row xs 1) × ((nth_row xs 1).block ≡ 16)

-- The rows of a file that it takes: they begin with block 16, and all rows together keep every sentence.
pub record DeskLawful (xs : List ℕ) : Type 0 where
  pub own-rows : OwnRows xs
  pub opens-first : OpensFirst xs
  pub lawful : Lawful (built_in_first xs)

-- Which sentence is broken first, by the row of all: 4, then "its first row opens block 16 or meets refusal 5", then those of all rows.
pub data DeskBroken (xs : List ℕ) : Check → ℕ → Type 0 where
  bad-count : (OwnRows xs → ⊥) → DeskBroken xs Length 0
  bad-first : OwnRows xs → (OpensFirst xs → ⊥) → DeskBroken xs Sequence 169
  bad-rows : {c : Check} {p : ℕ} → OwnRows xs → OpensFirst xs → FirstBroken (built_in_first xs) c p → DeskBroken xs c p

-- "places are still the file's own lines": the file's first row is row 169 of all, and its line 2.
unfoldable pub own_line : Check → ℕ → ℕ
own_line Length p = p
own_line Sequence p = p - 167
own_line Ranges p = p - 167
own_line Repeats p = p - 167
own_line Order p = p - 167
own_line Ends p = p - 167
own_line Totals p = p - 167

-- What it answers and leaves. "The limits on rows and blocks count them, and so do the rows and blocks given".
abbrev pub IsDeskRead : List ℕ → List ℕ → ReadAnswer → List ℕ → Type 0
IsDeskRead = ReadsAs built_in_first DeskLawful DeskBroken own_line

-- "places are still the file's own lines": those of its rows, of which none is the table's.
abbrev pub OwnLines : List ℕ → ReadAnswer → Type 0
OwnLines f r =
    (n p : ℕ) → r ≡ Err (refusal n p) → 5 ≤ n → n ≤ 10 → (xs : List ℕ) → SpellsFile f xs → (2 ≤ p) × (p ≤ row_count xs + 1)

-- File f was read the second way with the answer first, and left rows xs; these were written with the answer w, to an output that is now after. "Writing such
-- rows doesn't give back the bytes read, but a whole file, which the first way reads to the same rows."
pub record WritesWhole (f : List ℕ) (first : ReadAnswer) (xs : List ℕ) (w : WriteAnswer) (after : List ℕ) : Type 0 where
  pub bytes : ℕ
  pub answer : w ≡ Ok bytes
  pub fits : bytes ≤ 65536
  pub other_bytes : take bytes after ≡ f → ⊥
  pub first_way : (r : ReadAnswer) (out' after' : List ℕ) → AsksRead (take bytes after) out' r after' → length xs ≤ length out'
      → ReadsAgain first xs r out' after'

-- "block k's summary is k + 2 from first join to second and none back": in the work area that an answer of fewest leaves.
abbrev pub HasDeskSummaries : List ℕ → Type 0
HasDeskSummaries after = (k : ℕ) → k < 16 → (get_or after (place k 1 2) 0 ≡ k + 2) × (get_or after (place k 2 1) 0 ≡ 4294967295)
