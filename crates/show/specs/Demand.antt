-- Demands 2 and 3, and what document 02, Papers 4 and 5, demand, of the answers that the entry points give, in the words of documents 01 and 02. What an entry
-- point is asked and answers is known by its promise (crates/model/specs/Asking), which is what its function ensures; the words are those of
-- crates/demands/specs, a page for each part; for the text of a file, of crates/shows/specs/Files and SmallFiles; for chains and summaries, of
-- crates/distances/specs/Demand. Other words of the model and its laws are pinned by `Words` and by the statements that they stand in.
use Rattle.std.specs.Prelude.{ℕ, ◌*◌, ◌≤◌, ◌<◌, Bool, take, replicate, Ok}
use mathlib.Core.List.{List, [], ◌∷◌}
use Rattle.std.proofs.Math.ListN.{length}
use Rattle.model.specs.Limits.{row_size, max_depth}
use Rattle.model.specs.Blocks.{blocks_of, last_block, count}
use Rattle.model.specs.Unfolding.{show_links}
use Rattle.model.specs.Summaries.{block_links}
use Rattle.model.specs.Answers.{of_write, of_count, of_locate, of_number, of_list, of_row, of_fewest, of_quickest, WriteAnswer, CountAnswer, NumberAnswer, ReadAnswer, LocateAnswer, ListAnswer, RowAnswer, FewestAnswer, QuickestAnswer, show_size}
use Rattle.model.specs.Ring.{ring, noted_ring, opening, padded_file, ring_waits, cut_waits, outside_waits, twice_waits}
use Rattle.model.specs.Asking.{AsksRead, AsksDeskRead, AsksWrite, AsksCount, AsksLocate, AsksNumber, AsksOut, AsksIn, AsksRow, AsksFewest, AsksQuickest}
use Rattle.demands.specs.Acceptance.{nth_row, IsRow, Lawful}
use Rattle.demands.specs.Words.{Words}
use Rattle.demands.specs.Blocks.{AreBlocks}
use Rattle.demands.specs.Refusals.{TooShort, Refuses, HasAnswer}
use Rattle.shows.specs.Files.{SpellsFile}
use Rattle.demands.specs.Files.{IsRead, IsWritten, NoRoomFor, Unpadded}
use Rattle.demands.specs.RoundTrips.{WritesBack, ReadsBack, ReadsAgain}
use Rattle.demands.specs.Replacement.{Unfolds}
use Rattle.demands.specs.Numbers.{IsCount, IsLocated, IsNumber}
use Rattle.demands.specs.Copies.{CopiesByPath}
use Rattle.demands.specs.Lists.{LinkedOut, LinkedIn, IsList, Pages, ArePages}
use Rattle.demands.specs.RowBehind.{StandsAs, IsRowBehind}
use Rattle.demands.specs.Fewest.{IsFewest}
use Rattle.demands.specs.WorkArea.{IsWorkArea}
use Rattle.demands.specs.Notes.{IsNote, NoNotes, followed_links, followed_inside, ChainLinks, OldFigure}
use Rattle.demands.specs.Waits.{LawfulWaits, Malformed, Outside, NotRising}
use Rattle.demands.specs.Quickest.{Askable, QuickestExact}
use Rattle.demands.specs.Desk.{TableFact, DeskLawful, IsDeskRead, OwnLines, WritesWhole, HasDeskSummaries}

-- Demand 2.

-- Every question has an answer, which all else here speaks of.
pub record Answered : Type 0 where
  pub read : (file out : List ℕ) → HasAnswer (AsksRead file out)
  pub read-desk : (file out : List ℕ) → HasAnswer (AsksDeskRead file out)
  pub write : (xs out : List ℕ) → HasAnswer (AsksWrite xs out)
  pub count : (xs : List ℕ) → HasAnswer (λ (r : CountAnswer) (after : List ℕ). AsksCount xs r)
  pub locate : (xs : List ℕ) (n : ℕ) (lent : List ℕ) → HasAnswer (AsksLocate xs n lent)
  pub number : (xs path : List ℕ) (c : ℕ) → HasAnswer (λ (r : NumberAnswer) (after : List ℕ). AsksNumber xs path c r)
  pub list_out : (xs : List ℕ) (v n : ℕ) (page : List ℕ) → HasAnswer (AsksOut xs v n page)
  pub list_in_lem : (xs : List ℕ) (v n : ℕ) (page : List ℕ) → HasAnswer (AsksIn xs v n page)
  pub row : (xs : List ℕ) (s t : ℕ) (lent : List ℕ) → HasAnswer (AsksRow xs s t lent)
  pub fewest : (xs : List ℕ) (s t : ℕ) (work : List ℕ) → HasAnswer (AsksFewest xs s t work)
  pub quickest : (xs : List ℕ) (s t : ℕ) (f work : List ℕ) → HasAnswer (AsksQuickest xs s t f work)

-- Acceptance is exact: reading answers exactly if every sentence of the rules is kept and the output is long enough, and each of its refusals is that of
-- the first sentence that is broken, with its place; writing answers exactly if the rows keep the rules and their file fits.
pub record AcceptanceExact : Type 0 where
  pub read : (file out after : List ℕ) (r : ReadAnswer) → AsksRead file out r after → IsRead file out r after
  pub write : (xs out after : List ℕ) (r : WriteAnswer) → AsksWrite xs out r after → IsWritten xs out r after

-- So are the refusals of every question about rows: 4 to 10 by the first sentence that is broken, 11 and 12 behind them; and a refusal leaves the lent list
-- as it was. A question stands here with the room that it needs, the cues that it is asked about, and what it alone can refuse with: 13 in `IsNumber`, 14 in
-- `IsRowBehind`, 15 to 17 in `QuickestExact`. Count and number write no lent list.
pub record RefusalsExact : Type 0 where
  pub write : (xs out after : List ℕ) (r : WriteAnswer) → AsksWrite xs out r after → Refuses xs (NoRoomFor xs out) [] [] out (of_write r) after
  pub count : (xs : List ℕ) (r : CountAnswer) → AsksCount xs r → Refuses xs ⊥ [] [] [] (of_count r) []
  pub locate : (xs : List ℕ) (n : ℕ) (lent after : List ℕ) (r : LocateAnswer) → AsksLocate xs n lent r after
      → Refuses xs (TooShort 127 lent) (n ∷ []) [] lent (of_locate r) after
  pub number : (xs path : List ℕ) (c : ℕ) (r : NumberAnswer) → AsksNumber xs path c r → Refuses xs ⊥ [] (13 ∷ []) [] (of_number r) []
  pub list_out : (xs : List ℕ) (v n : ℕ) (page after : List ℕ) (r : ListAnswer) → AsksOut xs v n page r after
      → Refuses xs (TooShort 0 page) (v ∷ []) [] page (of_list r) after
  pub list_in_lem : (xs : List ℕ) (v n : ℕ) (page after : List ℕ) (r : ListAnswer) → AsksIn xs v n page r after
      → Refuses xs (TooShort 0 page) (v ∷ []) [] page (of_list r) after
  pub row : (xs : List ℕ) (s t : ℕ) (lent after : List ℕ) (r : RowAnswer) → AsksRow xs s t lent r after
      → Refuses xs (TooShort 127 lent) (s ∷ t ∷ []) (14 ∷ []) lent (of_row r) after
  pub fewest : (xs : List ℕ) (s t : ℕ) (work after : List ℕ) (r : FewestAnswer) → AsksFewest xs s t work r after
      → Refuses xs (TooShort 16384 work) (s ∷ t ∷ []) [] work (of_fewest r) after
  pub quickest : (xs : List ℕ) (s t : ℕ) (f work after : List ℕ) (r : QuickestAnswer) → AsksQuickest xs s t f work r after
      → Refuses xs (TooShort 16384 work) (s ∷ t ∷ []) (15 ∷ 16 ∷ 17 ∷ []) work (of_quickest r) after

-- Round trips are exact, of what the buffers hold: read, then write what was left; write, then read what was left; and read, write and read again
-- (02, Paper 1).
pub record RoundTripsExact : Type 0 where
  pub write-back : (file out after : List ℕ) (rows blocks cues : ℕ) → AsksRead file out (Ok (show_size rows blocks cues)) after
      → (r : WriteAnswer) (out' after' : List ℕ) → AsksWrite (take (rows * row_size) after) out' r after' → length file ≤ length out'
      → WritesBack file (take (rows * row_size) after) r out' after'
  pub read_back : (xs out after : List ℕ) (bytes : ℕ) → AsksWrite xs out (Ok bytes) after
      → (r : ReadAnswer) (out' after' : List ℕ) → AsksRead (take bytes after) out' r after' → length xs ≤ length out'
      → ReadsBack xs r out' after'
  pub read_again : (file out after : List ℕ) (rows blocks cues : ℕ) → AsksRead file out (Ok (show_size rows blocks cues)) after
      → (bytes : ℕ) (out' after' : List ℕ) → AsksWrite (take (rows * row_size) after) out' (Ok bytes) after'
      → (r : ReadAnswer) (out'' after'' : List ℕ) → AsksRead (take bytes after') out'' r after'' → rows * row_size ≤ length out''
      → ReadsAgain (Ok (show_size rows blocks cues)) (take (rows * row_size) after) r out'' after''

-- Of rows that keep the rules: the blocks are those of the rows; numbers, paths and lists, and the rows behind follow-ons, are right against the unfolding of
-- the blocks, which single steps in any order lead to.
pub record RightAgainstUnfolding (xs : List ℕ) : Type 0 where
  pub blocks : AreBlocks xs (blocks_of xs)
  pub unfolding_steps : Unfolds (blocks_of xs) (last_block (blocks_of xs)) (show_links (blocks_of xs))
  -- What the words mean that copies are spoken of with: the row behind a follow-on stands in one.
  pub copies : CopiesByPath xs
  pub counts : (r : CountAnswer) → AsksCount xs r → IsCount xs r
  pub locates : (n : ℕ) (lent after : List ℕ) (r : LocateAnswer) → 1 ≤ n → n ≤ count (blocks_of xs) → max_depth ≤ length lent
      → AsksLocate xs n lent r after → IsLocated xs n lent r after
  pub numbers : (path : List ℕ) (c : ℕ) (r : NumberAnswer) → AsksNumber xs path c r → IsNumber xs path c r
  pub lists-out : (v n : ℕ) (page after : List ℕ) (r : ListAnswer) → 1 ≤ v → v ≤ count (blocks_of xs) → AsksOut xs v n page r after
      → IsList (LinkedOut xs v) n page r after
  pub lists-in : (v n : ℕ) (page after : List ℕ) (r : ListAnswer) → 1 ≤ v → v ≤ count (blocks_of xs) → AsksIn xs v n page r after
      → IsList (LinkedIn xs v) n page r after
  pub pages_out : (v n many : ℕ) (cues : List ℕ) (more : Bool) → 1 ≤ v → v ≤ count (blocks_of xs) → Pages (AsksOut xs v) n many cues more
      → ArePages (LinkedOut xs v) n many cues more
  pub pages_in : (v n many : ℕ) (cues : List ℕ) (more : Bool) → 1 ≤ v → v ≤ count (blocks_of xs) → Pages (AsksIn xs v) n many cues more
      → ArePages (LinkedIn xs v) n many cues more
  pub rows_behind : (s t : ℕ) (lent after : List ℕ) (r : RowAnswer) → 1 ≤ s → s ≤ count (blocks_of xs) → 1 ≤ t → t ≤ count (blocks_of xs)
      → max_depth ≤ length lent → AsksRow xs s t lent r after → IsRowBehind xs s t lent r after

-- All of it; the words mean what they say, there is a show, a padded file of one, and a row behind a follow-on.
pub record Demand2 : Type 1 where
  pub words : Words
  pub answered : Answered
  pub acceptance : AcceptanceExact
  pub refusals : RefusalsExact
  pub a_show : Lawful ring
  pub a_padded_file : SpellsFile padded_file (opening 1) × Lawful (opening 1) × (Unpadded padded_file → ⊥)
  pub a_row_behind : StandsAs ring 4 2 (1 ∷ 1 ∷ []) 2
  pub round_trips : RoundTripsExact
  pub right : (xs : List ℕ) → Lawful xs → RightAgainstUnfolding xs

-- Demand 3.

-- Of rows that keep the rules, for cues of the show and a work area that is long enough: which links a chain may have, in the fewest answer and the
-- summaries; the answer; and what it leaves in the work area. Where no row is a note, both are the old figure (02, Paper 3).
pub record FewestExact (xs : List ℕ) : Type 0 where
  -- "that block's own unfolding": single steps in any order lead from each block, used or not, to the links that its summary is about.
  pub block-steps : (k : ℕ) → k < length (blocks_of xs) → Unfolds (blocks_of xs) k (block_links (blocks_of xs) k)
  pub chain-links : ChainLinks xs
  pub fewest : (s t : ℕ) (work after : List ℕ) (r : FewestAnswer) → 1 ≤ s → s ≤ count (blocks_of xs) → 1 ≤ t → t ≤ count (blocks_of xs)
      → 16384 ≤ length work → AsksFewest xs s t work r after → IsFewest (followed_links xs) s t r
  pub work-area : (s t : ℕ) (work after : List ℕ) (r : FewestAnswer) → 1 ≤ s → s ≤ count (blocks_of xs) → 1 ≤ t → t ≤ count (blocks_of xs)
      → 16384 ≤ length work → AsksFewest xs s t work r after → IsWorkArea xs (followed_inside xs) work after
  pub old-figure : NoNotes xs → (s t : ℕ) (work after : List ℕ) (r : FewestAnswer) → 1 ≤ s → s ≤ count (blocks_of xs) → 1 ≤ t → t ≤ count (blocks_of xs)
      → 16384 ≤ length work → AsksFewest xs s t work r after → OldFigure xs s t work r after

-- All of it; there is a show with a note, and one without. (Refusals: demand 2.)
pub record Demand3 : Type 0 where
  pub exact : (xs : List ℕ) → Lawful xs → FewestExact xs
  pub a_note : Lawful noted_ring × ((r : ℕ) × IsRow noted_ring r × IsNote (nth_row noted_ring r))
  pub no_note : Lawful ring × NoNotes ring

-- Document 02, Paper 4: the blocks that come with the desk, and the second way of reading.

-- The table; what the second way answers, with which places; that what it leaves is a show for every question, is written as a whole file, and has the
-- table's summaries; and there is a file that it reads.
pub record Demand4 : Type 0 where
  pub table : TableFact
  pub read : (file out after : List ℕ) (r : ReadAnswer) → AsksDeskRead file out r after → IsDeskRead file out r after
  pub places : (file out after : List ℕ) (r : ReadAnswer) → AsksDeskRead file out r after → OwnLines file r
  pub lawful : (file out after : List ℕ) (rows blocks cues : ℕ) → AsksDeskRead file out (Ok (show_size rows blocks cues)) after → Lawful (take (rows * row_size) after)
  pub round_trip : (file out after : List ℕ) (rows blocks cues : ℕ) → AsksDeskRead file out (Ok (show_size rows blocks cues)) after
      → (r : WriteAnswer) (out' after' : List ℕ) → AsksWrite (take (rows * row_size) after) out' r after' → 65536 ≤ length out'
      → WritesWhole file (Ok (show_size rows blocks cues)) (take (rows * row_size) after) r after'
  pub work-area : (file out after : List ℕ) (rows blocks cues : ℕ) → AsksDeskRead file out (Ok (show_size rows blocks cues)) after
      → (s t : ℕ) (work after' : List ℕ) (r : FewestAnswer) → 1 ≤ s → s ≤ cues → 1 ≤ t → t ≤ cues → 16384 ≤ length work
      → AsksFewest (take (rows * row_size) after) s t work r after' → HasDeskSummaries after'
  pub a_file : (file xs : List ℕ) × SpellsFile file xs × DeskLawful xs

-- Document 02, Paper 5: wait files and the quickest way.

-- Each answer; there is a question that meets none of refusals 4 to 12, a lawful wait file, with its lines, and one for each of
-- 15, 16 and 17: behind lines of 16 and 17 a malformed one, behind one of 17 one of 16, and a label twice.
pub record Demand5 : Type 0 where
  pub exact : (xs : List ℕ) (s t : ℕ) (f work after : List ℕ) (r : QuickestAnswer) → AsksQuickest xs s t f work r after
      → QuickestExact xs s t f work r after
  pub a_question : Askable ring 1 2 (replicate 16384 0)
  pub a_file : LawfulWaits ring_waits ((1 ∷ 10 ∷ []) ∷ (2 ∷ 25 ∷ []) ∷ [])
  pub a_malformed_file : Malformed cut_waits 4
  pub an_outside_file : Outside outside_waits 4
  pub a_fallen_file : NotRising twice_waits 3
