-- What read and write answer and leave, by the text of a file. Document 01, "The show file" and "Questions"; document 02, Paper 1. The text of a value is
-- `SpellsValue` of crates/basics/specs/Values; that of a line and of a file are `SpellsLine` and `SpellsFile` of crates/shows/specs/Files.
use Rattle.std.specs.Prelude.{ℕ, suc, ◌+◌, ◌-◌, ◌≤◌, ◌<◌, ◌≡◌, ◌↔◌, List, ◌++◌, length, get_or, Ok, Err}
use Rattle.model.specs.Answers.{WriteAnswer, ReadAnswer, show_size}
use Rattle.model.specs.Limits.{max_bytes}
use Rattle.model.specs.Values.{digit_zero}
use Rattle.model.specs.Text.{names, ends}
use Rattle.model.specs.Rows.{row_count}
use Rattle.model.specs.Blocks.{blocks_of, count}
use Rattle.model.specs.Verdicts.{refusal}
use Rattle.model.specs.declared.Refusal.{Refusal}
use Rattle.shows.specs.Files.{SpellsLine, SpellsLines, SpellsFile}
use Rattle.demands.specs.Buffers.{Leaves}
use Rattle.demands.specs.Words.{IsDigit}
use Rattle.demands.specs.Acceptance.{Lawful, Check, Length, Sequence, Ranges, Repeats, Order, Ends, Totals, refusal_number, FirstBroken}

-- "leading zeros" (02, Paper 1), said of the bytes of a file: at place i stands a 0 that begins a value, since no digit stands before it, and a digit
-- follows it.
pub record LeadingZero (f : List ℕ) (i : ℕ) : Type 0 where
  pub zero : get_or f i 0 ≡ digit_zero
  pub begins : 1 ≤ i → IsDigit (get_or f (i - 1) 0) → ⊥
  pub goes_on_is : IsDigit (get_or f (i + 1) 0)

-- "An unpadded file" (02, Paper 1): no value has a leading zero. And such a file that says the numbers xs.
abbrev pub Unpadded : List ℕ → Type 0
Unpadded f = (i : ℕ) → LeadingZero f i → ⊥

pub record UnpaddedFile (f xs : List ℕ) : Type 0 where
  pub spells : SpellsFile f xs
  pub unpadded : Unpadded f

-- "first line that isn't eleven well-formed values and a line feed": behind the line of names and some lines of values there is more text,
-- which begins with no such line. Lines are counted from 1, the line of names.
pub record BreaksAt (f : List ℕ) (line : ℕ) : Type 0 where
  pub before : List ℕ
  pub numbers : List ℕ
  pub values : SpellsLines before numbers
  pub broken : List ℕ
  pub text : f ≡ names ++ (before ++ broken)
  pub some : 1 ≤ length broken
  pub no_line_begins : (l vs t : List ℕ) → SpellsLine ends l vs → broken ≡ l ++ t → ⊥
  pub place : line ≡ row_count numbers + 2

-- "Reading gives the line as place for 5 to 10", and "Row r is line r + 1."
unfoldable pub line_place : Check → ℕ → ℕ
line_place Length p = p
line_place Sequence p = suc p
line_place Ranges p = suc p
line_place Repeats p = suc p
line_place Order p = suc p
line_place Ends p = suc p
line_place Totals p = suc p

-- The refusals that reading can give: each of the table with its place, where line gives the line of a row.
pub data ReadRefusal (line : Check → ℕ → ℕ) (q : Refusal) : Type 0 where
  of_length : q ≡ refusal 1 0 → ReadRefusal line q
  of-names : q ≡ refusal 2 1 → ReadRefusal line q
  of-line : (n : ℕ) → q ≡ refusal 3 n → ReadRefusal line q
  of-rows : (c : Check) (p : ℕ) → q ≡ refusal (refusal_number c) (line c p) → ReadRefusal line q
  of_room : q ≡ refusal 11 0 → ReadRefusal line q

-- What a way of reading answers and leaves, for a file and a lent output. There are two (02, Paper 4), and this is said of both: `all` gives all rows
-- from the file's own, `Right` says which of the latter are taken, `Broken` which sentence is broken first and where, `line` the line of that place.
pub record ReadsAs (all : List ℕ → List ℕ) (Right : List ℕ → Type 0) (Broken : List ℕ → Check → ℕ → Type 0) (line : Check → ℕ → ℕ)
    (f out : List ℕ) (r : ReadAnswer) (after : List ℕ) : Type 0 where
  -- It answers exactly if the text keeps the rules, its rows do, and the output is long enough.
  pub answers : ((rows blocks cues : ℕ) × (r ≡ Ok (show_size rows blocks cues)))
      ↔ ((xs : List ℕ) × SpellsFile f xs × Right xs × (length (all xs) ≤ length out))
  -- "Read a file to rows, giving rows, blocks and cues": those of the numbers that the file says, which it leaves in the output.
  pub given : (rows blocks cues : ℕ) → r ≡ Ok (show_size rows blocks cues) → (xs : List ℕ) → SpellsFile f xs
      → (rows ≡ row_count (all xs)) × (blocks ≡ length (blocks_of (all xs))) × (cues ≡ count (blocks_of (all xs))) × Leaves (all xs) out after
  -- Each refusal with its place exactly if it is the first: 1, 2 and 3 of the text,
  pub too_long : (r ≡ Err (refusal 1 0)) ↔ (max_bytes < length f)
  pub no_names : (r ≡ Err (refusal 2 1)) ↔ ((length f ≤ max_bytes) × ((lines : List ℕ) → f ≡ names ++ lines → ⊥))
  pub malformed : (n : ℕ) → (r ≡ Err (refusal 3 n)) ↔ ((length f ≤ max_bytes) × BreaksAt f n)
  -- each of 4 to 10 if the text keeps the rules and this sentence of its rows is the first that is broken,
  pub refused : (c : Check) (p : ℕ) → (r ≡ Err (refusal (refusal_number c) (line c p))) ↔ ((xs : List ℕ) × SpellsFile f xs × Broken xs c p)
  -- and 11 if all that is kept and the output is too short.
  pub no_room : (r ≡ Err (refusal 11 0)) ↔ ((xs : List ℕ) × SpellsFile f xs × Right xs × (length out < length (all xs)))
  -- There is no other. "A refusal leaves all lent memory unchanged."
  pub no_other : (q : Refusal) → r ≡ Err q → ReadRefusal line q
  pub unchanged : (q : Refusal) → r ≡ Err q → after ≡ out

-- What read answers and leaves: the file's rows are all, and they are right if they keep every sentence.
abbrev pub IsRead : List ℕ → List ℕ → ReadAnswer → List ℕ → Type 0
IsRead = ReadsAs (λ xs. xs) Lawful FirstBroken line_place

-- What write answers and leaves, for rows and a lent output. "We still write without padding" (02, Paper 1): rows that keep the rules have one
-- unpadded file; write answers exactly if that fits, and leaves it, "giving its length". (Its refusals: `Refusals.Refuses`, with `NoRoomFor`.)
pub record IsWritten (xs out : List ℕ) (w : WriteAnswer) (after : List ℕ) : Type 0 where
  pub file : Lawful xs → (f : List ℕ) × UnpaddedFile f xs
  pub one-file : (f g : List ℕ) → UnpaddedFile f xs → UnpaddedFile g xs → f ≡ g
  pub answers : ((bytes : ℕ) × (w ≡ Ok bytes)) ↔ (Lawful xs × ((f : List ℕ) × UnpaddedFile f xs × (length f ≤ length out)))
  pub given : (bytes : ℕ) → w ≡ Ok bytes → (f : List ℕ) × UnpaddedFile f xs × (bytes ≡ length f) × Leaves f out after

-- 11 of write: "lent output .. too short" for the file of rows xs.
abbrev pub NoRoomFor : List ℕ → List ℕ → Type 0
NoRoomFor xs out = (f : List ℕ) → UnpaddedFile f xs → length out < length f
