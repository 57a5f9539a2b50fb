-- What each answer says in document 01's numbers: the refusal's number and place, or 0 and 0; and the values of an answer in order.
-- "If an answer is an enum, a definition gives this paper's number and values for every case of the enum, and the promises use that
-- definition."
use Rattle.std.specs.Prelude.{ℕ, ◌/◌, ◌%◌, Bool, true, false, List, [], ◌∷◌, Result, Ok, Err, Option, Some, None}
use Rattle.model.specs.Verdicts.{refusal}
use Rattle.model.specs.declared.Refusal.{Refusal}
use Rattle.model.specs.declared.LineRefusal.{LineRefusal}
use Rattle.model.specs.declared.ShowSize.{ShowSize}
use Rattle.model.specs.declared.CuePlace.{CuePlace}
use Rattle.model.specs.declared.Listed.{Listed}
use Rattle.model.specs.declared.FoundRow.{FoundRow}

-- The answers. Each has its values or one refusal.
abbrev pub ReadAnswer : Type 0
ReadAnswer = Result ShowSize Refusal

abbrev pub WriteAnswer : Type 0
WriteAnswer = Result ℕ Refusal

abbrev pub CountAnswer : Type 0
CountAnswer = Result ℕ Refusal

abbrev pub LocateAnswer : Type 0
LocateAnswer = Result CuePlace Refusal

abbrev pub NumberAnswer : Type 0
NumberAnswer = Result ℕ Refusal

abbrev pub ListAnswer : Type 0
ListAnswer = Result Listed Refusal

abbrev pub RowAnswer : Type 0
RowAnswer = Result FoundRow Refusal

abbrev pub FewestAnswer : Type 0
FewestAnswer = Result (Option ℕ) Refusal

abbrev pub QuickestAnswer : Type 0
QuickestAnswer = Result (Option ℕ) LineRefusal

-- Their structs, by the values in order.
abbrev pub show_size : ℕ → ℕ → ℕ → ShowSize
show_size rows blocks cues = record { rows = rows; blocks = blocks; cues = cues }

abbrev pub cue_place : ℕ → ℕ → ℕ → CuePlace
cue_place depth block own = record { depth = depth; block = block; own = own }

abbrev pub listing : ℕ → Bool → Listed
listing written more = record { written = written; more = more }

abbrev pub row_at_depth : ℕ → ℕ → FoundRow
row_at_depth row depth = record { row = row; depth = depth }

abbrev pub line_refusal : ℕ → ℕ → LineRefusal
line_refusal number place = record { number = number; place = place }

pub record Returned : Type 0 where
  pub number : ℕ
  pub place : ℕ
  pub values : List ℕ

-- "returned (number, place)": a refusal has no values.
unfoldable pub returned : Refusal → Returned
returned r = record { number = r.number; place = r.place; values = [] }

-- An answer is no refusal.
unfoldable pub given : List ℕ → Returned
given vs = record { number = 0; place = 0; values = vs }

unfoldable pub flag : Bool → ℕ
flag true = 1
flag false = 0

-- "Read a file to rows, giving rows, blocks and cues".
unfoldable pub of_read : ReadAnswer → Returned
of_read (Ok s) = given (s.rows ∷ s.blocks ∷ s.cues ∷ [])
of_read (Err r) = returned r

-- "write rows as a file, giving its length".
unfoldable pub of_write : WriteAnswer → Returned
of_write (Ok bytes) = given (bytes ∷ [])
of_write (Err r) = returned r

-- "Count: the total of the show."
unfoldable pub of_count : CountAnswer → Returned
of_count (Ok n) = given (n ∷ [])
of_count (Err r) = returned r

-- "Locate n: depth, block and own cue".
unfoldable pub of_locate : LocateAnswer → Returned
of_locate (Ok l) = given (l.depth ∷ l.block ∷ l.own ∷ [])
of_locate (Err r) = returned r

-- "Number of a path and an own cue: the number."
unfoldable pub of_number : NumberAnswer → Returned
of_number (Ok n) = given (n ∷ [])
of_number (Err r) = returned r

-- "how many were written; "more" exactly if a further one exists".
unfoldable pub of_list : ListAnswer → Returned
of_list (Ok l) = given (l.written ∷ flag l.more ∷ [])
of_list (Err r) = returned r

-- "the number of one link row, and the depth .. of the copy it stands in" (02, Paper 2).
unfoldable pub of_row : RowAnswer → Returned
of_row (Ok l) = given (l.row ∷ l.depth ∷ [])
of_row (Err r) = returned r

-- "Fewest from s to t: a number, or none": whether there is one, and the number, 0 where there is none.
unfoldable pub of_fewest : FewestAnswer → Returned
of_fewest (Ok (Some n)) = given (1 ∷ n ∷ [])
of_fewest (Ok None) = given (0 ∷ 0 ∷ [])
of_fewest (Err r) = returned r

-- "64 bits wide" (02, Paper 5): a sum as two numbers of 32 bits, the lower one first.
unfoldable pub halves : ℕ → List ℕ
halves n = n % 4294967296 ∷ n / 4294967296 ∷ []

-- "The quickest answer" (02, Paper 5): whether there is one, and the sum, 0 where there is none.
unfoldable pub of_quickest : QuickestAnswer → Returned
of_quickest (Ok (Some n)) = given (1 ∷ halves n)
of_quickest (Ok None) = given (0 ∷ halves 0)
of_quickest (Err r) = returned (refusal r.number r.place)
