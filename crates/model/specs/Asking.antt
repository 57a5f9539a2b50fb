-- The promises of the entry points: from what is lent and asked, the answer r and what the lent list holds afterwards, refused calls included. Each
-- function of crates/show/src ensures the one that has its name, and the demands (crates/demands/specs) are stated of it: promise and premise are one text.
use Rattle.std.specs.Prelude.{ℕ, ◌≡◌, List}
use Rattle.model.specs.Answers.{of_read, of_write, of_count, of_locate, of_number, of_list, of_row, of_fewest, of_quickest, WriteAnswer, CountAnswer, NumberAnswer, ReadAnswer, LocateAnswer, ListAnswer, RowAnswer, FewestAnswer, QuickestAnswer}
use Rattle.model.specs.Questions.{outcome, read_asked, desk_read_asked, write_asked, count_asked, locate_asked, number_asked, out_asked, in_asked, row_asked, fewest_asked, quickest_asked}

-- read: a file, and the lent output before and afterwards; read_desk, the second way, asks the same; write: rows, and the same.
abbrev pub AsksRead : List ℕ → List ℕ → ReadAnswer → List ℕ → Type 0
AsksRead file out r after = outcome (of_read r) after ≡ read_asked file out

abbrev pub AsksDeskRead : List ℕ → List ℕ → ReadAnswer → List ℕ → Type 0
AsksDeskRead file out r after = outcome (of_read r) after ≡ desk_read_asked file out

abbrev pub AsksWrite : List ℕ → List ℕ → WriteAnswer → List ℕ → Type 0
AsksWrite xs out r after = outcome (of_write r) after ≡ write_asked xs out

-- count: rows.
abbrev pub AsksCount : List ℕ → CountAnswer → Type 0
AsksCount xs r = of_count r ≡ count_asked xs

-- locate: rows, a number, and the lent list before and afterwards; number: rows, a path and an own cue.
abbrev pub AsksLocate : List ℕ → ℕ → List ℕ → LocateAnswer → List ℕ → Type 0
AsksLocate xs n lent r after = outcome (of_locate r) after ≡ locate_asked xs n lent

abbrev pub AsksNumber : List ℕ → List ℕ → ℕ → NumberAnswer → Type 0
AsksNumber xs path c r = of_number r ≡ number_asked xs path c

-- list_out and list_in: rows, a cue, the number after which, and the page before and afterwards.
abbrev pub AsksOut : List ℕ → ℕ → ℕ → List ℕ → ListAnswer → List ℕ → Type 0
AsksOut xs v n page r after = outcome (of_list r) after ≡ out_asked xs v n page

abbrev pub AsksIn : List ℕ → ℕ → ℕ → List ℕ → ListAnswer → List ℕ → Type 0
AsksIn xs v n page r after = outcome (of_list r) after ≡ in_asked xs v n page

-- row: rows, two cues, and the lent list before and afterwards.
abbrev pub AsksRow : List ℕ → ℕ → ℕ → List ℕ → RowAnswer → List ℕ → Type 0
AsksRow xs s t lent r after = outcome (of_row r) after ≡ row_asked xs s t lent

-- fewest: rows, two cues, and the work area before and afterwards.
abbrev pub AsksFewest : List ℕ → ℕ → ℕ → List ℕ → FewestAnswer → List ℕ → Type 0
AsksFewest xs s t work r after = outcome (of_fewest r) after ≡ fewest_asked xs s t work

-- quickest: rows, two cues, a wait file, and the work area before and afterwards.
abbrev pub AsksQuickest : List ℕ → ℕ → ℕ → List ℕ → List ℕ → QuickestAnswer → List ℕ → Type 0
AsksQuickest xs s t file work r after = outcome (of_quickest r) after ≡ quickest_asked xs s t file work
