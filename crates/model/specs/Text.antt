-- The show file as bytes: the line of names and lines of values; read and written. Document 01, "The show file"; the values are those of `Values`.
use Rattle.std.specs.Prelude.{ℕ, List, [], ◌∷◌, ◌++◌, length}
use Rattle.model.specs.Choice.{if_eq, if_true}
use Rattle.model.specs.Values.{run, after_run, decimal, is_value, digits}

-- The bytes that 01 names beside the digits: the comma and the line feed.
abbrev pub comma : ℕ
comma = 44

abbrev pub line_feed : ℕ
line_feed = 10

-- "The first line is exactly": block,kind,label,a,b,c,d,e,f,g,h and a line feed.
unfoldable pub names : List ℕ
names =
    98 ∷ 108 ∷ 111 ∷ 99 ∷ 107 ∷ comma ∷ 107 ∷ 105 ∷ 110 ∷ 100 ∷ comma ∷ 108 ∷ 97 ∷ 98 ∷ 101 ∷ 108 ∷ comma
    ∷ 97 ∷ comma ∷ 98 ∷ comma ∷ 99 ∷ comma ∷ 100 ∷ comma ∷ 101 ∷ comma ∷ 102 ∷ comma ∷ 103 ∷ comma ∷ 104 ∷ line_feed ∷ []

-- "eleven values with single commas between", "ends in one line feed": the byte behind each value of a line.
unfoldable pub ends : List ℕ
ends =
    comma ∷ comma ∷ comma ∷ comma ∷ comma ∷ comma ∷ comma ∷ comma ∷ comma ∷ comma ∷ line_feed ∷ []

-- Reading.

-- What a line says: its values, or nothing where it is malformed.
pub data LineValues : Type 0 where
  Values : List ℕ → LineValues
  Malformed : LineValues

-- "a line's values from left to right": v stands before the values that the rest of the line says.
unfoldable pub value_then : ℕ → LineValues → LineValues
value_then v (Values vs) = Values (v ∷ vs)
value_then v Malformed = Malformed

-- A byte e stands next, and k says the rest of the line.
unfoldable pub ended_by : ℕ → List ℕ → (List ℕ → LineValues) → LineValues
ended_by e [] k = Malformed
ended_by e (b ∷ bs) k = if_eq b e (k bs) Malformed

-- "eleven well-formed values and a line feed": a value before each of these ends, and nothing behind the last.
unfoldable pub values_of : List ℕ → List ℕ → LineValues
values_of [] bs = if_eq (length bs) 0 (Values []) Malformed
values_of (e ∷ es) bs =
    if_true (is_value (run bs)) (value_then (decimal 0 (run bs)) (ended_by e (after_run bs) (values_of es))) Malformed

-- A byte in front of the first of some lines.
unfoldable pub into_first : ℕ → List (List ℕ) → List (List ℕ)
into_first b [] = (b ∷ []) ∷ []
into_first b (l ∷ ls) = (b ∷ l) ∷ ls

-- "The file is read line by line": its lines, each with its line feed. Only the last can lack one.
unfoldable pub lines_of : List ℕ → List (List ℕ)
lines_of [] = []
lines_of (b ∷ bs) = if_eq b line_feed ((b ∷ []) ∷ lines_of bs) (into_first b (lines_of bs))

-- Writing.

-- The line of some values: each value's digits and the byte behind it.
unfoldable pub line_text : List ℕ → List ℕ → List ℕ
line_text [] vs = []
line_text (e ∷ es) [] = []
line_text (e ∷ es) (v ∷ vs) = digits v ++ (e ∷ line_text es vs)
