-- The words that these pages share with the model and its laws, by what they mean: figures, bytes, values, the text of a file, rows, choices, ranges, what
-- rises, what each number of a list has, and the numbers that an answer has.
use Rattle.std.specs.Prelude.{ℕ, ◌+◌, ◌*◌, ◌-◌, ◌/◌, ◌%◌, ◌≤◌, ◌<◌, ◌≡◌, true, false, List, [], ◌∷◌, ◌++◌, map, ◌↔◌, ◌≢◌, length, get_or, Ok, Err, Some, None}
use Rattle.model.specs.Choice.{if_lt, if_eq}
use Rattle.model.specs.Limits.{row_size, max_value, max_digits, max_joins, max_own, max_label, max_followed, max_wait, max_blocks, max_bytes, max_rows, desk_rows, desk_blocks}
use Rattle.model.specs.Limits.{max_total, max_depth, work_size, summary_size, summary_width, no_chain, printed_cues}
use Rattle.model.specs.Values.{digit_zero, decimal}
use Rattle.model.specs.Text.{comma, line_feed, names, ends}
use Rattle.model.specs.Rows.{row_count, rows_of}
use Rattle.model.specs.Blocks.{Block, last_block}
use Rattle.model.specs.Verdicts.{refusal}
use Rattle.model.specs.Lists.{range}
use Rattle.model.specs.Answers.{Returned, returned, of_read, of_write, of_count, of_locate, of_number, of_list, of_row, of_fewest, of_quickest, show_size, cue_place, listing, row_at_depth, line_refusal}
use Rattle.model.specs.declared.Refusal.{Refusal}
use Rattle.basics.specs.Members.{Each}
use Rattle.basics.specs.Values.{SpellsValue}
use Rattle.shows.specs.Lists.{Rising}
use Rattle.shows.specs.Files.{SpellsFile}
use Rattle.demands.specs.Acceptance.{nth_row, IsRow}
use Rattle.demands.specs.WorkArea.{block_numbers}

-- The figures of document 01, and those of document 02, Papers 1, 3, 4 and 5: every one that has a name.
pub record Figures : Type 0 where
  pub row : row_size ≡ 11
  pub value : max_value ≡ 65535
  pub digits : max_digits ≡ 5
  pub joins : max_joins ≡ 8
  pub own : max_own ≡ 255
  pub label : max_label ≡ 255
  pub followed-label : max_followed ≡ 254
  pub wait : max_wait ≡ 6000
  pub blocks : max_blocks ≡ 128
  pub bytes : max_bytes ≡ 65536
  pub rows : max_rows ≡ 1024
  pub total : max_total ≡ 2147483647
  pub depth : max_depth ≡ 127
  pub work : work_size ≡ 16384
  pub block-summary : summary_size ≡ block_numbers
  pub join_summary : summary_width ≡ 8
  pub none : no_chain ≡ 4294967295
  pub printed : printed_cues ≡ 1000
  pub desk_rows_lem : desk_rows ≡ 168
  pub desk_blocks_lem : desk_blocks ≡ 16

-- Its bytes, in ASCII: the digit 0, the comma, the line feed; the line of names; what stands behind the eleven values of a line. "Figures are in
-- base ten".
pub record Bytes : Type 0 where
  pub digit_0 : digit_zero ≡ 48
  pub a_comma : comma ≡ 44
  pub line_feed_lem : line_feed ≡ 10
  pub line_of_names : names
      ≡ 98 ∷ 108 ∷ 111 ∷ 99 ∷ 107 ∷ 44 ∷ 107 ∷ 105 ∷ 110 ∷ 100 ∷ 44 ∷ 108 ∷ 97 ∷ 98 ∷ 101 ∷ 108 ∷ 44
      ∷ 97 ∷ 44 ∷ 98 ∷ 44 ∷ 99 ∷ 44 ∷ 100 ∷ 44 ∷ 101 ∷ 44 ∷ 102 ∷ 44 ∷ 103 ∷ 44 ∷ 104 ∷ 10 ∷ []
  pub line_ends : ends ≡ 44 ∷ 44 ∷ 44 ∷ 44 ∷ 44 ∷ 44 ∷ 44 ∷ 44 ∷ 44 ∷ 44 ∷ 10 ∷ []
  pub no_digit : decimal 0 [] ≡ 0
  pub next-digit : (ds : List ℕ) (d : ℕ) → decimal 0 (ds ++ (d ∷ [])) ≡ decimal 0 ds * 10 + d

-- "one to five digits, leading zeros allowed, still at most 65,535" (02, Paper 1), of the bytes of a text; and this is what spells a value.
abbrev pub IsDigit : ℕ → Type 0
IsDigit b = (48 ≤ b) × (b ≤ 57)

pub record ValueText (t : List ℕ) (v : ℕ) : Type 0 where
  pub all_digits : Each IsDigit t
  pub one-to_five : (1 ≤ length t) × (length t ≤ 5)
  pub number : decimal 0 (map (λ (b : ℕ). b - 48) t) ≡ v
  pub at_most : v ≤ 65535

abbrev pub ValueWords : Type 0
ValueWords = (t : List ℕ) (v : ℕ) → SpellsValue t v ↔ ValueText t v

-- "A line of values is a row: eleven 32-bit unsigned numbers in lent memory", in the order of the line of names; and the rows of lent numbers are
-- row 1, row 2 and so on.
pub record RowWords (xs : List ℕ) : Type 0 where
  pub count : row_count xs ≡ length xs / 11
  pub block : (r : ℕ) → (nth_row xs r).block ≡ get_or xs ((r - 1) * 11) 0
  pub kind : (r : ℕ) → (nth_row xs r).kind ≡ get_or xs ((r - 1) * 11 + 1) 0
  pub label : (r : ℕ) → (nth_row xs r).label ≡ get_or xs ((r - 1) * 11 + 2) 0
  pub a_to_h : (r : ℕ) → (nth_row xs r).columns
      ≡ get_or xs ((r - 1) * 11 + 3) 0 ∷ get_or xs ((r - 1) * 11 + 4) 0 ∷ get_or xs ((r - 1) * 11 + 5) 0 ∷ get_or xs ((r - 1) * 11 + 6) 0
      ∷ get_or xs ((r - 1) * 11 + 7) 0 ∷ get_or xs ((r - 1) * 11 + 8) 0 ∷ get_or xs ((r - 1) * 11 + 9) 0 ∷ get_or xs ((r - 1) * 11 + 10) 0 ∷ []
  pub rows-many : length (rows_of xs) ≡ row_count xs
  pub rows_are : (r : ℕ) → IsRow xs r → get_or (rows_of xs) (r - 1) (nth_row xs r) ≡ nth_row xs r

-- A choice by a test of two numbers: the first of two things if one is less than the other, or equal to it, and else the second.
pub record ChoiceWords : Type 1 where
  pub less : {A : Type 0} (a b : ℕ) (x y : A) → a < b → if_lt a b x y ≡ x
  pub not-less : {A : Type 0} (a b : ℕ) (x y : A) → b ≤ a → if_lt a b x y ≡ y
  pub equal : {A : Type 0} (a b : ℕ) (x y : A) → a ≡ b → if_eq a b x y ≡ x
  pub not_equal : {A : Type 0} (a b : ℕ) (x y : A) → a ≢ b → if_eq a b x y ≡ y

-- The numbers from n on, so many of them; numbers that rise; a property that each number of a list has. "The last block is the show": of blocks that are
-- counted from 0.
pub record ListWords : Type 1 where
  pub range-many : (n many : ℕ) → length (range n many) ≡ many
  pub range-are : (n many i : ℕ) → i < many → get_or (range n many) i 0 ≡ n + i
  pub rising : (ns : List ℕ) → Rising ns ↔ ((i j : ℕ) → i < j → j < length ns → get_or ns i 0 < get_or ns j 0)
  pub each : (P : ℕ → Type 0) (ns : List ℕ) → Each P ns ↔ ((i : ℕ) → i < length ns → P (get_or ns i 0))
  pub last : (b : Block) (earlier : List Block) → last_block (b ∷ earlier) ≡ length earlier

-- "lines of values in that order", "with single commas between", line by line and from left to right: the file of two rows whose values are 0 to 21 in order.
abbrev pub counted_file : List ℕ
counted_file =
    names
    ++ 48 ∷ 44 ∷ 49 ∷ 44 ∷ 50 ∷ 44 ∷ 51 ∷ 44 ∷ 52 ∷ 44 ∷ 53 ∷ 44 ∷ 54 ∷ 44 ∷ 55 ∷ 44 ∷ 56 ∷ 44 ∷ 57 ∷ 44 ∷ 49 ∷ 48 ∷ 10
    ∷ 49 ∷ 49 ∷ 44 ∷ 49 ∷ 50 ∷ 44 ∷ 49 ∷ 51 ∷ 44 ∷ 49 ∷ 52 ∷ 44 ∷ 49 ∷ 53 ∷ 44 ∷ 49 ∷ 54 ∷ 44 ∷ 49 ∷ 55 ∷ 44 ∷ 49 ∷ 56 ∷ 44 ∷ 49 ∷ 57 ∷ 44 ∷ 50 ∷ 48 ∷ 44
    ∷ 50 ∷ 49 ∷ 10 ∷ []

abbrev pub FileWords : Type 0
FileWords =
    SpellsFile counted_file
    (0 ∷ 1 ∷ 2 ∷ 3 ∷ 4 ∷ 5 ∷ 6 ∷ 7 ∷ 8 ∷ 9 ∷ 10 ∷ 11 ∷ 12 ∷ 13 ∷ 14 ∷ 15 ∷ 16 ∷ 17 ∷ 18 ∷ 19 ∷ 20 ∷ 21 ∷ [])

-- "returned (number, place)", and the values of an answer in order: 1 for "more", and 1 before the fewest follow-ons, 0 and 0 for none; 1 before the two
-- halves of the quickest sum, the lower 32 bits first, and three times 0 for none (02, Paper 5).
abbrev pub IsReturned : Returned → ℕ → ℕ → List ℕ → Type 0
IsReturned a number place values = (a.number ≡ number) × (a.place ≡ place) × (a.values ≡ values)

pub record AnswerWords : Type 0 where
  pub refusal_is : (n p : ℕ) → ((refusal n p).number ≡ n) × ((refusal n p).place ≡ p)
  pub refused : (q : Refusal) → IsReturned (returned q) q.number q.place []
  pub read : (rows blocks cues : ℕ) → IsReturned (of_read (Ok (show_size rows blocks cues))) 0 0 (rows ∷ blocks ∷ cues ∷ [])
  pub unread : (q : Refusal) → of_read (Err q) ≡ returned q
  pub written : (bytes : ℕ) → IsReturned (of_write (Ok bytes)) 0 0 (bytes ∷ [])
  pub unwritten : (q : Refusal) → of_write (Err q) ≡ returned q
  pub counted : (n : ℕ) → IsReturned (of_count (Ok n)) 0 0 (n ∷ [])
  pub uncounted : (q : Refusal) → of_count (Err q) ≡ returned q
  pub found : (depth block own : ℕ) → IsReturned (of_locate (Ok (cue_place depth block own))) 0 0 (depth ∷ block ∷ own ∷ [])
  pub unlocated : (q : Refusal) → of_locate (Err q) ≡ returned q
  pub numbered : (n : ℕ) → IsReturned (of_number (Ok n)) 0 0 (n ∷ [])
  pub unnumbered : (q : Refusal) → of_number (Err q) ≡ returned q
  pub page : (written : ℕ) → IsReturned (of_list (Ok (listing written false))) 0 0 (written ∷ 0 ∷ [])
  pub page-more : (written : ℕ) → IsReturned (of_list (Ok (listing written true))) 0 0 (written ∷ 1 ∷ [])
  pub unlisted : (q : Refusal) → of_list (Err q) ≡ returned q
  pub row-behind : (row depth : ℕ) → IsReturned (of_row (Ok (row_at_depth row depth))) 0 0 (row ∷ depth ∷ [])
  pub untraced : (q : Refusal) → of_row (Err q) ≡ returned q
  pub steps : (n : ℕ) → IsReturned (of_fewest (Ok (Some n))) 0 0 (1 ∷ n ∷ [])
  pub no_chain_lem : IsReturned (of_fewest (Ok None)) 0 0 (0 ∷ 0 ∷ [])
  pub unsearched : (q : Refusal) → of_fewest (Err q) ≡ returned q
  pub tenths : (n : ℕ) → IsReturned (of_quickest (Ok (Some n))) 0 0 (1 ∷ n % 4294967296 ∷ n / 4294967296 ∷ [])
  pub no_way : IsReturned (of_quickest (Ok None)) 0 0 (0 ∷ 0 ∷ 0 ∷ [])
  pub untimed : (number place : ℕ) → IsReturned (of_quickest (Err (line_refusal number place))) number place []

pub record Words : Type 1 where
  pub choices : ChoiceWords
  pub figures : Figures
  pub bytes : Bytes
  pub values : ValueWords
  pub file : FileWords
  pub rows : (xs : List ℕ) → RowWords xs
  pub lists : ListWords
  pub answers : AnswerWords
