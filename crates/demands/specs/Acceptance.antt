-- Which rows are a show: the sentences of document 01, "The show file" and, for the totals, "Unfolding", one by one, said of the rows themselves
-- and not by the checks; and which refusal is given for rows that break one. Rows are counted from 1.
use Rattle.std.specs.Prelude.{ℕ, suc, ◌+◌, ◌-◌, ◌%◌, ◌≤◌, ◌<◌, ◌≡◌, ◌⊎◌, ◌↔◌, ◌≢◌, List, [], ◌∷◌, ◌++◌, length, get_or}
use Rattle.model.specs.Choice.{if_eq}
use Rattle.model.specs.Limits.{row_size, max_joins, max_own, max_label, max_blocks, max_rows, max_total}
use Rattle.model.specs.Rows.{Row, row_at, row_count, rows_of}
use Rattle.model.specs.Answers.{Returned}

-- The rows.

abbrev pub nth_row : List ℕ → ℕ → Row
nth_row xs r = row_at xs (r - 1)

abbrev pub IsRow : List ℕ → ℕ → Type 0
IsRow xs r = (1 ≤ r) × (r ≤ row_count xs)

-- The j-th of the columns a to h, counted from 1.
abbrev pub column : Row → ℕ → ℕ
column w j = get_or w.columns (j - 1) 0

-- "There are three kinds of row."
abbrev pub Opens : Row → Type 0
Opens w = w.kind ≡ 0

abbrev pub Links : Row → Type 0
Links w = w.kind ≡ 1

abbrev pub Uses : Row → Type 0
Uses w = w.kind ≡ 2

-- The row that opens block k: the first of kind 0 that has its number. Where there is none, one with no joins and no own cue.
unfoldable pub opening_in : List Row → ℕ → Row
opening_in [] k = record { block = 0; kind = 0; label = 0; columns = [] }
opening_in (w ∷ ws) k = if_eq w.kind 0 (if_eq w.block k w (opening_in ws k)) (opening_in ws k)

-- "label is its joins", "a is its own cues".
unfoldable pub joins_in : List ℕ → ℕ → ℕ
joins_in xs k = (opening_in (rows_of xs) k).label

unfoldable pub own_in : List ℕ → ℕ → ℕ
own_in xs k = column (opening_in (rows_of xs) k) 1

-- "cues 1 to own are its own; own + 1 to own + joins are its joins in order. It has no others".
abbrev pub CueOf : List ℕ → ℕ → ℕ → Type 0
CueOf xs k c = (1 ≤ c) × (c ≤ own_in xs k + joins_in xs k)

-- The sentences of one row.

-- "A block's rows are its opening, its links, its uses. Blocks run 0, 1, 2 and on without a gap": what may stand first, and behind a row v.
pub record Begins (w : Row) : Type 0 where
  pub opens : Opens w
  pub block : w.block ≡ 0

pub data Follows (v w : Row) : Type 0 where
  next-block : Opens w → w.block ≡ suc v.block → Follows v w
  next-link : Links w → w.block ≡ v.block → Opens v ⊎ Links v → Follows v w
  next-use : Uses w → w.block ≡ v.block → Follows v w

abbrev pub InPlace : List ℕ → ℕ → Type 0
InPlace xs r = (r ≡ 1 → Begins (nth_row xs r)) × (1 < r → Follows (nth_row xs (r - 1)) (nth_row xs r))

-- "at most 128".
abbrev pub FewBlocks : Row → Type 0
FewBlocks w = w.block < max_blocks

-- "b to h are 0", "c to h are 0", "the rest are 0": the columns behind the first n.
abbrev pub IdleAfter : ℕ → Row → Type 0
IdleAfter n w = (j : ℕ) → n < j → j ≤ 8 → column w j ≡ 0

-- "Kind 0 opens a block: label is its joins (0 to 8), a is its own cues (0 to 255), b to h are 0."
pub record OpeningFits (w : Row) : Type 0 where
  pub joins : w.label ≤ max_joins
  pub own : column w 1 ≤ max_own
  pub idle : IdleAfter 1 w

-- "Kind 1 is a link (a follow-on): label 1 to 255, from cue a to cue b, c to h are 0."
pub record LinkFits (xs : List ℕ) (w : Row) : Type 0 where
  pub label : (1 ≤ w.label) × (w.label ≤ max_label)
  pub from : CueOf xs w.block (column w 1)
  pub to : CueOf xs w.block (column w 2)
  pub idle : IdleAfter 2 w

-- "Kind 2 is a use: label is a lower block number than its own. The first columns, as many as that block has joins, name the cues its
-- joins meet; the rest are 0." "links and uses name only these".
pub record UseFits (xs : List ℕ) (w : Row) : Type 0 where
  pub lower : w.label < w.block
  pub cues : (j : ℕ) → 1 ≤ j → j ≤ joins_in xs w.label → CueOf xs w.block (column w j)
  pub idle : IdleAfter (joins_in xs w.label) w

-- "A link or use names no cue twice." Of the first n columns no two are the same.
abbrev pub NoneTwice : ℕ → Row → Type 0
NoneTwice n w = (i j : ℕ) → 1 ≤ i → i < j → j ≤ n → column w i ≢ column w j

-- One list of numbers comes before another: at the first place where they differ it has the smaller number.
pub data Below : List ℕ → List ℕ → Type 0 where
  here : {x y : ℕ} {ks ls : List ℕ} → x < y → Below (x ∷ ks) (y ∷ ls)
  later : {x y : ℕ} {ks ls : List ℕ} → x ≡ y → Below ks ls → Below (x ∷ ks) (y ∷ ls)

-- "Links in a block strictly rise by (a, b, label)": a link that stands behind a link. Both are of one block, since they follow.
abbrev pub Rises : Row → Row → Type 0
Rises v w = Below (column v 1 ∷ column v 2 ∷ v.label ∷ []) (column w 1 ∷ column w 2 ∷ w.label ∷ [])

-- "Uses never fall by (a to h, label); equal uses are allowed": a use that stands behind a use.
abbrev pub NeverFalls : Row → Row → Type 0
NeverFalls v w = Below (w.columns ++ (w.label ∷ [])) (v.columns ++ (v.label ∷ [])) → ⊥

-- The sentences of one block, said of its opening w. Its block is the last if the last row is one of it.
abbrev pub IsLast : List ℕ → Row → Type 0
IsLast xs w = w.block ≡ (nth_row xs (row_count xs)).block

-- "The last block is the show: no joins, at least one own cue."
pub record Shows (w : Row) : Type 0 where
  pub joins : w.label ≡ 0
  pub own : 1 ≤ column w 1

-- "Every other block has 1 to 8 joins and may go unused." (At most 8: `OpeningFits`.)
abbrev pub HasJoins : Row → Type 0
HasJoins w = 1 ≤ w.label

-- "Total of a block: own cues plus the totals of its uses, each use counted." The uses of block k among some rows, where T gives the totals,
unfoldable pub uses_total : (ℕ → ℕ) → ℕ → List Row → ℕ
uses_total T k [] = 0
uses_total T k (w ∷ ws) = if_eq w.kind 2 (if_eq w.block k (T w.label + uses_total T k ws) (uses_total T k ws)) (uses_total T k ws)

-- and that T gives the total of every block.
abbrev pub AreTotals : List ℕ → (ℕ → ℕ) → Type 0
AreTotals xs T =
    (r : ℕ) → IsRow xs r → Opens (nth_row xs r)
    → T (nth_row xs r).block ≡ own_in xs (nth_row xs r).block + uses_total T (nth_row xs r).block (rows_of xs)

-- "No total may exceed 2,147,483,647." (Accepted rows have totals: `Numbers.IsCount`.)
abbrev pub TotalFits : List ℕ → Row → Type 0
TotalFits xs w = (T : ℕ → ℕ) → AreTotals xs T → T w.block ≤ max_total

-- Every sentence, of all rows. "A show is accepted when its rows meet none of refusals 4 to 10."
pub record Lawful (xs : List ℕ) : Type 0 where
  pub whole : length xs % row_size ≡ 0
  pub rows : (1 ≤ row_count xs) × (row_count xs ≤ max_rows)
  pub sequence : (r : ℕ) → IsRow xs r → InPlace xs r
  pub blocks : (r : ℕ) → IsRow xs r → FewBlocks (nth_row xs r)
  pub openings : (r : ℕ) → IsRow xs r → Opens (nth_row xs r) → OpeningFits (nth_row xs r)
  pub links : (r : ℕ) → IsRow xs r → Links (nth_row xs r) → LinkFits xs (nth_row xs r)
  pub uses : (r : ℕ) → IsRow xs r → Uses (nth_row xs r) → UseFits xs (nth_row xs r)
  pub link-cues : (r : ℕ) → IsRow xs r → Links (nth_row xs r) → NoneTwice 2 (nth_row xs r)
  pub use_cues : (r : ℕ) → IsRow xs r → Uses (nth_row xs r) → NoneTwice (joins_in xs (nth_row xs r).label) (nth_row xs r)
  pub links-rise : (r : ℕ) → IsRow xs r → 1 < r → Links (nth_row xs (r - 1)) → Links (nth_row xs r) → Rises (nth_row xs (r - 1)) (nth_row xs r)
  pub uses-never_fall : (r : ℕ) → IsRow xs r → 1 < r → Uses (nth_row xs (r - 1)) → Uses (nth_row xs r)
      → NeverFalls (nth_row xs (r - 1)) (nth_row xs r)
  pub last_block_is : (r : ℕ) → IsRow xs r → Opens (nth_row xs r) → IsLast xs (nth_row xs r) → Shows (nth_row xs r)
  pub other_blocks : (r : ℕ) → IsRow xs r → Opens (nth_row xs r) → (IsLast xs (nth_row xs r) → ⊥) → HasJoins (nth_row xs r)
  pub totals : (r : ℕ) → IsRow xs r → Opens (nth_row xs r) → TotalFits xs (nth_row xs r)

-- Which refusal is given.

-- The checks 4 to 10, each by what it looks at.
pub data Check : Type 0 where
  Length : Check
  Sequence : Check
  Ranges : Check
  Repeats : Check
  Order : Check
  Ends : Check
  Totals : Check

-- "Refusals by number".
unfoldable pub refusal_number : Check → ℕ
refusal_number Length = 4
refusal_number Sequence = 5
refusal_number Ranges = 6
refusal_number Repeats = 7
refusal_number Order = 8
refusal_number Ends = 9
refusal_number Totals = 10

-- "given when": p is a place at which a check looks: 0, a row, or an "opening row".
abbrev pub LooksAt : List ℕ → Check → ℕ → Type 0
LooksAt xs Length p = p ≡ 0
LooksAt xs Sequence p = IsRow xs p
LooksAt xs Ranges p = IsRow xs p
LooksAt xs Repeats p = IsRow xs p
LooksAt xs Order p = IsRow xs p
LooksAt xs Ends p = IsRow xs p × Opens (nth_row xs p)
LooksAt xs Totals p = IsRow xs p × Opens (nth_row xs p)

-- The sentences that a check is about are kept at a place.
abbrev pub Keeps : List ℕ → Check → ℕ → Type 0
Keeps xs Length p = (length xs % row_size ≡ 0) × (1 ≤ row_count xs) × (row_count xs ≤ max_rows)
Keeps xs Sequence p = InPlace xs p × FewBlocks (nth_row xs p)
Keeps xs Ranges p =
    (Opens (nth_row xs p) → OpeningFits (nth_row xs p)) × (Links (nth_row xs p) → LinkFits xs (nth_row xs p)) × (Uses (nth_row xs p) → UseFits xs (nth_row xs p))
Keeps xs Repeats p = (Links (nth_row xs p) → NoneTwice 2 (nth_row xs p)) × (Uses (nth_row xs p) → NoneTwice (joins_in xs (nth_row xs p).label) (nth_row xs p))
Keeps xs Order p =
    (1 < p → Links (nth_row xs (p - 1)) → Links (nth_row xs p) → Rises (nth_row xs (p - 1)) (nth_row xs p))
    × (1 < p → Uses (nth_row xs (p - 1)) → Uses (nth_row xs p) → NeverFalls (nth_row xs (p - 1)) (nth_row xs p))
Keeps xs Ends p = (IsLast xs (nth_row xs p) → Shows (nth_row xs p)) × ((IsLast xs (nth_row xs p) → ⊥) → HasJoins (nth_row xs p))
Keeps xs Totals p = TotalFits xs (nth_row xs p)

-- "Checks run in this order"; "Checks 5 to 8 run row by row, in order within a row, and the first failing row decides": 5 to 8 are run
-- together, and check c at p comes before check d at q.
unfoldable pub turn : Check → ℕ
turn Length = 0
turn Sequence = 1
turn Ranges = 1
turn Repeats = 1
turn Order = 1
turn Ends = 2
turn Totals = 3

abbrev pub Earlier : Check → ℕ → Check → ℕ → Type 0
Earlier c p d q = (turn c < turn d) ⊎ ((turn c ≡ turn d) × ((p < q) ⊎ ((p ≡ q) × (refusal_number c < refusal_number d))))

-- Check c fails at p, and none fails before it.
pub record FirstBroken (xs : List ℕ) (c : Check) (p : ℕ) : Type 0 where
  pub looks : LooksAt xs c p
  pub broken : Keeps xs c p → ⊥
  pub before : (d : Check) (q : ℕ) → LooksAt xs d q → Earlier d q c p → Keeps xs d q

-- What a question about lent rows returns: "Each but reading takes lent rows and checks them before it answers."
pub record ChecksRows (xs : List ℕ) (a : Returned) : Type 0 where
  -- Each of 4 to 10 with its place exactly if its sentence is the first that is broken,
  pub refused : (c : Check) (p : ℕ) → ((a.number ≡ refusal_number c) × (a.place ≡ p)) ↔ FirstBroken xs c p
  -- and none of them, but an answer or a refusal from 11 on, exactly if the rows keep every sentence.
  pub accepted : ((a.number ≡ 0) ⊎ (10 < a.number)) ↔ Lawful xs
