-- Checks 5 to 8 of one row. Document 01, "The show file" and "Refusals by number".
use Rattle.std.specs.Prelude.{ℕ, ◌+◌, ◌-◌, Bool, true, false, not, List, [], ◌∷◌, ◌++◌, length, get_or, take, drop}
use Rattle.model.specs.Choice.{if_lt, if_eq, if_true}
use Rattle.model.specs.Limits.{max_joins, max_own, max_label, max_blocks}
use Rattle.model.specs.Rows.{Row}

-- What the checks of a row know of the rows before it: the joins of each block opened so far, in order; the own cues of the last of
-- these blocks, the current one; and the row just before.
pub record Seen : Type 0 where
  pub joins : List ℕ
  pub own : ℕ
  pub before : Row

-- Before the first row. What stands for the row before it is looked at by no check that the first row can reach.
unfoldable pub start : Seen
start = record { joins = []; own = 0; before = record { block = 0; kind = 0; label = 0; columns = [] } }

-- "cues 1 to own are its own; own + 1 to own + joins are its joins": how many cues the current block has.
unfoldable pub cues_in : Seen → ℕ
cues_in s = s.own + get_or s.joins (length s.joins - 1) 0

-- "Blocks run 0, 1, 2 and on without a gap, at most 128."
unfoldable pub may_open : Seen → Row → Bool
may_open s w = if_eq w.block (length s.joins) (if_lt (length s.joins) max_blocks true false) false

-- The row belongs to the current block.
unfoldable pub goes_on : Seen → Row → Bool
goes_on s w = if_eq (w.block + 1) (length s.joins) true false

-- Check 5: "block number or kind isn't one that may follow here". "A block's rows are its opening, its links, its uses."
unfoldable pub may_follow : Seen → Row → Bool
may_follow s w =
    if_eq w.kind 0 (may_open s w)
    (if_eq w.kind 1 (if_true (goes_on s w) (if_lt s.before.kind 2 true false) false)
    (if_eq w.kind 2 (goes_on s w) false))

-- How many columns carry a value: a of an opening, a and b of a link, of a use "as many as that block has joins". The others are idle.
-- (From here on a kind is 0, 1 or 2: check 5 lets no other through.)
unfoldable pub columns_used : Seen → Row → ℕ
columns_used s w = if_eq w.kind 0 1 (if_eq w.kind 1 2 (get_or s.joins w.label 0))

-- The cues that a link or a use names.
unfoldable pub named : Seen → Row → List ℕ
named s w = if_eq w.kind 0 [] (take (columns_used s w) w.columns)

-- Every number of a list passes a test.
unfoldable pub every : (ℕ → Bool) → List ℕ → Bool
every ok [] = true
every ok (x ∷ xs) = if_true (ok x) (every ok xs) false

-- "links and uses name only these": c is one of a block's cues.
unfoldable pub is_cue : ℕ → ℕ → Bool
is_cue cues c = if_lt c 1 false (if_lt cues c false true)

unfoldable pub is_zero : ℕ → Bool
is_zero x = if_eq x 0 true false

-- The label of a row is in its range: joins of an opening, label of a link, "a lower block number than its own" of a use.
unfoldable pub label_fits : Row → Bool
label_fits w =
    if_eq w.kind 0 (if_lt max_joins w.label false true)
    (if_eq w.kind 1 (if_lt w.label 1 false (if_lt max_label w.label false true))
    (if_lt w.label w.block true false))

-- "a is its own cues (0 to 255)".
unfoldable pub own_fits : Row → Bool
own_fits w = if_eq w.kind 0 (if_lt max_own (get_or w.columns 0 0) false true) true

-- Check 6: "value outside its range above, or an idle column not 0".
unfoldable pub in_range : Seen → Row → Bool
in_range s w =
    if_true (label_fits w)
    (if_true (own_fits w)
    (if_true (every (is_cue (cues_in s)) (named s w)) (every is_zero (drop (columns_used s w) w.columns)) false)
    false)
    false

unfoldable pub differs : ℕ → ℕ → Bool
differs x y = if_eq x y false true

-- Check 7: "a cue named twice in a link or use". Condition C1 of source document 000.
unfoldable pub distinct : List ℕ → Bool
distinct [] = true
distinct (x ∷ xs) = if_true (every (differs x) xs) (distinct xs) false

-- The first list comes before the second, by the first place where they differ.
unfoldable pub is_below : List ℕ → List ℕ → Bool
is_below [] ys = false
is_below (x ∷ xs) [] = false
is_below (x ∷ xs) (y ∷ ys) = if_lt x y true (if_eq x y (is_below xs ys) false)

-- "Links in a block strictly rise by (a, b, label). Uses never fall by (a to h, label)".
unfoldable pub link_key : Row → List ℕ
link_key w = take 2 w.columns ++ (w.label ∷ [])

unfoldable pub use_key : Row → List ℕ
use_key w = w.columns ++ (w.label ∷ [])

-- Check 8: "link or use out of order".
unfoldable pub in_order : Row → Row → Bool
in_order v w =
    if_eq w.kind v.kind
    (if_eq w.kind 1 (is_below (link_key v) (link_key w)) (if_eq w.kind 2 (not (is_below (use_key w) (use_key v))) true))
    true

-- "Checks 5 to 8 run row by row, in order within a row": the refusal's number, or 0.
unfoldable pub fault : Seen → Row → ℕ
fault s w =
    if_true (may_follow s w)
    (if_true (in_range s w) (if_true (distinct (named s w)) (if_true (in_order s.before w) 0 8) 7) 6)
    5

-- What is known after a row.
unfoldable pub after : Seen → Row → Seen
after s w =
    if_eq w.kind 0
    (record { joins = s.joins ++ (w.label ∷ []); own = get_or w.columns 0 0; before = w })
    (record { joins = s.joins; own = s.own; before = w })
