-- The built-in table (02, Paper 4): its numbers are its rows, no check of rows refuses one of them, and each of its blocks is as it must be. What is true
-- of the table is computed over all of it at once, and one law hands it on to each block.
use Prim.Native.Nat.{ℕ, zero, suc, ◌+◌, ◌*◌, ◌<◌}
use mathlib.Core.Path.{◌≡◌, refl, sym, ◌∙◌, ap, ap₂}
use mathlib.Core.Bool.{Bool, true, false, false≢true}
use mathlib.Core.List.{List, [], ◌∷◌, ◌++◌, map, flat_map, append_assoc, append-nil}
use native.Mathlib.Omega.{arith}
use native.Mathlib.Decide.{ℕ_discrete}
use lib.ListN.{length, get_or, drop, length-append}
use lib.Seq.{get_or-append-add}
use borrow.Author.Tests.{eq-eqb, ne_eqb}
use Rattle.std.specs.Prelude.{Ok, Err}
use Rattle.model.specs.Choice.{if_eq, if_lt, if_true}
use Rattle.model.specs.Limits.{row_size, desk_rows, desk_blocks, no_chain}
use Rattle.model.specs.Rows.{Row, cell, row_at, rows_from, row_count, rows_of, row_values}
use Rattle.model.specs.Lists.{range}
use Rattle.model.specs.Rules.{
  start,
  cues_in,
  may_open,
  goes_on,
  may_follow,
  columns_used,
  named,
  every,
  is_cue,
  is_zero,
  label_fits,
  own_fits,
  in_range,
  differs,
  distinct,
  is_below,
  link_key,
  use_key,
  in_order,
  fault,
  after,
}
use Rattle.model.specs.Blocks.{Link, Block, no_block, block_at, joins_of, add_link, add_use, add_row, add_rows, blocks_of, sum_over, total}
use Rattle.model.specs.Unfolding.{cue_at, renamed, uses_links, links}
use Rattle.model.specs.Chains.{followed, is_in, successors, search_from, fewest}
use Rattle.model.specs.Summaries.{block_links, or_none, summary, summary_by}
use Rattle.model.specs.Verdicts.{check_rows, opening_rows, Verdict, Accepted}
use Rattle.model.specs.Desk.{plain_opening, plain_link, plain_run, built_in, built_in_numbers, with_desk}
use Rattle.basics.proofs.Members.{range-mem, every-mem}
use Rattle.basics.proofs.Choices.{passed, passed-eq}
use Rattle.shows.proofs.AtBlock.{block_at_hit, block_at_skip}
use Rattle.shows.proofs.Accepted.{open_count}
use Rattle.shows.proofs.FlatRows.{first-values, rows-first}

-- Every row has eight columns.
eights : List Row → Bool
eights [] = true
eights (w ∷ ws) = if_eq (length w.columns) 8 (eights ws) false

-- Eleven numbers are a row's values; the values of a row in front of others are that row again.
of_values : List ℕ → Row
of_values vs = record { block = get_or vs 0 0; kind = get_or vs 1 0; label = get_or vs 2 0; columns = drop 3 vs }

row_back : (w : Row) (xs : List ℕ) → length w.columns ≡ 8 → row_at (row_values w ++ xs) 0 ≡ w
unfolding of_values row_values
row_back w xs e = ap of_values (first-values (row_values w) xs (omega arith))

row-long : (w : Row) → length w.columns ≡ 8 → length (row_values w) ≡ row_size
unfolding row_values
row-long w e = omega arith

rows-front : (ws : List Row) (xs : List ℕ) → eights ws ≡ true → rows_of (flat_map row_values ws ++ xs) ≡ ws ++ rows_of xs
unfolding eights flat_map
rows-front [] xs e = refl
rows-front (w ∷ ws) xs e = first (passed-eq (length w.columns) 8 (eights ws) e).0 (rows-front ws xs (passed-eq (length w.columns) 8 (eights ws) e).1)
  where
    rest : List ℕ
    rest = flat_map row_values ws ++ xs

    first : length w.columns ≡ 8 → rows_of rest ≡ ws ++ rows_of xs → rows_of ((row_values w ++ flat_map row_values ws) ++ xs) ≡ w ∷ (ws ++ rows_of xs)
    first h below =
        ap rows_of (append_assoc (row_values w) (flat_map row_values ws) xs)
        ∙ rows-first (row_values w) rest (row-long w h) ∙ ap₂ ◌∷◌ (row_back w rest h) below

-- Its numbers, and what stands behind them.
pub desk_size : length built_in_numbers ≡ desk_rows * row_size
unfolding built_in_numbers built_in flat_map range plain_run plain_opening plain_link row_values
desk_size = refl

pub with_length : (xs : List ℕ) → length (with_desk xs) ≡ desk_rows * row_size + length xs
unfolding with_desk
with_length xs = length-append built_in_numbers xs ∙ ap (λ (n : ℕ). n + length xs) desk_size

pub with_count : (xs : List ℕ) → row_count (with_desk xs) ≡ desk_rows + row_count xs
unfolding row_count
with_count xs = rw (with_length xs) (omega arith)

with_cell : (xs : List ℕ) (r c : ℕ) → cell (with_desk xs) (desk_rows + r) c ≡ cell xs r c
unfolding cell with_desk
with_cell xs r c =
    let k : (desk_rows + r) * row_size + c ≡ length built_in_numbers + (r * row_size + c) = omega (arith, desk_size) in
    rw k (get_or-append-add built_in_numbers xs (r * row_size + c) 0)

pub with_row : (xs : List ℕ) (r : ℕ) → row_at (with_desk xs) (desk_rows + r) ≡ row_at xs r
unfolding row_at
with_row xs r = simp (with_cell xs r)

table-eights : eights built_in ≡ true
unfolding eights built_in flat_map range plain_run plain_opening plain_link if_eq
table-eights = refl

pub with_rows : (xs : List ℕ) → rows_of (with_desk xs) ≡ built_in ++ rows_of xs
unfolding with_desk built_in_numbers
with_rows xs = rows-front built_in xs table-eights

-- Alone it has its own rows and blocks.
pub table-rows : rows_of built_in_numbers ≡ built_in
unfolding rows_of rows_from row_count with_desk
table-rows = ap rows_of (sym (append-nil built_in_numbers)) ∙ with_rows [] ∙ append-nil built_in

pub table-blocks : blocks_of built_in_numbers ≡ add_rows [] built_in
unfolding blocks_of
table-blocks = ap (add_rows []) table-rows

-- How many rows and blocks it has.
pub table-length : length built_in ≡ desk_rows
unfolding built_in flat_map range plain_run plain_opening plain_link
table-length = refl

pub table-openings : length (opening_rows 1 built_in) ≡ desk_blocks
unfolding opening_rows built_in flat_map range plain_run plain_opening plain_link if_eq
table-openings = refl

pub table-count : length (add_rows [] built_in) ≡ desk_blocks
table-count = omega (arith, open_count 1 built_in [], table-openings)

-- "block k's summary is k + 2 from first join to second and none back": what is tested of block k, from join to join.
is_crossed : List Block → ℕ → Bool
is_crossed bs k =
    if_eq (summary bs k 1 2) (k + 2)
    (if_eq (summary bs k 2 1) no_chain
    (if_eq (joins_of bs k) 2
    (if_eq (total bs k) (k + 1) true false)
    false)
    false)
    false

-- "Over the whole table one fact is proved: its rows pass checks 5 to 8, and block k's summary ..": one test of some rows and their first n blocks.
accepts : Verdict → Bool
accepts (Ok _) = true
accepts (Err r) = false

is_right : List Row → ℕ → Bool
is_right ws n = if_true (accepts (check_rows start 1 ws)) (every (is_crossed (add_rows [] ws)) (range 0 n)) false

table-right : is_right built_in desk_blocks ≡ true
unfolding is_right accepts is_crossed every if_eq if_lt if_true built_in flat_map range plain_run plain_opening plain_link check_rows start fault after may_follow may_open goes_on in_range label_fits own_fits is_cue cues_in named columns_used is_zero distinct differs in_order is_below link_key use_key no_block block_at joins_of add_link add_use add_row add_rows sum_over total cue_at renamed uses_links links followed is_in successors search_from fewest block_links or_none summary_by
table-right = refl

-- The rule at the rows: they pass.
accepts_so : (v : Verdict) → accepts v ≡ true → v ≡ Accepted
unfolding accepts
accepts_so (Ok _) e = refl
accepts_so (Err r) e = absurd (false≢true e)

both_right : (accepts (check_rows start 1 built_in) ≡ true) × (every (is_crossed (add_rows [] built_in)) (range 0 desk_blocks) ≡ true)
unfolding is_right
both_right = passed (accepts (check_rows start 1 built_in)) (every (is_crossed (add_rows [] built_in)) (range 0 desk_blocks)) table-right

pub table-passes : check_rows start 1 built_in ≡ Accepted
table-passes = accepts_so (check_rows start 1 built_in) both_right.0

-- The rule at each block.
pub record Crossed (bs : List Block) (k : ℕ) : Type 0 where
  pub there : summary bs k 1 2 ≡ k + 2
  pub back : summary bs k 2 1 ≡ no_chain
  pub joins : joins_of bs k ≡ 2
  pub total : total bs k ≡ k + 1

crossed_so : (bs : List Block) (k : ℕ) → is_crossed bs k ≡ true → Crossed bs k
unfolding is_crossed
crossed_so bs k e =
    let (a, e₁) = passed-eq (summary bs k 1 2) (k + 2) _ e in
    let (b, e₂) = passed-eq (summary bs k 2 1) no_chain _ e₁ in
    let (c, e₃) = passed-eq (joins_of bs k) 2 _ e₂ in
    let (d, e₄) = passed-eq (total bs k) (k + 1) true e₃ in
    record { there = a; back = b; joins = c; total = d }

pub table-crossing : (k : ℕ) → k < desk_blocks → Crossed (add_rows [] built_in) k
table-crossing k h =
    crossed_so (add_rows [] built_in) k
    (every-mem (is_crossed (add_rows [] built_in)) (range 0 desk_blocks) both_right.1 k (range-mem 0 desk_blocks k (omega arith) (omega arith)))

-- The block of a plain run, and the blocks 0 to n - 1, the last one first.
abbrev pub plain_links : ℕ → List Link
plain_links k =
    map (λ (c : ℕ). record { from = c; to = c + 1; label = 1 }) (range 1 k)
    ++ (record { from = k + 1; to = k + 3; label = 1 } ∷ record { from = k + 2; to = 1; label = 1 } ∷ [])

abbrev pub plain_block : ℕ → Block
plain_block k = record { joins = 2; own = k + 1; links = plain_links k; uses = [] }

plain_blocks : ℕ → List Block
plain_blocks zero = []
plain_blocks (suc n) = plain_block n ∷ plain_blocks n

table-plain : add_rows [] built_in ≡ plain_blocks desk_blocks
unfolding plain_blocks built_in flat_map range plain_run plain_opening plain_link if_eq add_link add_row add_rows
table-plain = refl

plain-count : (n : ℕ) → length (plain_blocks n) ≡ n
unfolding plain_blocks
plain-count zero = refl
plain-count (suc n) = ap suc (plain-count n)

plain_at : (n k : ℕ) → k < n → block_at (plain_blocks n) k ≡ plain_block k
unfolding plain_blocks
plain_at zero k h = absurd (omega arith)
plain_at (suc n) k h = go (λ l. plain_at n k l) (ℕ_discrete k n)
  where
    go : (k < n → block_at (plain_blocks n) k ≡ plain_block k) → Dec (k ≡ n) → block_at (plain_block n ∷ plain_blocks n) k ≡ plain_block k
    go below (yes e) =
        block_at_hit (plain_block n) (plain_blocks n) k (eq-eqb k (length (plain_blocks n)) (omega (arith, plain-count n))) ∙ ap plain_block (sym e)
    go below (no m) =
        block_at_skip (plain_block n) (plain_blocks n) k (ne_eqb k (length (plain_blocks n)) (λ e. omega (arith, plain-count n))) ∙ below (omega arith)

-- So each block of the table is one.
pub table-block : (k : ℕ) → k < desk_blocks → block_at (add_rows [] built_in) k ≡ plain_block k
table-block k h = ap (λ bs. block_at bs k) table-plain ∙ plain_at desk_blocks k h
