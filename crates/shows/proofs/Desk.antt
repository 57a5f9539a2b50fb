-- Rows behind the built-in table (02, Paper 4): the table passes whatever stands behind it, so a refusal falls on the file's own rows; and its blocks
-- mean the same with the file's blocks behind them.
use Prim.Native.Nat.{ℕ, zero, suc, ◌+◌, ◌≤◌, ◌<◌}
use native.Mathlib.Omega.{arith}
use native.Mathlib.Decide.{ℕ_discrete}
use mathlib.Core.Path.{◌≡◌, refl, sym, ◌∙◌, ap}
use mathlib.Core.Bool.{Bool, true, false}
use mathlib.Core.List.{List, [], ◌∷◌, ◌++◌}
use lib.ListN.{length, get_or, take, length-append}
use borrow.Author.Tests.{ne_eqb}
use lib.Dec.{eqb}
use Rattle.std.specs.Prelude.{Err}
use Rattle.model.specs.Choice.{if_eq}
use Rattle.model.specs.Limits.{max_rows, max_total, desk_rows, desk_blocks}
use Rattle.model.specs.Rows.{Row, row_at, rows_from, row_count, rows_of}
use Rattle.model.specs.Rules.{Seen, start, fault, after}
use Rattle.model.specs.Blocks.{Link, Use, Block, joins_of, add_link, add_use, add_row, add_rows, blocks_of, total}
use Rattle.model.specs.Unfolding.{links}
use Rattle.model.specs.Lists.{range}
use Rattle.model.specs.Summaries.{Search, block_links, summary_by}
use Rattle.model.specs.Verdicts.{refused, check_rows, opening_rows, check_blocks, may_stand, total_fits, verdict, Accepted}
use Rattle.model.specs.Desk.{built_in, built_in_numbers, with_desk, check_own, check_first}
use Rattle.model.specs.declared.Refusal.{Refusal}
use Rattle.basics.proofs.Choices.{eq_then, eq_else, eq_first, lt_then, lt_else, lt_second}
use Rattle.shows.proofs.AtBlock.{joins_of-skip, total-skip, links-skip}
use Rattle.shows.proofs.Accepted.{not-accepted}
use Rattle.shows.proofs.RefusalPlaces.{Refuser, by_length, by_row, by_end, by_total, refuser, rows-place, blocks-place}
use Rattle.shows.proofs.DeskTable.{with_rows, table-blocks, table-passes, table-length, table-openings, table-count, table-crossing}

-- Checks that pass some rows go on with those behind them.
seen_after : Seen → List Row → Seen
seen_after s [] = s
seen_after s (w ∷ ws) = seen_after (after s w) ws

rows_on : (s : Seen) (r : ℕ) (ws vs : List Row) → check_rows s r ws ≡ Accepted
    → check_rows s r (ws ++ vs) ≡ check_rows (seen_after s ws) (r + length ws) vs
unfolding check_rows seen_after
rows_on s r [] vs e = let k : r + 0 ≡ r = omega arith in rw k refl
rows_on s r (w ∷ ws) vs e = go (λ e. rows_on (after s w) (suc r) ws vs e) (fault s w) refl
  where
    go : (check_rows (after s w) (suc r) ws ≡ Accepted
        → check_rows (after s w) (suc r) (ws ++ vs) ≡ check_rows (seen_after (after s w) ws) (suc r + length ws) vs)
        → (n : ℕ) → fault s w ≡ n
        → check_rows s r ((w ∷ ws) ++ vs) ≡ check_rows (seen_after (after s w) ws) (r + suc (length ws)) vs
    go below zero f = let k : r + suc (length ws) ≡ suc r + length ws = omega arith in rw (f, check_rows, k) (below (rw (f, check_rows) at e))
    go below (suc n) f = absurd (not-accepted (suc n) r (rw (f, check_rows) at e))

openings-on : (r : ℕ) (ws vs : List Row) → opening_rows r (ws ++ vs) ≡ opening_rows r ws ++ opening_rows (r + length ws) vs
unfolding opening_rows
openings-on r [] vs = let k : r + 0 ≡ r = omega arith in rw k refl
openings-on r (w ∷ ws) vs = go (openings-on (suc r) ws vs) (ℕ_discrete w.kind 0)
  where
    k : r + suc (length ws) ≡ suc r + length ws
    k = omega arith

    go : opening_rows (suc r) (ws ++ vs) ≡ opening_rows (suc r) ws ++ opening_rows (suc r + length ws) vs → Dec (w.kind ≡ 0)
        → if_eq w.kind 0 (r ∷ opening_rows (suc r) (ws ++ vs)) (opening_rows (suc r) (ws ++ vs))
        ≡ if_eq w.kind 0 (r ∷ opening_rows (suc r) ws) (opening_rows (suc r) ws) ++ opening_rows (r + suc (length ws)) vs
    go below (yes q) =
        rw (
          eq_then w.kind 0 (r ∷ opening_rows (suc r) (ws ++ vs)) (opening_rows (suc r) (ws ++ vs)) q,
          eq_then w.kind 0 (r ∷ opening_rows (suc r) ws) (opening_rows (suc r) ws) q,
          k,
        ) (ap (λ rs. r ∷ rs) below)
    go below (no n) =
        rw (
          eq_else w.kind 0 (r ∷ opening_rows (suc r) (ws ++ vs)) (opening_rows (suc r) (ws ++ vs)) n,
          eq_else w.kind 0 (r ∷ opening_rows (suc r) ws) (opening_rows (suc r) ws) n,
          k,
        ) below

blocks-on : (number : ℕ) (ok : ℕ → Bool) (k : ℕ) (rs ss : List ℕ) → ((j : ℕ) → k ≤ j → j < k + length rs → ok j ≡ true)
    → check_blocks number ok k (rs ++ ss) ≡ check_blocks number ok (k + length rs) ss
unfolding check_blocks
blocks-on number ok k [] ss h = let e : k + 0 ≡ k = omega arith in rw e refl
blocks-on number ok k (r ∷ rs) ss h =
    let e : k + suc (length rs) ≡ suc k + length rs = omega arith in
    rw (h k (omega arith) (omega arith), check_blocks, e) (blocks-on number ok (suc k) rs ss (λ j a b. h j (omega arith) (omega arith)))

-- Blocks in front of others, which stand behind them in the list: the others mean what they meant.
behind-skip : (front bs : List Block) (k : ℕ) → k < length bs → eqb k (length (front ++ bs)) ≡ false
behind-skip front bs k h = ne_eqb k (length (front ++ bs)) (λ e. omega (arith, length-append front bs))

module _ (bs : List Block) (k : ℕ) (h : k < length bs) where
  joins-behind : (front : List Block) → joins_of (front ++ bs) k ≡ joins_of bs k
  joins-behind [] = refl
  joins-behind (b ∷ front) = joins_of-skip b (front ++ bs) k (behind-skip front bs k h) ∙ joins-behind front

  total-behind : (front : List Block) → total (front ++ bs) k ≡ total bs k
  total-behind [] = refl
  total-behind (b ∷ front) = total-skip b (front ++ bs) k (behind-skip front bs k h) ∙ total-behind front

  links-behind : (front : List Block) (base : ℕ) (met : List ℕ) → links (front ++ bs) k base met ≡ links bs k base met
  links-behind [] base met = refl
  links-behind (b ∷ front) base met = links-skip b (front ++ bs) k base met (behind-skip front bs k h) ∙ links-behind front base met

  summary-behind : (find : Search) (front : List Block) (i j : ℕ) → summary_by find (front ++ bs) k i j ≡ summary_by find bs k i j
  unfolding summary_by block_links
  summary-behind find front i j =
      rw (joins-behind front, total-behind front, links-behind front 0 (range (suc (total bs k)) (joins_of bs k))) refl

-- Rows that open a block first leave the blocks before them behind the new ones.
record NewFirst (bs cs : List Block) : Type 0 where
  pub new : Block
  pub others : List Block
  pub all : cs ≡ (new ∷ others) ++ bs

front_row : (bs cs : List Block) (w : Row) → NewFirst bs cs → NewFirst bs (add_row cs w)
unfolding add_row add_link add_use
front_row bs cs w f = go (ℕ_discrete w.kind 0) (ℕ_discrete w.kind 1)
  where
    old : List Block
    old = (f.new ∷ f.others) ++ bs

    opened : Block
    opened = record { joins = w.label; own = get_or w.columns 0 0; links = []; uses = [] }

    l : Link
    l = record { from = get_or w.columns 0 0; to = get_or w.columns 1 0; label = w.label }

    u : Use
    u = record { block = w.label; at = take (joins_of old w.label) w.columns }

    linked : Block
    linked = record { joins = f.new.joins; own = f.new.own; links = f.new.links ++ (l ∷ []); uses = f.new.uses }

    used : Block
    used = record { joins = f.new.joins; own = f.new.own; links = f.new.links; uses = f.new.uses ++ (u ∷ []) }

    go : Dec (w.kind ≡ 0) → Dec (w.kind ≡ 1) → NewFirst bs (add_row cs w)
    go (yes q) d =
        record { new = opened; others = f.new ∷ f.others; all = ap (λ ds. add_row ds w) f.all ∙ eq_then w.kind 0 (opened ∷ old) _ q }
    go (no n) (yes q) =
        record {
          new = linked;
          others = f.others;
          all = ap (λ ds. add_row ds w) f.all ∙ eq_else w.kind 0 (opened ∷ old) _ n ∙ eq_then w.kind 1 (add_link l old) (add_use u old) q;
        }
    go (no n) (no m) =
        record {
          new = used;
          others = f.others;
          all = ap (λ ds. add_row ds w) f.all ∙ eq_else w.kind 0 (opened ∷ old) _ n ∙ eq_else w.kind 1 (add_link l old) (add_use u old) m;
        }

front_rows : (bs cs : List Block) (ws : List Row) → NewFirst bs cs → NewFirst bs (add_rows cs ws)
unfolding add_rows
front_rows bs cs [] f = f
front_rows bs cs (w ∷ ws) f = front_rows bs (add_row cs w) ws (front_row bs cs w f)

front_first : (bs : List Block) (w : Row) (ws : List Row) → w.kind ≡ 0 → NewFirst bs (add_rows bs (w ∷ ws))
unfolding add_rows add_row
front_first bs w ws q =
    front_rows bs (add_row bs w) ws (record { new = _; others = []; all = eq_then w.kind 0 _ _ q })

rows-after : (bs : List Block) (ws vs : List Row) → add_rows bs (ws ++ vs) ≡ add_rows (add_rows bs ws) vs
unfolding add_rows
rows-after bs [] vs = refl
rows-after bs (w ∷ ws) vs = rows-after (add_row bs w) ws vs

-- Own rows that the second way takes.
pub desk_length : (xs : List ℕ) → check_own xs ≡ Accepted → (1 ≤ row_count xs) × (desk_rows + row_count xs ≤ max_rows)
unfolding check_own
desk_length xs e =
    let (a, e₁) = lt_second (row_count xs) 1 (refused 4 0) _ Accepted (not-accepted 4 0) e in
    let (b, e₂) = lt_second max_rows (desk_rows + row_count xs) (refused 4 0) Accepted Accepted (not-accepted 4 0) e₁ in
    (a, b)

desk_first : (w : Row) → check_first w ≡ Accepted → (w.kind ≡ 0) × (w.block ≡ desk_blocks)
unfolding check_first
desk_first w e =
    let (a, e₁) = eq_first w.kind 0 _ (refused 5 (desk_rows + 1)) Accepted (not-accepted 5 (desk_rows + 1)) e in
    let (b, e₂) = eq_first w.block desk_blocks Accepted (refused 5 (desk_rows + 1)) Accepted (not-accepted 5 (desk_rows + 1)) e₁ in
    (a, b)

some-row : (xs : List ℕ) (n : ℕ) → 1 ≤ n → (vs : List Row) × (rows_from xs 0 n ≡ row_at xs 0 ∷ vs)
unfolding rows_from
some-row xs zero h = absurd (omega arith)
some-row xs (suc n) h = (rows_from xs (0 + 1) n, refl)

-- A refusal of a row is one of the file's; and so is one of a block where the table's blocks pass.
block-place : (xs : List ℕ) (number : ℕ) (ok : ℕ → Bool) → ((k : ℕ) → k < desk_blocks → ok k ≡ true) → (q : Refusal)
    → check_blocks number ok 0 (opening_rows 1 (rows_of (with_desk xs))) ≡ Err q → desk_rows < q.place
block-place xs number ok h q e =
    let f = rw (with_rows xs, openings-on 1 built_in (rows_of xs)) at e in
    let on : check_blocks number ok 0 (opening_rows 1 built_in ++ opening_rows (1 + length built_in) (rows_of xs))
    ≡ check_blocks number ok (0 + length (opening_rows 1 built_in)) (opening_rows (1 + length built_in) (rows_of xs)) =
    blocks-on number ok 0 (opening_rows 1 built_in) (opening_rows (1 + length built_in) (rows_of xs)) (λ j a b. h j (omega (arith, table-openings))) in
    omega (arith, table-length, (blocks-place number ok (0 + length (opening_rows 1 built_in)) (1 + length built_in) (rows_of xs) q (sym on ∙ f)).0)

row-place : (xs : List ℕ) (q : Refusal) → check_rows start 1 (rows_of (with_desk xs)) ≡ Err q → desk_rows < q.place
row-place xs q e =
    let f = rw (with_rows xs) at e in
    omega (arith, table-length, (rows-place (seen_after start built_in) (1 + length built_in) (rows_of xs) q (sym (rows_on start 1 built_in (rows_of xs) table-passes) ∙ f)).0)

module _ (xs : List ℕ) (own : check_own xs ≡ Accepted) (first : check_first (row_at xs 0) ≡ Accepted) where
  -- The blocks of all rows are those of the table, behind at least one of the file's.
  own-front : NewFirst (add_rows [] built_in) (blocks_of (with_desk xs))
  unfolding blocks_of rows_of
  own-front =
      let (vs, e) = some-row xs (row_count xs) (desk_length xs own).0 in
      rw (with_rows xs, rows-after [] built_in (rows_from xs 0 (row_count xs)), e)
      (front_first (add_rows [] built_in) (row_at xs 0) vs (desk_first (row_at xs 0) first).0)

  pub desk_summary : (find : Search) (k i j : ℕ) → k < desk_blocks
      → summary_by find (blocks_of (with_desk xs)) k i j ≡ summary_by find (blocks_of built_in_numbers) k i j
  desk_summary find k i j h =
      let f : NewFirst (add_rows [] built_in) (blocks_of (with_desk xs)) = own-front in
      rw (f.all, table-blocks) (summary-behind (add_rows [] built_in) k (omega (arith, table-count)) find (f.new ∷ f.others) i j)

  pub desk_blocks_lem : desk_blocks < length (blocks_of (with_desk xs))
  desk_blocks_lem =
      let f : NewFirst (add_rows [] built_in) (blocks_of (with_desk xs)) = own-front in
      rw f.all (omega (arith, length-append (f.new ∷ f.others) (add_rows [] built_in), table-count))

  -- Each block of the table passes checks 9 and 10.
  stands : (k : ℕ) → k < desk_blocks → may_stand (blocks_of (with_desk xs)) k ≡ true
  unfolding may_stand
  stands k h =
      let f : NewFirst (add_rows [] built_in) (blocks_of (with_desk xs)) = own-front in
      let j : joins_of (blocks_of (with_desk xs)) k ≡ 2 =
      ap (λ bs. joins_of bs k) f.all ∙ joins-behind (add_rows [] built_in) k (omega (arith, table-count)) (f.new ∷ f.others) ∙ (table-crossing k h).joins in
      eq_else (suc k) (length (blocks_of (with_desk xs))) _ _ (λ e. omega (arith, desk_blocks_lem)) ∙ lt_then 0 (joins_of (blocks_of (with_desk xs)) k) true false (omega arith)

  fits : (k : ℕ) → k < desk_blocks → total_fits (blocks_of (with_desk xs)) k ≡ true
  unfolding total_fits
  fits k h =
      let f : NewFirst (add_rows [] built_in) (blocks_of (with_desk xs)) = own-front in
      let t : total (blocks_of (with_desk xs)) k ≡ k + 1 =
      ap (λ bs. total bs k) f.all ∙ total-behind (add_rows [] built_in) k (omega (arith, table-count)) (f.new ∷ f.others) ∙ (table-crossing k h).total in
      lt_else max_total (total (blocks_of (with_desk xs)) k) false true (omega arith)

-- "places are still the file's own lines": a refusal of the rows falls on none of the table's.
pub own-place : (xs : List ℕ) (q : Refusal) → check_own xs ≡ Accepted → check_first (row_at xs 0) ≡ Accepted → verdict (with_desk xs) ≡ Err q
    → 5 ≤ q.number → desk_rows < q.place
own-place xs q own first e h = go (refuser (with_desk xs) q e)
  where
    go : Refuser (with_desk xs) q → desk_rows < q.place
    go (by_length n p) = absurd (omega arith)
    go (by_row l f) = row-place xs q f
    go (by_end l f) = block-place xs 9 (may_stand (blocks_of (with_desk xs))) (stands xs own first) q f
    go (by_total l f) = block-place xs 10 (total_fits (blocks_of (with_desk xs))) (fits xs own first) q f
