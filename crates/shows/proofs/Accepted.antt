-- Accepted rows are a show: what the questions may take for granted.
use Prim.Native.Nat.{ℕ, zero, suc, ◌+◌, ◌*◌, ◌-◌, ◌/◌, ◌%◌, ◌≤◌, ◌<◌}
use native.Mathlib.Omega.{arith}
use native.Mathlib.Decide.{ℕ_discrete, dec_lt}
use mathlib.Core.Path.{◌≡◌, refl}
use mathlib.Core.Bool.{Bool, true, false}
use mathlib.Core.Logic.{◌⊎◌, inl, inr}
use mathlib.Core.List.{List, [], ◌∷◌, Memᴰ}
use lib.ListN.{length, get_or, take, drop, take-append-drop, get_or-eq_default}
use borrow.Author.Tests.{ne_eqb}
use Rattle.std.specs.Prelude.{Ok, Err}
use Rattle.model.specs.Choice.{if_eq}
use Rattle.model.specs.Limits.{row_size, max_rows, max_joins, max_own, max_label, max_total, no_chain}
use Rattle.model.specs.Rows.{Row, cell, row_at, rows_from, row_count, rows_of, row_values}
use Rattle.model.specs.Rules.{Seen, start, cues_in, columns_used, named, is_cue, is_zero, label_fits, own_fits, fault, after}
use Rattle.model.specs.Blocks.{Link, Use, Block, joins_of, own_of, add_link, add_use, add_row, add_rows, blocks_of, total, last_block}
use Rattle.model.specs.Verdicts.{refused, and_then, check_length, check_rows, opening_rows, check_blocks, may_stand, total_fits, verdict, Verdict, Accepted}
use Rattle.shows.specs.WellFormed.{Small, small-none, small-more}
use Rattle.shows.specs.Accepted.{Show}
use Rattle.shows.proofs.AtBlock.{joins-small}
use Rattle.basics.proofs.Members.{every-mem}
use Rattle.basics.proofs.Choices.{eq_then, eq_else, eq_first, lt_second, passed-lt, passed-not_lt, passed-eq}
use Rattle.shows.proofs.Passed.{Passed, faultless, is_cue-bounds, Kind, opens, links, uses, kind-of, Fits, fits-of}
use Rattle.shows.proofs.Tracks.{Tracks, tracks_start, tracks_step, own_now}

-- A refusal is no acceptance.
pub not-accepted : (n r : ℕ) → refused n r ≡ Accepted → ⊥
unfolding refused
not-accepted n r e = let z : ◌≡◌ {A = ℕ} 0 1 = cc in omega arith

pub both_accepted : (v w : Verdict) → and_then v w ≡ Accepted → (v ≡ Accepted) × (w ≡ Accepted)
unfolding and_then
both_accepted (Ok _) w e = (refl, e)
both_accepted (Err r) w e = absurd (let z : ◌≡◌ {A = ℕ} 0 1 = cc in omega arith)

-- Check 4.
pub counted : (xs : List ℕ) → check_length xs ≡ Accepted → (length xs % row_size ≡ 0) × (1 ≤ row_count xs) × (row_count xs ≤ max_rows)
unfolding check_length
counted xs e =
    let (a, e₁) = eq_first (length xs % row_size) 0 _ (refused 4 0) Accepted (not-accepted 4 0) e in
    let (b, e₂) = lt_second (row_count xs) 1 (refused 4 0) _ Accepted (not-accepted 4 0) e₁ in
    let (c, e₃) = lt_second max_rows (row_count xs) (refused 4 0) Accepted Accepted (not-accepted 4 0) e₂ in
    (a, b, c)

-- The blocks so far have few own cues and joins, so the current block has few cues.
now_small : {bs : List Block} → Small bs → own_now bs ≤ max_own
now_small small-none = omega arith
now_small (small-more j o gs) = o

cues-small : (s : Seen) (bs : List Block) → Tracks s bs → cues_in s ≤ 263
unfolding cues_in
cues-small s bs t =
    omega (arith, t.own, now_small t.small, t.joins (length s.joins - 1), joins-small (length s.joins - 1) t.small)

is-zero : (x : ℕ) → is_zero x ≡ true → x ≡ 0
unfolding is_zero
is-zero x e = (passed-eq x 0 true e).0

take-one : (xs : List ℕ) (x : ℕ) → Memᴰ x (take 1 xs) → x ≡ get_or xs 0 0
take-one [] x i = absurd (mathlib.Core.List.Memᴰ.not-nil i)
take-one (y ∷ ys) x i = mathlib.Core.List.Memᴰ.eq_of_singleton i

-- Every value of a row that passes has at most three digits.
module _ (s : Seen) (w : Row) (bs : List Block) (t : Tracks s bs) (p : Passed s w) where
  row_fits : Fits s w
  row_fits = fits-of s w p.fits

  label_small : w.label ≤ 999
  unfolding row_fits label_fits
  label_small = go (kind-of s w p.follows)
    where
      go : Kind s w → w.label ≤ 999
      go (opens q h few) =
          let x : w.label ≤ max_joins = (passed-not_lt max_joins w.label true (rw (eq_then w.kind 0 _ _ q) at row_fits.label)).0 in
          omega arith
      go (links q h) =
          let n : w.kind ≡ 0 → ⊥ = λ e. omega arith in
          let y = passed-not_lt w.label 1 _ (rw (eq_then w.kind 1 _ _ q) at (rw (eq_else w.kind 0 _ _ n) at row_fits.label)) in
          let x : w.label ≤ max_label = (passed-not_lt max_label w.label true y.1).0 in
          omega arith
      go (uses q h) =
          let n : w.kind ≡ 0 → ⊥ = λ e. omega arith in
          let m : w.kind ≡ 1 → ⊥ = λ e. omega arith in
          let x : w.label < w.block =
          (passed-lt w.label w.block true (rw (eq_else w.kind 1 _ _ m) at (rw (eq_else w.kind 0 _ _ n) at row_fits.label))).0 in
          omega (arith, t.count, t.few)

  front_small : (c : ℕ) → Memᴰ c (take (columns_used s w) w.columns) → c ≤ 999
  unfolding row_fits named columns_used own_fits
  front_small c i = go (ℕ_discrete w.kind 0)
    where
      go : Dec (w.kind ≡ 0) → c ≤ 999
      go (yes q) =
          let x : get_or w.columns 0 0 ≤ max_own = (passed-not_lt max_own (get_or w.columns 0 0) true (rw (eq_then w.kind 0 _ _ q) at row_fits.own)).0 in
          omega (arith, take-one w.columns c (rw (eq_then w.kind 0 _ _ q) at i))
      go (no n) =
          let j : Memᴰ c (named s w) = rw (eq_else w.kind 0 _ _ n) i in
          omega (arith, (is_cue-bounds (cues_in s) c (every-mem (is_cue (cues_in s)) (named s w) row_fits.cues c j)).1, cues-small s bs t)

  column-small : (c : ℕ) → Memᴰ c w.columns → c ≤ 999
  unfolding row_fits
  column-small c i = go (mathlib.Core.List.Memᴰ.append_cases (take (columns_used s w) w.columns) (rw (take-append-drop (columns_used s w) w.columns) i))
    where
      go : Memᴰ c (take (columns_used s w) w.columns) ⊎ Memᴰ c (drop (columns_used s w) w.columns) → c ≤ 999
      go (inl j) = front_small c j
      go (inr j) =
          let e : c ≡ 0 = is-zero c (every-mem is_zero (drop (columns_used s w) w.columns) row_fits.idle c j) in
          omega arith

  kind-small : (w.kind ≤ 999) × (w.block ≤ 999)
  kind-small = go (kind-of s w p.follows)
    where
      go : Kind s w → (w.kind ≤ 999) × (w.block ≤ 999)
      go (opens q h few) = omega arith
      go (links q h) = omega (arith, t.count, t.few)
      go (uses q h) = omega (arith, t.count, t.few)

  pub row_small : (v : ℕ) → Memᴰ v (row_values w) → v ≤ 999
  unfolding row_values
  row_small v i = one (mathlib.Core.List.Memᴰ.cases_cons i)
    where
      three : (v ≡ w.label) ⊎ Memᴰ v w.columns → v ≤ 999
      three (inl e) = rw e label_small
      three (inr j) = column-small v j

      two : (v ≡ w.kind) ⊎ Memᴰ v (w.label ∷ w.columns) → v ≤ 999
      two (inl e) = rw e kind-small.0
      two (inr j) = three (mathlib.Core.List.Memᴰ.cases_cons j)

      one : (v ≡ w.block) ⊎ Memᴰ v (w.kind ∷ w.label ∷ w.columns) → v ≤ 999
      one (inl e) = rw e kind-small.1
      one (inr j) = two (mathlib.Core.List.Memᴰ.cases_cons j)

-- The rows r to r + n - 1 pass, so the blocks are well formed and the values small.
pub record Checked (xs : List ℕ) (r n : ℕ) (bs : List Block) : Type 0 where
  pub seen : Seen
  pub tracks : Tracks seen (add_rows bs (rows_from xs r n))
  pub small : (q : ℕ) → r ≤ q → q < r + n → (v : ℕ) → Memᴰ v (row_values (row_at xs q)) → v ≤ 999

eight : (xs : List ℕ) (r : ℕ) → length (row_at xs r).columns ≡ 8
unfolding row_at
eight xs r = refl

pub checked : (xs : List ℕ) (n r place : ℕ) (s : Seen) (bs : List Block) → check_rows s place (rows_from xs r n) ≡ Accepted → Tracks s bs
    → Checked xs r n bs
unfolding rows_from check_rows add_rows
checked xs zero r place s bs e t = record { seen = s; tracks = t; small = λ q a b. absurd (omega arith) }
checked xs (suc n) r place s bs e t = go (λ s bs e t. checked xs n (r + 1) (suc place) s bs e t) (fault s (row_at xs r)) refl
  where
    join : fault s (row_at xs r) ≡ 0 → Checked xs (r + 1) n (add_row bs (row_at xs r)) → Checked xs r (suc n) bs
    join f c = record { seen = c.seen; tracks = c.tracks; small = λ q a b. at q a b (ℕ_discrete q r) }
      where
        at : (q : ℕ) → r ≤ q → q < r + suc n → Dec (q ≡ r) → (v : ℕ) → Memᴰ v (row_values (row_at xs q)) → v ≤ 999
        at q a b (yes h) = rw h (row_small s (row_at xs r) bs t (faultless s (row_at xs r) f))
        at q a b (no h) = c.small q (omega arith) (omega arith)

    go : ((s : Seen) (bs : List Block) → check_rows s (suc place) (rows_from xs (r + 1) n) ≡ Accepted → Tracks s bs → Checked xs (r + 1) n bs)
        → (k : ℕ) → fault s (row_at xs r) ≡ k → Checked xs r (suc n) bs
    go below zero f =
        join f (below (after s (row_at xs r)) (add_row bs (row_at xs r)) (rw (f, check_rows) at e) (tracks_step s (row_at xs r) bs (eight xs r) f t))
    go below (suc k) f = absurd (not-accepted (suc k) place (rw (f, check_rows) at e))

-- Each value of the lent rows is a value of a row.
value-at : (xs : List ℕ) (r c : ℕ) → c < 11 → Memᴰ (cell xs r c) (row_values (row_at xs r))
unfolding row_values row_at
value-at xs r zero h = mathlib.Core.List.Memᴰ.head refl
value-at xs r (suc zero) h = mathlib.Core.List.Memᴰ.tail (mathlib.Core.List.Memᴰ.head refl)
value-at xs r (suc (suc zero)) h = mathlib.Core.List.Memᴰ.tail (mathlib.Core.List.Memᴰ.tail (mathlib.Core.List.Memᴰ.head refl))
value-at xs r (suc (suc (suc zero))) h = mathlib.Core.List.Memᴰ.tail (mathlib.Core.List.Memᴰ.tail (mathlib.Core.List.Memᴰ.tail (mathlib.Core.List.Memᴰ.head refl)))
value-at xs r (suc (suc (suc (suc zero)))) h = mathlib.Core.List.Memᴰ.tail (mathlib.Core.List.Memᴰ.tail (mathlib.Core.List.Memᴰ.tail (mathlib.Core.List.Memᴰ.tail (mathlib.Core.List.Memᴰ.head refl))))
value-at xs r (suc (suc (suc (suc (suc zero))))) h = mathlib.Core.List.Memᴰ.tail (mathlib.Core.List.Memᴰ.tail (mathlib.Core.List.Memᴰ.tail (mathlib.Core.List.Memᴰ.tail (mathlib.Core.List.Memᴰ.tail (mathlib.Core.List.Memᴰ.head refl)))))
value-at xs r (suc (suc (suc (suc (suc (suc zero)))))) h = mathlib.Core.List.Memᴰ.tail (mathlib.Core.List.Memᴰ.tail (mathlib.Core.List.Memᴰ.tail (mathlib.Core.List.Memᴰ.tail (mathlib.Core.List.Memᴰ.tail (mathlib.Core.List.Memᴰ.tail (mathlib.Core.List.Memᴰ.head refl))))))
value-at xs r (suc (suc (suc (suc (suc (suc (suc zero))))))) h = mathlib.Core.List.Memᴰ.tail (mathlib.Core.List.Memᴰ.tail (mathlib.Core.List.Memᴰ.tail (mathlib.Core.List.Memᴰ.tail (mathlib.Core.List.Memᴰ.tail (mathlib.Core.List.Memᴰ.tail (mathlib.Core.List.Memᴰ.tail (mathlib.Core.List.Memᴰ.head refl)))))))
value-at xs r (suc (suc (suc (suc (suc (suc (suc (suc zero)))))))) h = mathlib.Core.List.Memᴰ.tail (mathlib.Core.List.Memᴰ.tail (mathlib.Core.List.Memᴰ.tail (mathlib.Core.List.Memᴰ.tail (mathlib.Core.List.Memᴰ.tail (mathlib.Core.List.Memᴰ.tail (mathlib.Core.List.Memᴰ.tail (mathlib.Core.List.Memᴰ.tail (mathlib.Core.List.Memᴰ.head refl))))))))
value-at xs r (suc (suc (suc (suc (suc (suc (suc (suc (suc zero))))))))) h = mathlib.Core.List.Memᴰ.tail (mathlib.Core.List.Memᴰ.tail (mathlib.Core.List.Memᴰ.tail (mathlib.Core.List.Memᴰ.tail (mathlib.Core.List.Memᴰ.tail (mathlib.Core.List.Memᴰ.tail (mathlib.Core.List.Memᴰ.tail (mathlib.Core.List.Memᴰ.tail (mathlib.Core.List.Memᴰ.tail (mathlib.Core.List.Memᴰ.head refl)))))))))
value-at xs r (suc (suc (suc (suc (suc (suc (suc (suc (suc (suc zero)))))))))) h = mathlib.Core.List.Memᴰ.tail (mathlib.Core.List.Memᴰ.tail (mathlib.Core.List.Memᴰ.tail (mathlib.Core.List.Memᴰ.tail (mathlib.Core.List.Memᴰ.tail (mathlib.Core.List.Memᴰ.tail (mathlib.Core.List.Memᴰ.tail (mathlib.Core.List.Memᴰ.tail (mathlib.Core.List.Memᴰ.tail (mathlib.Core.List.Memᴰ.tail (mathlib.Core.List.Memᴰ.head refl))))))))))
value-at xs r (suc (suc (suc (suc (suc (suc (suc (suc (suc (suc (suc c))))))))))) h = absurd (omega arith)

-- There are as many blocks as opening rows.
link-length : (l : Link) (bs : List Block) → length (add_link l bs) ≡ length bs
unfolding add_link
link-length l [] = refl
link-length l (b ∷ bs) = refl

use_length : (u : Use) (bs : List Block) → length (add_use u bs) ≡ length bs
unfolding add_use
use_length u [] = refl
use_length u (b ∷ bs) = refl

pub opening-length : (bs : List Block) (w : Row) → w.kind ≡ 0 → length (add_row bs w) ≡ suc (length bs)
unfolding add_row
opening-length bs w q = rw (eq_then w.kind 0 _ _ q)

pub other_length : (bs : List Block) (w : Row) → (w.kind ≡ 0 → ⊥) → length (add_row bs w) ≡ length bs
unfolding add_row
other_length bs w n = rw (eq_else w.kind 0 _ _ n) (go (ℕ_discrete w.kind 1))
  where
    l : Link
    l = record { from = get_or w.columns 0 0; to = get_or w.columns 1 0; label = w.label }

    u : Use
    u = record { block = w.label; at = take (joins_of bs w.label) w.columns }

    go : Dec (w.kind ≡ 1) → length (if_eq w.kind 1 (add_link l bs) (add_use u bs)) ≡ length bs
    go (yes q) = rw (eq_then w.kind 1 (add_link l bs) (add_use u bs) q) (link-length l bs)
    go (no m) = rw (eq_else w.kind 1 (add_link l bs) (add_use u bs) m) (use_length u bs)

pub open_count : (r : ℕ) (ws : List Row) (bs : List Block) → length (add_rows bs ws) ≡ length bs + length (opening_rows r ws)
unfolding opening_rows add_rows
open_count r [] bs = omega arith
open_count r (w ∷ ws) bs = go (open_count (suc r) ws (add_row bs w)) (ℕ_discrete w.kind 0)
  where
    go : length (add_rows (add_row bs w) ws) ≡ length (add_row bs w) + length (opening_rows (suc r) ws) → Dec (w.kind ≡ 0)
        → length (add_rows (add_row bs w) ws) ≡ length bs + length (if_eq w.kind 0 (r ∷ opening_rows (suc r) ws) (opening_rows (suc r) ws))
    go below (yes q) = rw (eq_then w.kind 0 (r ∷ opening_rows (suc r) ws) (opening_rows (suc r) ws) q) (omega (arith, opening-length bs w q))
    go below (no n) = rw (eq_else w.kind 0 (r ∷ opening_rows (suc r) ws) (opening_rows (suc r) ws) n) (omega (arith, other_length bs w n))

-- A check of all blocks passed: each block passes the test.
pub all_blocks : (number : ℕ) (ok : ℕ → Bool) (k : ℕ) (rs : List ℕ) → check_blocks number ok k rs ≡ Accepted → (j : ℕ) → k ≤ j → j < k + length rs → ok j ≡ true
unfolding check_blocks
all_blocks number ok k [] e j a b = absurd (omega arith)
all_blocks number ok k (r ∷ rs) e j a b = go (λ e. all_blocks number ok (suc k) rs e j) (ok k) refl
  where
    go : (check_blocks number ok (suc k) rs ≡ Accepted → suc k ≤ j → j < suc k + length rs → ok j ≡ true) → (t : Bool) → ok k ≡ t → ok j ≡ true
    go below true q = at (ℕ_discrete j k)
      where
        at : Dec (j ≡ k) → ok j ≡ true
        at (yes h) = rw h q
        at (no h) = below (rw (q, check_blocks) at e) (omega arith) (omega arith)
    go below false q = absurd (not-accepted number r (rw (q, check_blocks) at e))

-- No block, no total.
pub total-beyond : (bs : List Block) (k : ℕ) → length bs ≤ k → total bs k ≡ 0
unfolding total
total-beyond [] k h = refl
total-beyond (b ∷ earlier) k h = rw (ne_eqb k (length earlier) (λ e. omega arith), total) (total-beyond earlier k (omega arith))

-- Checks 9 and 10 of a block.
pub last-stands : (bs : List Block) (k : ℕ) → suc k ≡ length bs → may_stand bs k ≡ true → (joins_of bs k ≡ 0) × (1 ≤ own_of bs k)
unfolding may_stand
last-stands bs k q e =
    let (a, b) = passed-eq (joins_of bs k) 0 _ (rw (eq_then (suc k) (length bs) _ _ q) at e) in
    (a, (passed-lt 0 (own_of bs k) true b).0)

pub other_stands : (bs : List Block) (k : ℕ) → (suc k ≡ length bs → ⊥) → may_stand bs k ≡ true → 1 ≤ joins_of bs k
unfolding may_stand
other_stands bs k n e = (passed-lt 0 (joins_of bs k) true (rw (eq_else (suc k) (length bs) _ _ n) at e)).0

pub total-small : (bs : List Block) (k : ℕ) → total_fits bs k ≡ true → total bs k ≤ max_total
unfolding total_fits
total-small bs k e = (passed-not_lt max_total (total bs k) true e).0

-- The first row of accepted rows opens a block.
first-opens : (w : Row) → fault start w ≡ 0 → w.kind ≡ 0
unfolding start
first-opens w f = go (kind-of start w (faultless start w f).follows)
  where
    go : Kind start w → w.kind ≡ 0
    go (opens q h few) = q
    go (links q h) = absurd (omega arith)
    go (uses q h) = absurd (omega arith)

pub some_block : (xs : List ℕ) (n : ℕ) → 1 ≤ n → check_rows start 1 (rows_from xs 0 n) ≡ Accepted → 1 ≤ length (add_rows [] (rows_from xs 0 n))
unfolding rows_from check_rows add_rows
some_block xs zero h e = absurd (omega arith)
some_block xs (suc n) h e = go (fault start (row_at xs 0)) refl
  where
    go : (k : ℕ) → fault start (row_at xs 0) ≡ k → 1 ≤ length (add_rows (add_row [] (row_at xs 0)) (rows_from xs (0 + 1) n))
    go zero f = omega (arith, open_count 1 (rows_from xs (0 + 1) n) (add_row [] (row_at xs 0)), opening-length [] (row_at xs 0) (first-opens (row_at xs 0) f))
    go (suc k) f = absurd (not-accepted (suc k) 1 (rw (f, check_rows) at e))

-- Accepted rows passed each check.
pub record Passes (xs : List ℕ) : Type 0 where
  pub count : check_length xs ≡ Accepted
  pub rows : check_rows start 1 (rows_of xs) ≡ Accepted
  pub ends : check_blocks 9 (may_stand (blocks_of xs)) 0 (opening_rows 1 (rows_of xs)) ≡ Accepted
  pub totals : check_blocks 10 (total_fits (blocks_of xs)) 0 (opening_rows 1 (rows_of xs)) ≡ Accepted

pub passes : (xs : List ℕ) → verdict xs ≡ Accepted → Passes xs
unfolding verdict
passes xs e =
    let (a, f) = both_accepted (check_length xs) _ e in
    let (b, g) = both_accepted (check_rows start 1 (rows_of xs)) _ f in
    let (c, d) = both_accepted (check_blocks 9 (may_stand (blocks_of xs)) 0 (opening_rows 1 (rows_of xs))) _ g in
    record { count = a; rows = b; ends = c; totals = d }

module _ (xs : List ℕ) (p : Passes xs) where
  rows-checked : Checked xs 0 (row_count xs) []
  unfolding rows_of
  rows-checked = checked xs (row_count xs) 0 1 start [] p.rows tracks_start

  blocks-some : 1 ≤ length (blocks_of xs)
  unfolding blocks_of rows_of
  blocks-some = some_block xs (row_count xs) (counted xs p.count).1 p.rows

  each-block : (number : ℕ) (ok : ℕ → Bool) → check_blocks number ok 0 (opening_rows 1 (rows_of xs)) ≡ Accepted
      → (k : ℕ) → k < length (blocks_of xs) → ok k ≡ true
  unfolding blocks_of
  each-block number ok e k h =
      all_blocks number ok 0 (opening_rows 1 (rows_of xs)) e k (omega arith) (omega (arith, open_count 1 (rows_of xs) []))

  stands : (k : ℕ) → k < length (blocks_of xs) → may_stand (blocks_of xs) k ≡ true
  stands = each-block 9 (may_stand (blocks_of xs)) p.ends

  last_block_is : (joins_of (blocks_of xs) (last_block (blocks_of xs)) ≡ 0) × (1 ≤ own_of (blocks_of xs) (last_block (blocks_of xs)))
  unfolding last_block
  last_block_is =
      let h : 1 ≤ length (blocks_of xs) = blocks-some in
      last-stands (blocks_of xs) (length (blocks_of xs) - 1) (omega arith) (stands (length (blocks_of xs) - 1) (omega arith))

  totals-small : (k : ℕ) → total (blocks_of xs) k ≤ max_total
  totals-small k = go (dec_lt k (length (blocks_of xs)))
    where
      go : Dec (k < length (blocks_of xs)) → total (blocks_of xs) k ≤ max_total
      go (yes h) = total-small (blocks_of xs) k (each-block 10 (total_fits (blocks_of xs)) p.totals k h)
      go (no n) = let e : total (blocks_of xs) k ≡ 0 = total-beyond (blocks_of xs) k (omega arith) in omega arith

  values-small : (i : ℕ) → get_or xs i 0 ≤ 999
  unfolding cell row_count
  values-small i = go (dec_lt i (length xs))
    where
      go : Dec (i < length xs) → get_or xs i 0 ≤ 999
      go (yes h) =
          let whole : length xs % row_size ≡ 0 = (counted xs p.count).0 in
          let e : i / 11 * 11 + i % 11 ≡ i = omega arith in
          let q : i / 11 < 0 + length xs / 11 = omega arith in
          rw e at (rows-checked.small (i / 11) (omega arith) q (get_or xs (i / 11 * 11 + i % 11) 0) (value-at xs (i / 11) (i % 11) (omega arith)))
      go (no n) = rw (get_or-eq_default xs 0 {n = i} (omega arith)) (omega arith)

-- The law: accepted rows are a show.
pub accepted-show : (xs : List ℕ) → verdict xs ≡ Accepted → Show xs
unfolding blocks_of rows_of
accepted-show xs e =
    let p : Passes xs = passes xs e in
    let t = (rows-checked xs p).tracks in
    record {
      whole = (counted xs p.count).0;
      rows = ((counted xs p.count).1, (counted xs p.count).2);
      values = values-small xs p;
      good = t.good;
      small = t.small;
      blocks = (blocks-some xs p, t.few);
      no_joins = (last_block_is xs p).0;
      own = (last_block_is xs p).1;
      joins = λ k h. other_stands (blocks_of xs) k (λ q. omega arith) (stands xs p k (omega arith));
      totals = totals-small xs p;
    }

-- Its blocks have few cues and joins each, so a number of four bytes counts them.
pub cues-fit : {xs : List ℕ} → Show xs → (k : ℕ) → total (blocks_of xs) k + joins_of (blocks_of xs) k ≤ no_chain
cues-fit show k = omega (arith, show.totals k, joins-small k show.small)
