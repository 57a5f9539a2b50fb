-- The last of some rows that pass the checks is a row of the last block that they open.
use Prim.Native.Nat.{ℕ, zero, suc, ◌+◌, ◌-◌}
use native.Mathlib.Omega.{arith}
use mathlib.Core.Path.{◌≡◌, refl}
use mathlib.Core.List.{List, []}
use lib.ListN.{length}
use Rattle.model.specs.Rows.{Row, cell, row_at, rows_from, row_count, rows_of}
use Rattle.model.specs.Rules.{Seen, start, fault, after}
use Rattle.model.specs.Blocks.{Block, add_row, add_rows, blocks_of, last_block}
use Rattle.model.specs.Verdicts.{check_rows, verdict, Accepted}
use Rattle.shows.specs.Accepted.{Show}
use Rattle.shows.proofs.Passed.{faultless, Kind, opens, links, uses, kind-of}
use Rattle.shows.proofs.Tracks.{Tracks, tracks_start, tracks_step}
use Rattle.shows.proofs.Accepted.{not-accepted, opening-length, other_length, passes, accepted-show}

eight : (xs : List ℕ) (r : ℕ) → length (row_at xs r).columns ≡ 8
unfolding row_at
eight xs r = refl

block-cell : (xs : List ℕ) (r : ℕ) → (row_at xs r).block ≡ cell xs r 0
unfolding row_at
block-cell xs r = refl

-- A row that passes belongs to the last of the blocks opened so far, or opens it.
row_block : (s : Seen) (w : Row) (bs : List Block) → fault s w ≡ 0 → Tracks s bs → w.block + 1 ≡ length (add_row bs w)
row_block s w bs f t = go (kind-of s w (faultless s w f).follows)
  where
    go : Kind s w → w.block + 1 ≡ length (add_row bs w)
    go (opens q h few) = omega (arith, h, t.count, opening-length bs w q)
    go (links q h) = omega (arith, h, t.count, other_length bs w (λ z. omega arith))
    go (uses q h) = omega (arith, h, t.count, other_length bs w (λ z. omega arith))

last_of : (xs : List ℕ) (n r place : ℕ) (s : Seen) (bs : List Block) → check_rows s place (rows_from xs r (suc n)) ≡ Accepted → Tracks s bs
    → cell xs (r + n) 0 + 1 ≡ length (add_rows bs (rows_from xs r (suc n)))
unfolding rows_from check_rows add_rows
last_of xs zero r place s bs e t = go (fault s (row_at xs r)) refl
  where
    go : (k : ℕ) → fault s (row_at xs r) ≡ k → cell xs (r + 0) 0 + 1 ≡ length (add_row bs (row_at xs r))
    go zero f =
        let z : r + 0 ≡ r = omega arith in
        rw (z, ← block-cell xs r) (row_block s (row_at xs r) bs f t)
    go (suc k) f = absurd (not-accepted (suc k) place (rw (f, check_rows) at e))
last_of xs (suc n) r place s bs e t = go (λ s bs e t. last_of xs n (r + 1) (suc place) s bs e t) (fault s (row_at xs r)) refl
  where
    go : ((s : Seen) (bs : List Block) → check_rows s (suc place) (rows_from xs (r + 1) (suc n)) ≡ Accepted → Tracks s bs
        → cell xs (r + 1 + n) 0 + 1 ≡ length (add_rows bs (rows_from xs (r + 1) (suc n))))
        → (k : ℕ) → fault s (row_at xs r) ≡ k
        → cell xs (r + suc n) 0 + 1 ≡ length (add_rows (add_row bs (row_at xs r)) (rows_from xs (r + 1) (suc n)))
    go below zero f =
        let z : r + suc n ≡ r + 1 + n = omega arith in
        rw z (below (after s (row_at xs r)) (add_row bs (row_at xs r)) (rw (f, check_rows) at e) (tracks_step s (row_at xs r) bs (eight xs r) f t))
    go below (suc k) f = absurd (not-accepted (suc k) place (rw (f, check_rows) at e))

pub last_row : (xs : List ℕ) → verdict xs ≡ Accepted → cell xs (row_count xs - 1) 0 ≡ last_block (blocks_of xs)
unfolding last_block blocks_of rows_of
last_row xs ok =
    let show : Show xs = accepted-show xs ok in
    let n : row_count xs ≡ suc (row_count xs - 1) = omega (arith, show.rows) in
    let e : check_rows start 1 (rows_from xs 0 (suc (row_count xs - 1))) ≡ Accepted = rw n at (passes xs ok).rows in
    let z : 0 + (row_count xs - 1) ≡ row_count xs - 1 = omega arith in
    let q : cell xs (row_count xs - 1) 0 + 1 ≡ length (add_rows [] (rows_from xs 0 (row_count xs))) =
    rw (z, ← n) at (last_of xs (row_count xs - 1) 0 1 start [] e tracks_start) in
    omega (arith, q)
