-- Which check refused some rows, and on which rows the refusal's place can fall.
use Prim.Native.Nat.{ℕ, zero, suc, ◌+◌, ◌%◌, ◌≤◌, ◌<◌}
use native.Mathlib.Omega.{arith}
use native.Mathlib.Decide.{ℕ_discrete, dec_lt}
use mathlib.Core.Path.{◌≡◌, refl, ap}
use mathlib.Core.Bool.{Bool, true, false}
use mathlib.Core.Logic.{◌⊎◌, inl, inr}
use mathlib.Core.List.{List, [], ◌∷◌}
use lib.ListN.{length}
use Rattle.std.specs.Prelude.{Ok, Err}
use Rattle.model.specs.Limits.{row_size, max_rows}
use Rattle.model.specs.Rows.{Row, rows_from, row_count, rows_of}
use Rattle.model.specs.Rules.{Seen, start, fault, after}
use Rattle.model.specs.Blocks.{blocks_of}
use Rattle.model.specs.Verdicts.{refusal, refused, and_then, check_length, check_rows, opening_rows, check_blocks, may_stand, total_fits, verdict, Verdict, Accepted}
use Rattle.model.specs.declared.Refusal.{Refusal}
use Rattle.basics.proofs.Choices.{eq_then, eq_else, lt_then, lt_else}
use Rattle.shows.proofs.Accepted.{counted}

not-refused : (f : Refusal) → Accepted ≡ Err f → ⊥
not-refused f e = let z : ◌≡◌ {A = ℕ} 0 1 = cc in omega arith

said : (n p : ℕ) (f : Refusal) → refused n p ≡ Err f → (f.number ≡ n) × (f.place ≡ p)
unfolding refused refusal
said n p f e = (cc, cc)

-- Which of two checks refused.
pub which : (v w : Verdict) (f : Refusal) → and_then v w ≡ Err f → (v ≡ Err f) ⊎ ((v ≡ Accepted) × (w ≡ Err f))
unfolding and_then
which (Ok _) w f e = inr (refl, e)
which (Err r) w f e = inl e

-- Check 4 has one refusal.
length-refuses : (xs : List ℕ) (f : Refusal) → check_length xs ≡ Err f → (f.number ≡ 4) × (f.place ≡ 0)
unfolding check_length
length-refuses xs f e = go (ℕ_discrete (length xs % row_size) 0) (dec_lt (row_count xs) 1) (dec_lt max_rows (row_count xs))
  where
    four : refused 4 0 ≡ Err f → (f.number ≡ 4) × (f.place ≡ 0)
    four q = said 4 0 f q

    go : Dec (length xs % row_size ≡ 0) → Dec (row_count xs < 1) → Dec (max_rows < row_count xs) → (f.number ≡ 4) × (f.place ≡ 0)
    go (no a) b c = four (rw (eq_else (length xs % row_size) 0 _ _ a) at e)
    go (yes a) (yes b) c = four (rw (eq_then (length xs % row_size) 0 _ _ a, lt_then (row_count xs) 1 _ _ b) at e)
    go (yes a) (no b) (yes c) =
        four (rw (eq_then (length xs % row_size) 0 _ _ a, lt_else (row_count xs) 1 _ _ (omega arith), lt_then max_rows (row_count xs) _ _ c) at e)
    go (yes a) (no b) (no c) =
        absurd (not-refused f (rw (eq_then (length xs % row_size) 0 _ _ a, lt_else (row_count xs) 1 _ _ (omega arith), lt_else max_rows (row_count xs) _ _ (omega arith)) at e))

-- A refusal of rows is one of check 4, of a row, or of a block; before it all checks passed.
pub data Refuser (xs : List ℕ) (f : Refusal) : Type 0 where
  by_length : f.number ≡ 4 → f.place ≡ 0 → Refuser xs f
  by_row : check_length xs ≡ Accepted → check_rows start 1 (rows_of xs) ≡ Err f → Refuser xs f
  by_end : check_length xs ≡ Accepted → check_blocks 9 (may_stand (blocks_of xs)) 0 (opening_rows 1 (rows_of xs)) ≡ Err f → Refuser xs f
  by_total : check_length xs ≡ Accepted → check_blocks 10 (total_fits (blocks_of xs)) 0 (opening_rows 1 (rows_of xs)) ≡ Err f → Refuser xs f

pub refuser : (xs : List ℕ) (f : Refusal) → verdict xs ≡ Err f → Refuser xs f
unfolding verdict
refuser xs f e = first (which (check_length xs) _ f e)
  where
    ends : Verdict
    ends = check_blocks 9 (may_stand (blocks_of xs)) 0 (opening_rows 1 (rows_of xs))

    totals : Verdict
    totals = check_blocks 10 (total_fits (blocks_of xs)) 0 (opening_rows 1 (rows_of xs))

    third : check_length xs ≡ Accepted → (ends ≡ Err f) ⊎ ((ends ≡ Accepted) × (totals ≡ Err f)) → Refuser xs f
    third h (inl q) = by_end h q
    third h (inr q) = by_total h q.1

    second : check_length xs ≡ Accepted
        → (check_rows start 1 (rows_of xs) ≡ Err f) ⊎ ((check_rows start 1 (rows_of xs) ≡ Accepted) × (and_then ends totals ≡ Err f)) → Refuser xs f
    second h (inl q) = by_row h q
    second h (inr q) = third h (which ends totals f q.1)

    first : (check_length xs ≡ Err f) ⊎ ((check_length xs ≡ Accepted) × (and_then (check_rows start 1 (rows_of xs)) (and_then ends totals) ≡ Err f)) → Refuser xs f
    first (inl q) = let (n, p) = length-refuses xs f q in by_length n p
    first (inr q) = second q.0 (which (check_rows start 1 (rows_of xs)) (and_then ends totals) f q.1)

-- The place lies among the rows that are checked, the first of which is row r.
abbrev pub Among : ℕ → List Row → Refusal → Type 0
Among r ws f = (r ≤ f.place) × (f.place < r + length ws)

later : (r : ℕ) (w : Row) (ws : List Row) (f : Refusal) → Among (suc r) ws f → Among r (w ∷ ws) f
later r w ws f h = (omega (arith, h.0), omega (arith, h.1))

here : (n r : ℕ) (w : Row) (ws : List Row) (f : Refusal) → refused n r ≡ Err f → Among r (w ∷ ws) f
here n r w ws f e = let p : f.place ≡ r = (said n r f e).1 in (omega arith, omega arith)

pub rows-place : (s : Seen) (r : ℕ) (ws : List Row) (f : Refusal) → check_rows s r ws ≡ Err f → Among r ws f
unfolding check_rows
rows-place s r [] f e = absurd (not-refused f e)
rows-place s r (w ∷ ws) f e = go (λ e. rows-place (after s w) (suc r) ws f e) (fault s w) refl
  where
    go : (check_rows (after s w) (suc r) ws ≡ Err f → Among (suc r) ws f) → (k : ℕ) → fault s w ≡ k → Among r (w ∷ ws) f
    go below zero q = later r w ws f (below (rw (q, check_rows) at e))
    go below (suc k) q = here (suc k) r w ws f (rw (q, check_rows) at e)

pub blocks-place : (number : ℕ) (ok : ℕ → Bool) (k r : ℕ) (ws : List Row) (f : Refusal) → check_blocks number ok k (opening_rows r ws) ≡ Err f → Among r ws f
unfolding check_blocks opening_rows
blocks-place number ok k r [] f e = absurd (not-refused f e)
blocks-place number ok k r (w ∷ ws) f e = go (λ k e. blocks-place number ok k (suc r) ws f e) (ℕ_discrete w.kind 0) (ok k) refl
  where
    go : ((k : ℕ) → check_blocks number ok k (opening_rows (suc r) ws) ≡ Err f → Among (suc r) ws f)
        → Dec (w.kind ≡ 0) → (b : Bool) → ok k ≡ b → Among r (w ∷ ws) f
    go below (no n) b q = later r w ws f (below k (rw (eq_else w.kind 0 _ _ n) at e))
    go below (yes h) true q = later r w ws f (below (suc k) (rw (q, check_blocks) at (rw (eq_then w.kind 0 _ _ h) at e)))
    go below (yes h) false q = here number r w ws f (rw (q, check_blocks) at (rw (eq_then w.kind 0 _ _ h) at e))

pub rows-length : (xs : List ℕ) (r n : ℕ) → length (rows_from xs r n) ≡ n
unfolding rows_from
rows-length xs r zero = refl
rows-length xs r (suc n) = ap suc (rows-length xs (r + 1) n)

pub all-rows : (xs : List ℕ) → length (rows_of xs) ≡ row_count xs
unfolding rows_of
all-rows xs = rows-length xs 0 (row_count xs)

-- So a place is at most the number of rows, and at most 1,024.
pub place-most : (xs : List ℕ) (f : Refusal) → verdict xs ≡ Err f → (f.place ≤ row_count xs) × (f.place ≤ max_rows)
place-most xs f e = go (refuser xs f e)
  where
    among : check_length xs ≡ Accepted → Among 1 (rows_of xs) f → (f.place ≤ row_count xs) × (f.place ≤ max_rows)
    among h a = let few : row_count xs ≤ max_rows = (counted xs h).2 in (omega (arith, a.1, all-rows xs), omega (arith, a.1, all-rows xs))

    go : Refuser xs f → (f.place ≤ row_count xs) × (f.place ≤ max_rows)
    go (by_length n p) = (omega arith, omega arith)
    go (by_row h q) = among h (rows-place start 1 (rows_of xs) f q)
    go (by_end h q) = among h (blocks-place 9 (may_stand (blocks_of xs)) 0 1 (rows_of xs) f q)
    go (by_total h q) = among h (blocks-place 10 (total_fits (blocks_of xs)) 0 1 (rows_of xs) f q)

pub place-few : (xs : List ℕ) (f : Refusal) → verdict xs ≡ Err f → f.place ≤ max_rows
place-few xs f e = (place-most xs f e).1
