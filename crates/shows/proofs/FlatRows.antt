-- Rows: numbers whose count is a multiple of eleven are the values of their rows, one row after the other.
use Prim.Native.Nat.{ℕ, zero, suc, ◌+◌, ◌*◌, ◌/◌, ◌%◌}
use mathlib.Core.Path.{◌≡◌, refl, ◌∙◌, ap}
use mathlib.Core.List.{List, [], ◌∷◌, ◌++◌}
use native.Mathlib.Omega.{arith}
use lib.ListN.{length, get_or, take, drop, length-append, length-drop, take-append-drop}
use lib.Seq.{length-take-le, get_or-append-add}
use Rattle.model.specs.Limits.{row_size}
use Rattle.shows.specs.Files.{Rowed, none, row}
use Rattle.model.specs.Rows.{Row, cell, row_at, rows_from, row_count, rows_of, row_values}

-- A multiple of eleven is rows.
pub rowed : (xs : List ℕ) → length xs % row_size ≡ 0 → Rowed xs
rowed xs e = go (length xs / row_size) xs (omega arith)
  where
    go : (n : ℕ) (ys : List ℕ) → length ys ≡ n * row_size → Rowed ys
    go zero [] h = none
    go zero (y ∷ ys) h = absurd (omega arith)
    go (suc n) ys h =
        let e : take row_size ys ++ drop row_size ys ≡ ys = take-append-drop row_size ys in
        let later : Rowed (drop row_size ys) = go n (drop row_size ys) (rw (length-drop row_size ys) (omega arith)) in
        rw e at (row (take row_size ys) (drop row_size ys) (length-take-le row_size ys (omega arith)) later)

-- How many numbers rows have.
pub rowed_length : {xs : List ℕ} → Rowed xs → length xs ≡ row_count xs * row_size
unfolding row_count
rowed_length none = refl
rowed_length (row vs xs e r) = rw (length-append vs xs) (omega (arith, rowed_length r))

-- Behind eleven numbers, everything stands a row later.
cell-later : (vs xs : List ℕ) (r c : ℕ) → length vs ≡ row_size → cell (vs ++ xs) (r + 1) c ≡ cell xs r c
unfolding cell
cell-later vs xs r c e =
    let k : (r + 1) * row_size + c ≡ length vs + (r * row_size + c) = omega arith in
    rw k (get_or-append-add vs xs (r * row_size + c) 0)

row_at_later : (vs xs : List ℕ) (r : ℕ) → length vs ≡ row_size → row_at (vs ++ xs) (r + 1) ≡ row_at xs r
unfolding row_at
row_at_later vs xs r e = simp (cell-later vs xs, e)

rows_from_later : (vs xs : List ℕ) (r n : ℕ) → length vs ≡ row_size → rows_from (vs ++ xs) (r + 1) n ≡ rows_from xs r n
unfolding rows_from
rows_from_later vs xs r zero e = refl
rows_from_later vs xs r (suc n) e = rw (row_at_later vs xs r e, rows_from_later vs xs (r + 1) n e)

-- The numbers at some places on.
cells : List ℕ → ℕ → ℕ → List ℕ
cells xs i zero = []
cells xs i (suc n) = get_or xs i 0 ∷ cells xs (suc i) n

-- A number in front moves them by one, and all places of a list give the list.
cells-later : (x : ℕ) (xs : List ℕ) (i n : ℕ) → cells (x ∷ xs) (suc i) n ≡ cells xs i n
unfolding cells
cells-later x xs i zero = refl
cells-later x xs i (suc n) = ap (λ (r : List ℕ). get_or xs i 0 ∷ r) (cells-later x xs (suc i) n)

cells-all : (vs xs : List ℕ) → cells (vs ++ xs) 0 (length vs) ≡ vs
unfolding cells
cells-all [] xs = refl
cells-all (v ∷ vs) xs = ap (λ (r : List ℕ). v ∷ r) (cells-later v (vs ++ xs) 0 (length vs) ∙ cells-all vs xs)

-- The first eleven numbers are the first row's values.
pub first-values : (vs xs : List ℕ) → length vs ≡ row_size → row_values (row_at (vs ++ xs) 0) ≡ vs
unfolding row_values row_at cell cells
first-values vs xs e = let k : cells (vs ++ xs) 0 (length vs) ≡ vs = cells-all vs xs in rw e at k

-- The rows behind the first are those of the other numbers.
pub rows-first : (vs xs : List ℕ) → length vs ≡ row_size → rows_of (vs ++ xs) ≡ row_at (vs ++ xs) 0 ∷ rows_of xs
unfolding rows_of rows_from row_count
rows-first vs xs e =
    let k : length (vs ++ xs) / row_size ≡ suc (length xs / row_size) = rw (length-append vs xs) (omega arith) in
    rw k (ap (λ (r : List Row). row_at (vs ++ xs) 0 ∷ r) (rows_from_later vs xs 0 (length xs / row_size) e))
