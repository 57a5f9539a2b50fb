-- How many blocks are opened before a row, which rows may come there, and which row opens a block.
use Prim.Native.Nat.{ℕ, zero, suc, ◌+◌, ◌-◌, ◌≤◌, ◌<◌}
use native.Mathlib.Omega.{arith}
use native.Mathlib.Decide.{ℕ_discrete}
use mathlib.Core.Path.{◌≡◌, ◌∙◌}
use mathlib.Core.Logic.{◌⊎◌, inl, inr, ◌≢◌}
use mathlib.Core.List.{List, ◌∷◌}
use Rattle.model.specs.Rows.{Row, row_at, rows_from, row_count, rows_of}
use Rattle.basics.proofs.Choices.{eq_then, eq_else}
use Rattle.demands.specs.Acceptance.{nth_row, IsRow, Opens, Links, Uses, opening_in, Follows, next-block, next-link, next-use, InPlace}

-- k blocks are opened before row p.
abbrev pub OpenedBefore : List ℕ → ℕ → ℕ → Type 0
OpenedBefore xs p k = (p ≡ 1 → k ≡ 0) × (1 < p → k ≡ suc (nth_row xs (p - 1)).block)

-- What row p may be then.
pub data Comes (xs : List ℕ) (p k : ℕ) : Type 0 where
  opening : Opens (nth_row xs p) → (nth_row xs p).block ≡ k → Comes xs p k
  link : Links (nth_row xs p) → (nth_row xs p).block + 1 ≡ k → 1 < p → (nth_row xs (p - 1)).kind < 2 → Comes xs p k
  later-use : Uses (nth_row xs p) → (nth_row xs p).block + 1 ≡ k → 1 < p → Comes xs p k

-- A kind below 2.
opens-or_links : (v : Row) → v.kind < 2 → Opens v ⊎ Links v
opens-or_links v h = go (ℕ_discrete v.kind 0)
  where
    go : Dec (v.kind ≡ 0) → Opens v ⊎ Links v
    go (yes e) = inl e
    go (no n) = inr (omega arith)

small-kind : (v : Row) → Opens v ⊎ Links v → v.kind < 2
small-kind v (inl e) = omega arith
small-kind v (inr e) = omega arith

module _ (xs : List ℕ) (p k : ℕ) (low : 1 ≤ p) (o : OpenedBefore xs p k) where
  -- That is what the sentence says.
  pub to-place : Comes xs p k → InPlace xs p
  to-place (opening q h) =
      (λ e. record { opens = q; block = h ∙ o.0 e }, λ l. next-block q (h ∙ o.1 l))
  to-place (link q h l m) =
      (λ e. absurd (omega arith), λ l. next-link q (omega (arith, o.1 l)) (opens-or_links (nth_row xs (p - 1)) m))
  to-place (later-use q h l) = (λ e. absurd (omega arith), λ l. next-use q (omega (arith, o.1 l)))

  -- And back.
  pub from_place : InPlace xs p → Comes xs p k
  from_place h = go (ℕ_discrete p 1)
    where
      behind : 1 < p → Follows (nth_row xs (p - 1)) (nth_row xs p) → Comes xs p k
      behind l (next-block q e) = opening q (omega (arith, o.1 l))
      behind l (next-link q e m) = link q (omega (arith, o.1 l)) l (small-kind (nth_row xs (p - 1)) m)
      behind l (next-use q e) = later-use q (omega (arith, o.1 l)) l

      go : Dec (p ≡ 1) → Comes xs p k
      go (yes e) = opening (h.0 e).opens (omega (arith, (h.0 e).block, o.0 e))
      go (no n) = behind (omega arith) (h.1 (omega arith))

-- How many are opened before the next row.
pub opened-next : (xs : List ℕ) (p k : ℕ) → 1 ≤ p → k ≡ suc (nth_row xs p).block → OpenedBefore xs (suc p) k
opened-next xs p k low h = let e : suc p - 1 ≡ p = omega arith in (λ z. absurd (omega arith), λ l. rw e h)

-- The row that opens a block is the first of kind 0 that has its number.
opening-from : (xs : List ℕ) (n r q k : ℕ) → r ≤ q → q < r + n → Opens (row_at xs q) → (row_at xs q).block ≡ k
    → ((j : ℕ) → r ≤ j → j < q → Opens (row_at xs j) → (row_at xs j).block ≢ k)
    → opening_in (rows_from xs r n) k ≡ row_at xs q
unfolding rows_from opening_in
opening-from xs zero r q k a b o e others = absurd (omega arith)
opening-from xs (suc n) r q k a b o e others = go (λ a b others. opening-from xs n (r + 1) q k a b o e others) (ℕ_discrete r q)
  where
    go : (r + 1 ≤ q → q < r + 1 + n → ((j : ℕ) → r + 1 ≤ j → j < q → Opens (row_at xs j) → (row_at xs j).block ≢ k)
        → opening_in (rows_from xs (r + 1) n) k ≡ row_at xs q)
        → Dec (r ≡ q) → opening_in (row_at xs r ∷ rows_from xs (r + 1) n) k ≡ row_at xs q
    go below (yes h) = rw h (rw (eq_then (row_at xs q).kind 0 _ _ o, eq_then (row_at xs q).block k _ _ e))
    go below (no h) = skip (below (omega arith) (omega arith) (λ j c d. others j (omega arith) d)) (ℕ_discrete (row_at xs r).kind 0)
      where
        skip : opening_in (rows_from xs (r + 1) n) k ≡ row_at xs q → Dec ((row_at xs r).kind ≡ 0)
            → opening_in (row_at xs r ∷ rows_from xs (r + 1) n) k ≡ row_at xs q
        skip rest (yes z) =
            rw (eq_then (row_at xs r).kind 0 _ _ z, eq_else (row_at xs r).block k _ _ (others r (omega arith) (omega arith) z)) rest
        skip rest (no z) = rw (eq_else (row_at xs r).kind 0 _ _ z) rest

-- The same of all rows.
pub opening-row : (xs : List ℕ) (p k : ℕ) → IsRow xs p → Opens (nth_row xs p) → (nth_row xs p).block ≡ k
    → ((q : ℕ) → 1 ≤ q → q < p → Opens (nth_row xs q) → (nth_row xs q).block ≢ k)
    → opening_in (rows_of xs) k ≡ nth_row xs p
unfolding rows_of
opening-row xs p k i o e others = opening-from xs (row_count xs) 0 (p - 1) k (omega arith) (omega arith) o e (λ j a b. at j b)
  where
    at : (j : ℕ) → j < p - 1 → Opens (row_at xs j) → (row_at xs j).block ≢ k
    at j b = let e : suc j - 1 ≡ j = omega arith in rw e at (others (suc j) (omega arith) (omega arith))
