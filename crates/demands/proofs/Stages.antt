-- The checks run in four stages: the length, the rows, the blocks' ends, their totals. What a stage that has come to a place can say of
-- the places from there on, and how a law goes from row to row.
use Prim.Native.Nat.{ℕ, zero, suc, ◌+◌, ◌-◌, ◌≤◌, ◌<◌}
use native.Mathlib.Omega.{arith}
use native.Mathlib.Decide.{ℕ_discrete}
use mathlib.Core.Path.{◌≡◌, refl, sym, ◌∙◌, ap}
use mathlib.Core.Logic.{◌⊎◌, inl, inr}
use mathlib.Core.List.{List, [], ◌∷◌}
use Rattle.model.specs.Choice.{if_eq}
use Rattle.model.specs.Rows.{Row, rows_from, row_count, rows_of}
use Rattle.model.specs.Verdicts.{refused, Verdict, Accepted}
use Rattle.demands.specs.Acceptance.{
  nth_row,
  IsRow,
  Check,
  Length,
  Sequence,
  Ranges,
  Repeats,
  Order,
  Ends,
  Totals,
  refusal_number,
  LooksAt,
  Keeps,
  turn,
}

-- The numbers of the checks.
pub record Numbers (number stage : ℕ) : Type 0 where
  pub low : 4 ≤ number
  pub high : number ≤ 10
  pub few : stage < 4
  pub first : stage ≡ 0 → number ≡ 4
  pub rows : stage ≡ 1 → (5 ≤ number) × (number ≤ 8)
  pub third : stage ≡ 2 → number ≡ 9
  pub last : stage ≡ 3 → number ≡ 10

-- Those of each check.
pub numbers : (c : Check) → Numbers (refusal_number c) (turn c)
unfolding refusal_number turn
numbers Length = omega arith
numbers Sequence = omega arith
numbers Ranges = omega arith
numbers Repeats = omega arith
numbers Order = omega arith
numbers Ends = omega arith
numbers Totals = omega arith

-- A check by its number.
numbered : ℕ → Check
numbered n = if_eq n 4 Length (if_eq n 5 Sequence (if_eq n 6 Ranges (if_eq n 7 Repeats (if_eq n 8 Order (if_eq n 9 Ends Totals)))))

-- It is the check that has it,
numbered_is : (c : Check) → numbered (refusal_number c) ≡ c
unfolding numbered refusal_number if_eq
numbered_is Length = refl
numbered_is Sequence = refl
numbered_is Ranges = refl
numbered_is Repeats = refl
numbered_is Order = refl
numbered_is Ends = refl
numbered_is Totals = refl

-- so there is one of each number.
pub same_check : (c d : Check) → refusal_number c ≡ refusal_number d → c ≡ d
same_check c d e = sym (numbered_is c) ∙ ap numbered e ∙ numbered_is d

-- All but the first look at rows.
pub looks-at_row : (xs : List ℕ) (c : Check) (p : ℕ) → 1 ≤ turn c → LooksAt xs c p → IsRow xs p
unfolding turn
looks-at_row xs Length p h l = absurd (omega arith)
looks-at_row xs Sequence p h l = l
looks-at_row xs Ranges p h l = l
looks-at_row xs Repeats p h l = l
looks-at_row xs Order p h l = l
looks-at_row xs Ends p h l = l.0
looks-at_row xs Totals p h l = l.0

-- What stage t, come to place p, says by its verdict v: all is kept from there on, or what is broken first.
pub data Stage (xs : List ℕ) (t p : ℕ) (v : Verdict) : Type 0 where
  passes : v ≡ Accepted → ((c : Check) (q : ℕ) → turn c ≡ t → p ≤ q → LooksAt xs c q → Keeps xs c q) → Stage xs t p v
  fails : (c : Check) (q : ℕ) → v ≡ refused (refusal_number c) q → turn c ≡ t → LooksAt xs c q → (Keeps xs c q → ⊥)
      → ((d : Check) (o : ℕ) → turn d ≡ t → p ≤ o → LooksAt xs d o → (o < q) ⊎ ((o ≡ q) × (refusal_number d < refusal_number c)) → Keeps xs d o)
      → Stage xs t p v

module _ (xs : List ℕ) (t p : ℕ) (v : Verdict) where
  -- Behind the last row.
  pub at-end : 1 ≤ t → row_count xs < p → v ≡ Accepted → Stage xs t p v
  at-end a b e = passes e (λ c q h l k. absurd (behind c q h l k))
    where
      behind : (c : Check) (q : ℕ) → turn c ≡ t → p ≤ q → LooksAt xs c q → ⊥
      behind c q h l k = omega (arith, looks-at_row xs c q (omega arith) k)

  -- A place at which all is kept.
  pub go_on : ((c : Check) → turn c ≡ t → LooksAt xs c p → Keeps xs c p) → Stage xs t (suc p) v → Stage xs t p v
  go_on kept (passes e f) = passes e (λ c q h l k. at c q h l k (ℕ_discrete q p))
    where
      at : (c : Check) (q : ℕ) → turn c ≡ t → p ≤ q → LooksAt xs c q → Dec (q ≡ p) → Keeps xs c q
      at c q h l k (yes o) = rw o (kept c h (rw o at k))
      at c q h l k (no o) = f c q h (omega arith) k
  go_on kept (fails c q e h l n f) = fails c q e h l n (λ d o z m k b. at d o z m k b (ℕ_discrete o p))
    where
      at : (d : Check) (o : ℕ) → turn d ≡ t → p ≤ o → LooksAt xs d o → (o < q) ⊎ ((o ≡ q) × (refusal_number d < refusal_number c))
          → Dec (o ≡ p) → Keeps xs d o
      at d o z m k b (yes x) = rw x (kept d z (rw x at k))
      at d o z m k b (no x) = f d o z (omega arith) k b

  -- A place at which a check fails, and those before it don't.
  pub stop : (c : Check) → v ≡ refused (refusal_number c) p → turn c ≡ t → LooksAt xs c p → (Keeps xs c p → ⊥)
      → ((d : Check) → turn d ≡ t → refusal_number d < refusal_number c → Keeps xs d p) → Stage xs t p v
  stop c e h l n f = fails c p e h l n (λ d o z m k b. at d o z m b)
    where
      at : (d : Check) (o : ℕ) → turn d ≡ t → p ≤ o → (o < p) ⊎ ((o ≡ p) × (refusal_number d < refusal_number c)) → Keeps xs d o
      at d o z m (inl b) = absurd (omega arith)
      at d o z m (inr b) = rw b.0 (f d z b.1)

-- What holds behind the last row, and of the rows from each row on if it holds of those behind it, holds of all rows.
module _ (xs : List ℕ) (P : ℕ → List Row → Type 0) (end : P (suc (row_count xs)) [])
    (step : (p : ℕ) (ws : List Row) → IsRow xs p → P (suc p) ws → P p (nth_row xs p ∷ ws)) where
  -- One row more, and none.
  one_more_is : (p n : ℕ) → IsRow xs p → P (suc p) (rows_from xs (suc p - 1) n) → P p (rows_from xs (p - 1) (suc n))
  unfolding rows_from
  one_more_is p n i h = let e : p - 1 + 1 ≡ suc p - 1 = omega arith in rw e (step p (rows_from xs (suc p - 1) n) i h)

  none_more : (p : ℕ) → p ≡ suc (row_count xs) → P p (rows_from xs (p - 1) 0)
  unfolding rows_from
  none_more p e = rw e end

  -- The n rows from row p on, and all.
  from_row : (n p : ℕ) → 1 ≤ p → p + n ≡ suc (row_count xs) → P p (rows_from xs (p - 1) n)
  from_row zero p a e = none_more p (omega arith)
  from_row (suc n) p a e = one_more_is p n (omega arith) (from_row n (suc p) (omega arith) (omega arith))

  pub by_rows : P 1 (rows_of xs)
  unfolding rows_of
  by_rows = from_row (row_count xs) 1 (omega arith) (omega arith)
