-- Checks 5 to 8 of a row in their order, and of all rows.
use Prim.Native.Nat.{ℕ, zero, suc, ◌≤◌, ◌<◌}
use native.Mathlib.Omega.{arith}
use native.Mathlib.Decide.{ℕ_discrete}
use mathlib.Core.Path.{◌≡◌, refl, sym, ◌∙◌}
use mathlib.Core.Bool.{Bool, true, false}
use mathlib.Core.Logic.{◌⊎◌, inl, inr}
use mathlib.Core.List.{List, [], ◌∷◌}
use lib.ListN.{length}
use Rattle.model.specs.Choice.{if_true}
use Rattle.model.specs.Rows.{Row, row_count, rows_of}
use Rattle.model.specs.Rules.{Seen, start, may_follow, named, in_range, distinct, in_order, fault, after}
use Rattle.model.specs.Blocks.{Block, add_row, add_rows, blocks_of}
use Rattle.model.specs.Verdicts.{refused, check_rows, Accepted}
use Rattle.basics.proofs.Choices.{true_then, true_else}
use Rattle.shows.proofs.Accepted.{not-accepted}
use Rattle.demands.specs.Acceptance.{nth_row, IsRow, Uses, InPlace, Check, LooksAt, Keeps, refusal_number, turn}
use Rattle.demands.specs.Acceptance.{Length, Sequence, Ranges, Repeats, Order, Ends, Totals}
use Rattle.demands.proofs.Tests.{Says, decided}
use Rattle.demands.proofs.Openings.{Comes, from_place}
use Rattle.demands.proofs.Knows.{Knows, knows_start, knows-next}
use Rattle.demands.proofs.Following.{sequence}
use Rattle.demands.proofs.Sentences.{ranges, repeats, order}
use Rattle.demands.proofs.Stages.{numbers, same_check, Stage, passes, fails, at-end, go_on, stop, by_rows}

-- The checks of a row with numbers below n find nothing.
abbrev KeptBelow : List ℕ → ℕ → ℕ → Type 0
KeptBelow xs p n = (d : Check) → turn d ≡ 1 → refusal_number d < n → Keeps xs d p

-- What the number that is given for a row says: 0, or the first check that fails.
data RowSays (xs : List ℕ) (p n : ℕ) : Type 0 where
  kept : n ≡ 0 → ((c : Check) → turn c ≡ 1 → Keeps xs c p) → RowSays xs p n
  broken : (c : Check) → n ≡ refusal_number c → turn c ≡ 1 → (Keeps xs c p → ⊥) → KeptBelow xs p (refusal_number c) → RowSays xs p n

-- One test, behind those before it.
tested : (xs : List ℕ) (p : ℕ) (c : Check) (t : Bool) (x : ℕ) → turn c ≡ 1 → Says t (Keeps xs c p) → KeptBelow xs p (refusal_number c)
    → (KeptBelow xs p (suc (refusal_number c)) → Keeps xs c p → RowSays xs p x) → RowSays xs p (if_true t x (refusal_number c))
tested xs p c t x h s b next = go (decided t s)
  where
    more : Keeps xs c p → KeptBelow xs p (suc (refusal_number c))
    more k d z l = at (ℕ_discrete (refusal_number d) (refusal_number c))
      where
        at : Dec (refusal_number d ≡ refusal_number c) → Keeps xs d p
        at (yes e) = rw (same_check d c e) k
        at (no n) = b d z (omega arith)

    go : ((t ≡ true) × Keeps xs c p) ⊎ ((t ≡ false) × (Keeps xs c p → ⊥)) → RowSays xs p (if_true t x (refusal_number c))
    go (inl (e, k)) = rw (true_then t x (refusal_number c) e) (next (more k) k)
    go (inr (e, n)) = broken c (true_else t x (refusal_number c) e) h n b

module _ (xs : List ℕ) (p : ℕ) (s : Seen) (bs : List Block) (i : IsRow xs p) (k : Knows xs p s bs) where
  -- The four tests of a row.
  row-says : RowSays xs p (fault s (nth_row xs p))
  unfolding fault refusal_number turn
  row-says =
      tested xs p Sequence (may_follow s w) _ refl (sequence xs p s bs i k) (λ d z l. absurd (omega (arith, (numbers d).rows z)))
      (λ b₁ k₁. tested xs p Ranges (in_range s w) _ refl (ranges xs p s bs k (comes k₁)) b₁
      (λ b₂ k₂. tested xs p Repeats (distinct (named s w)) _ refl (repeats xs p s bs k (comes k₁) k₂) b₂
      (λ b₃ k₃. tested xs p Order (in_order s.before w) _ refl (order xs p s bs k (comes k₁)) b₃
      (λ b₄ k₄. kept refl (λ d z. b₄ d z (omega (arith, (numbers d).rows z)))))))
    where
      w : Row
      w = nth_row xs p

      comes : Keeps xs Sequence p → Comes xs p (length s.joins)
      comes h = from_place xs p (length s.joins) i.0 k.count h.0

-- They look at every row.
row-looks : (xs : List ℕ) (p : ℕ) (c : Check) → turn c ≡ 1 → IsRow xs p → LooksAt xs c p
unfolding turn
row-looks xs p Length h i = absurd (omega arith)
row-looks xs p Sequence h i = i
row-looks xs p Ranges h i = i
row-looks xs p Repeats h i = i
row-looks xs p Order h i = i
row-looks xs p Ends h i = absurd (omega arith)
row-looks xs p Totals h i = absurd (omega arith)

-- The check of a row that passes goes on, that of one that fails ends.
row-passes : (s : Seen) (p : ℕ) (w : Row) (ws : List Row) → fault s w ≡ 0 → check_rows s p (w ∷ ws) ≡ check_rows (after s w) (suc p) ws
unfolding check_rows
row-passes s p w ws f = rw (f, check_rows)

row-fails : (s : Seen) (p : ℕ) (w : Row) (ws : List Row) (n : ℕ) → 0 < n → fault s w ≡ n → check_rows s p (w ∷ ws) ≡ refused n p
unfolding check_rows
row-fails s p w ws zero h f = absurd (omega arith)
row-fails s p w ws (suc n) h f = rw (f, check_rows)

-- What the checks of the rows from row p on say; and if nothing, what is known at the end.
pub record RowsSay (xs : List ℕ) (s : Seen) (bs : List Block) (p : ℕ) (ws : List Row) : Type 0 where
  pub stage : Stage xs 1 p (check_rows s p ws)
  known : check_rows s p ws ≡ Accepted → (t : Seen) × Knows xs (suc (row_count xs)) t (add_rows bs ws)

-- Of row p and those behind it.
row_first : (xs : List ℕ) (p : ℕ) (s : Seen) (bs : List Block) → IsRow xs p → Knows xs p s bs → (ws : List Row)
    → ((t : Seen) (cs : List Block) → Knows xs (suc p) t cs → RowsSay xs t cs (suc p) ws) → RowsSay xs s bs p (nth_row xs p ∷ ws)
unfolding add_rows
row_first xs p s bs i k ws below = go (row-says xs p s bs i k)
  where
    w : Row
    w = nth_row xs p

    go : RowSays xs p (fault s w) → RowsSay xs s bs p (w ∷ ws)
    go (kept f h) =
        let e : check_rows s p (w ∷ ws) ≡ check_rows (after s w) (suc p) ws = row-passes s p w ws f in
        let r : RowsSay xs (after s w) (add_row bs w) (suc p) ws = below _ _ (knows-next xs p s bs i k f) in
        record { stage = go_on xs 1 p _ (λ c z _. h c z) (rw e r.stage); known = λ z. r.known (sym e ∙ z) }
    go (broken c f h m b) =
        let e : check_rows s p (w ∷ ws) ≡ refused (refusal_number c) p = row-fails s p w ws _ (omega (arith, (numbers c).low)) f in
        record { stage = stop xs 1 p _ c e h (row-looks xs p c h i) m b; known = λ z. absurd (not-accepted _ p (sym e ∙ z)) }

-- Behind the last row.
rows-done : (xs : List ℕ) (s : Seen) (bs : List Block) → Knows xs (suc (row_count xs)) s bs → RowsSay xs s bs (suc (row_count xs)) []
unfolding check_rows add_rows
rows-done xs s bs k = record { stage = at-end xs 1 _ _ (omega arith) (omega arith) refl; known = λ _. (s, k) }

-- Of all rows.
pub rows-say : (xs : List ℕ) → RowsSay xs start [] 1 (rows_of xs)
rows-say xs =
    by_rows xs (λ p ws. (s : Seen) (bs : List Block) → Knows xs p s bs → RowsSay xs s bs p ws)
    (rows-done xs)
    (λ p ws i below s bs k. row_first xs p s bs i k ws below)
    start
    []
    (knows_start xs)

-- Rows that pass keep the sentences of checks 5 to 8.
pub rows-keep : (xs : List ℕ) → check_rows start 1 (rows_of xs) ≡ Accepted → (c : Check) (p : ℕ) → turn c ≡ 1 → IsRow xs p → Keeps xs c p
rows-keep xs ok = go (rows-say xs).stage
  where
    go : Stage xs 1 1 (check_rows start 1 (rows_of xs)) → (c : Check) (p : ℕ) → turn c ≡ 1 → IsRow xs p → Keeps xs c p
    go (passes e all) c p h i = all c p h i.0 (row-looks xs p c h i)
    go (fails d q e h l n f) c p k i = absurd (not-accepted _ q (sym e ∙ ok))

-- What is known when all rows have passed: what the checks carry, that the rows stand in their places, and that uses name lower blocks.
pub record RowsPassed (xs : List ℕ) : Type 0 where
  pub some : 1 ≤ row_count xs
  pub seen : Seen
  pub knows : Knows xs (suc (row_count xs)) seen (blocks_of xs)
  pub place : (q : ℕ) → IsRow xs q → InPlace xs q
  pub lower : (q : ℕ) → IsRow xs q → Uses (nth_row xs q) → (nth_row xs q).label < (nth_row xs q).block

-- The checks of all rows, passed, say so.
pub rows-passed : (xs : List ℕ) → 1 ≤ row_count xs → check_rows start 1 (rows_of xs) ≡ Accepted → RowsPassed xs
unfolding blocks_of turn
rows-passed xs some ok =
    let (s, k) = (rows-say xs).known ok in
    record {
      some = some;
      seen = s;
      knows = k;
      place = λ q i. (rows-keep xs ok Sequence q refl i).0;
      lower = λ q i u. ((rows-keep xs ok Ranges q refl i).2 u).lower;
    }
