-- The four stages together: what the verdict on rows says.
use Prim.Native.Nat.{ℕ, suc, ◌%◌, ◌≤◌, ◌<◌}
use native.Mathlib.Omega.{arith}
use native.Mathlib.Decide.{ℕ_discrete, dec_lt}
use mathlib.Core.Path.{◌≡◌, refl, ◌∙◌}
use mathlib.Core.Bool.{Bool}
use mathlib.Core.Logic.Iff
use mathlib.Core.Logic.{inl, inr}
use mathlib.Core.List.{List}
use lib.ListN.{length}
use Rattle.std.specs.Prelude.{Ok, Err}
use Rattle.model.specs.Limits.{row_size, max_rows}
use Rattle.model.specs.Rows.{row_count, rows_of}
use Rattle.model.specs.Blocks.{blocks_of}
use Rattle.model.specs.Verdicts.{refused, and_then, check_length, opening_rows, check_blocks, may_stand, total_fits, verdict, Verdict, Accepted}
use Rattle.basics.proofs.Choices.{eq_then, eq_else, lt_then, lt_else}
use Rattle.demands.specs.Acceptance.{
  Check,
  Length,
  Ends,
  Totals,
  refusal_number,
  LooksAt,
  Keeps,
  turn,
  Earlier,
  FirstBroken,
}
use Rattle.demands.proofs.Stages.{numbers, same_check, looks-at_row, Stage, passes, fails, go_on, stop}
use Rattle.demands.proofs.RowByRow.{rows-say, RowsPassed, rows-passed}
use Rattle.demands.proofs.BlockByBlock.{Blockwise, blocks-say, ends, totals}

-- Every check is kept at every place.
abbrev pub Kept : List ℕ → Type 0
Kept xs = (c : Check) (p : ℕ) → LooksAt xs c p → Keeps xs c p

-- Those of the stages before t are.
abbrev KeptBefore : List ℕ → ℕ → Type 0
KeptBefore xs t = (c : Check) (p : ℕ) → turn c < t → LooksAt xs c p → Keeps xs c p

-- What a verdict says.
pub data VerdictSays (xs : List ℕ) (v : Verdict) : Type 0 where
  lawful : v ≡ Accepted → Kept xs → VerdictSays xs v
  unlawful : (c : Check) (p : ℕ) → v ≡ refused (refusal_number c) p → FirstBroken xs c p → VerdictSays xs v

-- A stage, and what comes behind it.
stage_then : (xs : List ℕ) (t : ℕ) (v w : Verdict) → Stage xs t 0 v → KeptBefore xs t
    → (v ≡ Accepted → KeptBefore xs (suc t) → VerdictSays xs w) → VerdictSays xs (and_then v w)
unfolding and_then refused
stage_then xs t v w (passes e f) b next = rw e (next e (λ c p h l. at c p h l (ℕ_discrete (turn c) t)))
  where
    at : (c : Check) (p : ℕ) → turn c < suc t → LooksAt xs c p → Dec (turn c ≡ t) → Keeps xs c p
    at c p h l (yes z) = f c p z (omega arith) l
    at c p h l (no z) = b c p (omega arith) l
stage_then xs t v w (fails c p e h l n f) b next =
    rw e (unlawful c p refl (record { looks = l; broken = n; before = λ d q k m. at d q k m }))
  where
    at : (d : Check) (q : ℕ) → LooksAt xs d q → Earlier d q c p → Keeps xs d q
    at d q k (inl z) = b d q (omega arith) k
    at d q k (inr z) = f d q (z.0 ∙ h) (omega arith) k z.1

-- The stages behind the first begin at row 1.
from_first : (xs : List ℕ) (t : ℕ) (v : Verdict) → 1 ≤ t → Stage xs t 1 v → Stage xs t 0 v
from_first xs t v a s = go_on xs t 0 v (λ c h l. absurd (omega (arith, looks-at_row xs c 0 (omega arith) l))) s

-- Check 4: failed, passed, and which of the two.
length-fails : (xs : List ℕ) (v : Verdict) → v ≡ refused 4 0 → (Keeps xs Length 0 → ⊥) → Stage xs 0 0 v
unfolding refusal_number turn
length-fails xs v e n = stop xs 0 0 v Length e refl refl n (λ d z l. absurd (omega (arith, (numbers d).low)))

length-passes : (xs : List ℕ) (v : Verdict) → v ≡ Accepted → Keeps xs Length 0 → Stage xs 0 0 v
unfolding refusal_number
length-passes xs v e h = passes e (λ c q z m l. at c q (same_check c Length ((numbers c).first z)))
  where
    at : (c : Check) (q : ℕ) → c ≡ Length → Keeps xs c q
    at c q e = rw e h

length-says : (xs : List ℕ) → Stage xs 0 0 (check_length xs)
unfolding check_length
length-says xs = go (ℕ_discrete (length xs % row_size) 0) (dec_lt (row_count xs) 1) (dec_lt max_rows (row_count xs))
  where
    go : Dec (length xs % row_size ≡ 0) → Dec (row_count xs < 1) → Dec (max_rows < row_count xs) → Stage xs 0 0 (check_length xs)
    go (no n) b c = length-fails xs _ (eq_else _ 0 _ _ n) (λ h. n h.0)
    go (yes a) (yes b) c = length-fails xs _ (eq_then _ 0 _ _ a ∙ lt_then _ 1 _ _ b) (λ h. omega (arith, h.1))
    go (yes a) (no b) (yes c) =
        length-fails xs _ (eq_then _ 0 _ _ a ∙ lt_else _ 1 _ _ (omega arith) ∙ lt_then max_rows _ _ _ c) (λ h. omega (arith, h.2))
    go (yes a) (no b) (no c) =
        length-passes xs _ (eq_then _ 0 _ _ a ∙ lt_else _ 1 _ _ (omega arith) ∙ lt_else max_rows _ _ _ (omega arith)) (a, omega arith, omega arith)

-- A last stage has nothing behind it.
and_accepted : (v : Verdict) → v ≡ and_then v Accepted
unfolding and_then
and_accepted (Ok _) = refl
and_accepted (Err r) = refl

-- Checks 9 and 10, once all rows have passed.
module _ (xs : List ℕ) (passed : RowsPassed xs) where
  ends-blockwise : Blockwise xs Ends (may_stand (blocks_of xs))
  unfolding turn refusal_number
  ends-blockwise =
      record {
        late = omega arith;
        alone = λ d z. same_check d Ends ((numbers d).third z);
        looks = λ q. Iff.rfl;
        says = ends xs passed;
        place = passed.place;
      }

  totals-blockwise : Blockwise xs Totals (total_fits (blocks_of xs))
  unfolding turn refusal_number
  totals-blockwise =
      record {
        late = omega arith;
        alone = λ d z. same_check d Totals ((numbers d).last z);
        looks = λ q. Iff.rfl;
        says = totals xs passed;
        place = passed.place;
      }

  -- Each of the two from the first row on,
  blocks-stage : (c : Check) (ok : ℕ → Bool) → Blockwise xs c ok
      → Stage xs (turn c) 0 (check_blocks (refusal_number c) ok 0 (opening_rows 1 (rows_of xs)))
  blocks-stage c ok b = from_first xs (turn c) _ b.late (blocks-say xs c ok b)

  -- and both.
  blocks-then : KeptBefore xs 2
      → VerdictSays xs (and_then (check_blocks 9 (may_stand (blocks_of xs)) 0 (opening_rows 1 (rows_of xs)))
      (check_blocks 10 (total_fits (blocks_of xs)) 0 (opening_rows 1 (rows_of xs))))
  unfolding turn refusal_number
  blocks-then b =
      stage_then xs 2 _ _ (blocks-stage Ends _ ends-blockwise) b
      (λ _ b. rw (and_accepted (check_blocks 10 (total_fits (blocks_of xs)) 0 (opening_rows 1 (rows_of xs))))
      (stage_then xs 3 _ _ (blocks-stage Totals _ totals-blockwise) b (λ _ b. lawful refl (λ c p l. b c p (numbers c).few l))))

-- All four.
pub verdict-says : (xs : List ℕ) → VerdictSays xs (verdict xs)
unfolding verdict turn
verdict-says xs =
    stage_then xs 0 _ _ (length-says xs) (λ c p h. absurd (omega arith))
    (λ _ b. stage_then xs 1 _ _ (from_first xs 1 _ (omega arith) (rows-say xs).stage) b
    (λ e b. blocks-then xs (rows-passed xs (b Length 0 (omega arith) refl).1 e) b))
