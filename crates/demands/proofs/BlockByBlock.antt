-- Checks 9 and 10, block by block: at each opening row the test of its block.
use Prim.Native.Nat.{ℕ, suc, ◌+◌, ◌≤◌, ◌<◌}
use native.Mathlib.Omega.{arith}
use native.Mathlib.Decide.{ℕ_discrete}
use mathlib.Core.Path.{◌≡◌, refl, sym, ◌∙◌, ap}
use mathlib.Core.Bool.{Bool, true, false}
use mathlib.Core.Logic.{◌⊎◌, inl, inr, ◌↔◌}
use mathlib.Core.List.{List, [], ◌∷◌}
use lib.ListN.{length}
use Rattle.model.specs.Limits.{max_total}
use Rattle.model.specs.Rows.{Row, row_count, rows_of}
use Rattle.model.specs.Blocks.{joins_of, own_of, total, blocks_of}
use Rattle.model.specs.Verdicts.{refused, opening_rows, check_blocks, may_stand, total_fits}
use Rattle.basics.proofs.Choices.{eq_then, eq_else}
use Rattle.demands.specs.Acceptance.{
  nth_row,
  IsRow,
  column,
  Opens,
  opening_in,
  joins_in,
  own_in,
  InPlace,
  IsLast,
  Shows,
  Check,
  Ends,
  Totals,
  refusal_number,
  LooksAt,
  Keeps,
  turn,
}
use Rattle.demands.proofs.Tests.{Says, in_words, less, not-less, equal-then, first-case, second-case, decided}
use Rattle.demands.proofs.Openings.{OpenedBefore, Comes, opening, link, later-use, from_place, opened-next}
use Rattle.demands.proofs.Stages.{Stage, at-end, go_on, stop, by_rows}
use Rattle.demands.proofs.RowByRow.{RowsPassed}
use Rattle.demands.proofs.BlocksOfRows.{opened-lower, blocks-are}
use Rattle.demands.proofs.TotalsOfRows.{totals-are}

-- The check of a block that passes goes on, that of one that fails ends.
module _ (number : ℕ) (ok : ℕ → Bool) (k r : ℕ) (rs : List ℕ) where
  block-passes : ok k ≡ true → check_blocks number ok k (r ∷ rs) ≡ check_blocks number ok (suc k) rs
  unfolding check_blocks
  block-passes e = rw (e, check_blocks)

  block-fails : ok k ≡ false → check_blocks number ok k (r ∷ rs) ≡ refused number r
  unfolding check_blocks
  block-fails e = rw (e, check_blocks)

-- A check that is the only one of its stage and looks at opening rows, by a test of their blocks. The rows stand in their places.
pub record Blockwise (xs : List ℕ) (c : Check) (ok : ℕ → Bool) : Type 0 where
  pub late : 1 ≤ turn c
  pub alone : (d : Check) → turn d ≡ turn c → d ≡ c
  pub looks : (q : ℕ) → LooksAt xs c q ↔ (IsRow xs q × Opens (nth_row xs q))
  pub says : (q : ℕ) → IsRow xs q → Opens (nth_row xs q) → Says (ok (nth_row xs q).block) (Keeps xs c q)
  pub place : (q : ℕ) → IsRow xs q → InPlace xs q

module _ (xs : List ℕ) (c : Check) (ok : ℕ → Bool) (b : Blockwise xs c ok) where
  -- What the check says of the rows from row p on, k blocks being opened before.
  abbrev BlocksSay : ℕ → ℕ → List Row → Type 0
  BlocksSay p k ws = Stage xs (turn c) p (check_blocks (refusal_number c) ok k (opening_rows p ws))

  -- It is all that there is to keep at a row.
  at_row : (p : ℕ) → Keeps xs c p → (d : Check) → turn d ≡ turn c → LooksAt xs d p → Keeps xs d p
  at_row p h d z l = rw (b.alone d z) h

  -- Of an opening row and what comes behind it,
  opening-first : (p k : ℕ) (rs : List ℕ) → IsRow xs p → Opens (nth_row xs p) → (nth_row xs p).block ≡ k
      → Stage xs (turn c) (suc p) (check_blocks (refusal_number c) ok (suc k) rs) → Stage xs (turn c) p (check_blocks (refusal_number c) ok k (p ∷ rs))
  opening-first p k rs i q e rest = go (decided (ok k) (rw e at (b.says p i q)))
    where
      go : ((ok k ≡ true) × Keeps xs c p) ⊎ ((ok k ≡ false) × (Keeps xs c p → ⊥))
          → Stage xs (turn c) p (check_blocks (refusal_number c) ok k (p ∷ rs))
      go (inl (t, h)) = go_on xs (turn c) p _ (at_row p h) (rw (block-passes (refusal_number c) ok k p rs t) rest)
      go (inr (t, n)) =
          stop xs (turn c) p _ c (block-fails (refusal_number c) ok k p rs t) refl ((b.looks p).1 (i, q)) n
          (λ d z l. absurd (let e : refusal_number d ≡ refusal_number c = ap refusal_number (b.alone d z) in omega arith))

  -- of any row and those behind it,
  row_first : (p k : ℕ) (ws : List Row) → IsRow xs p → OpenedBefore xs p k → ((j : ℕ) → OpenedBefore xs (suc p) j → BlocksSay (suc p) j ws)
      → BlocksSay p k (nth_row xs p ∷ ws)
  unfolding opening_rows
  row_first p k ws i o below = go (from_place xs p k i.0 o (b.place p i))
    where
      other : (Opens (nth_row xs p) → ⊥) → (nth_row xs p).block + 1 ≡ k → BlocksSay p k (nth_row xs p ∷ ws)
      other n e =
          rw (eq_else (nth_row xs p).kind 0 _ _ n)
          (go_on xs (turn c) p _ (λ d z l. absurd (n ((b.looks p).0 (rw (b.alone d z) at l)).1)) (below k (opened-next xs p k i.0 (omega arith))))

      go : Comes xs p k → BlocksSay p k (nth_row xs p ∷ ws)
      go (opening q e) =
          rw (eq_then (nth_row xs p).kind 0 _ _ q) (opening-first p k _ i q e (below (suc k) (opened-next xs p (suc k) i.0 (omega arith))))
      go (link q e l m) = other (λ z. omega arith) e
      go (later-use q e l) = other (λ z. omega arith) e

  -- behind the last row,
  rows-done : (p k : ℕ) → row_count xs < p → BlocksSay p k []
  unfolding opening_rows check_blocks
  rows-done p k h = at-end xs (turn c) p _ b.late h refl

  -- and of all rows.
  pub blocks-say : BlocksSay 1 0 (rows_of xs)
  blocks-say =
      by_rows xs (λ p ws. (k : ℕ) → OpenedBefore xs p k → BlocksSay p k ws)
      (λ k o. rows-done _ k (omega arith))
      (λ p ws i below k o. row_first p k ws i o below)
      0
      (λ e. refl, λ l. absurd (omega arith))

-- What is known behind the last row ties the tests to the sentences.
module _ (xs : List ℕ) (passed : RowsPassed xs) (q : ℕ) (i : IsRow xs q) (o : Opens (nth_row xs q)) where
  abbrev w : Row
  w = nth_row xs q

  -- The block is one of those opened; its joins and own cues are those of its opening, and how many blocks there are.
  one_of : w.block < length (blocks_of xs)
  one_of = opened-lower xs passed q i o

  first : opening_in (rows_of xs) w.block ≡ w
  first = passed.knows.first q i.0 (omega arith) o

  joins-are : joins_of (blocks_of xs) w.block ≡ w.label
  unfolding joins_of joins_in
  joins-are = (blocks-are xs passed).joins w.block one_of ∙ ap (λ (r : Row). r.label) first

  own-are : own_of (blocks_of xs) w.block ≡ column w 1
  unfolding own_of own_in
  own-are = (blocks-are xs passed).own w.block one_of ∙ ap (λ (r : Row). column r 1) first

  count-is : length (blocks_of xs) ≡ suc (nth_row xs (row_count xs)).block
  count-is = (blocks-are xs passed).many

  -- Check 9.
  pub ends : Says (may_stand (blocks_of xs) w.block) (Keeps xs Ends q)
  unfolding may_stand
  ends = go (ℕ_discrete (suc w.block) (length (blocks_of xs)))
    where
      go : Dec (suc w.block ≡ length (blocks_of xs)) → Says (may_stand (blocks_of xs) w.block) (Keeps xs Ends q)
      go (yes e) =
          let z : IsLast xs w = omega (arith, count-is) in
          first-case _ _ _ e
          (in_words (equal-then (joins_of (blocks_of xs) w.block) 0 (less 0 (own_of (blocks_of xs) w.block)))
          (λ h. (λ l. record { joins = sym joins-are ∙ h.0; own = rw own-are at h.1 }, λ n. absurd (n z)))
          (λ h. let f : Shows w = h.0 z in (joins-are ∙ f.joins, rw own-are f.own)))
      go (no n) =
          let z : IsLast xs w → ⊥ = λ l. n (omega (arith, count-is)) in
          second-case _ _ _ n
          (in_words (less 0 (joins_of (blocks_of xs) w.block))
          (λ h. (λ l. absurd (z l), λ _. rw joins-are at h))
          (λ h. rw joins-are (h.1 z)))

  -- Check 10.
  pub totals : Says (total_fits (blocks_of xs) w.block) (Keeps xs Totals q)
  unfolding total_fits
  totals =
      let (are, only) = totals-are xs passed in
      in_words (not-less max_total (total (blocks_of xs) w.block))
      (λ h T a. rw (only T a w.block one_of) h)
      (λ h. h (total (blocks_of xs)) are)
