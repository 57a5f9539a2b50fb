-- The verdict of the code is the model's verdict, and its table the index of accepted rows.
use Prim.Native.Nat.{ℕ, ◌*◌, ◌/◌, ◌%◌, ◌≤◌, ◌<◌}
use native.Mathlib.Omega.{arith}
use native.Mathlib.Decide.{ℕ_discrete, dec_lt}
use mathlib.Core.Path.{◌≡◌, refl, sym, ◌∙◌, ap}
use mathlib.Core.List.{List, []}
use lib.ListN.{length, replicate}
use Rattle.model.specs.Choice.{if_eq, if_lt}
use Rattle.model.specs.Limits.{row_size, max_rows}
use Rattle.model.specs.Rows.{rows_from, row_count, rows_of}
use Rattle.model.specs.Rules.{start}
use Rattle.model.specs.Blocks.{add_rows, blocks_of}
use Rattle.model.specs.Verdicts.{refused, and_then, check_length, check_rows, verdict, Verdict, Accepted}
use Rattle.basics.proofs.Choices.{eq_yes, eq_no, eq_then, eq_else, lt_then, lt_else}
use Rattle.shows.proofs.Accepted.{accepted-show, not-accepted, both_accepted}
use Rattle.verdicts.specs.Index.{index_size, Indexed}
use Rattle.std.specs.Prelude.{Result, Ok, Err}
use Rattle.rules.specs.Numbers.{number}
use Rattle.verdicts.specs.Passing.{passes_at, place_from, placed, rows_in, judged, Fine, blocks_to, fault_in, row_in, blocks_in, Scanned, IsChecked}
use Rattle.verdicts.specs.declared.FaultyRow.{FaultyRow}
use Rattle.verdicts.proofs.Steps.{eq-yes', eq-no'}
use Rattle.verdicts.proofs.Going.{some_number}
use Rattle.verdicts.proofs.Known.{known, blocks-all}
use Rattle.verdicts.proofs.Openings.{indexed, ends-law, totals-law}

-- Check 4.
rows_fit : (xs : List ℕ) → (rows_in xs ≡ 0 → check_length xs ≡ refused 4 0) × ((rows_in xs ≡ 0 → ⊥) → (check_length xs ≡ Accepted) × (rows_in xs ≡ row_count xs))
unfolding rows_in check_length row_count
rows_fit xs = go (ℕ_discrete (length xs % row_size) 0) (dec_lt max_rows (length xs / row_size)) (dec_lt (length xs / row_size) 1)
  where
    n : ℕ
    n = length xs / row_size

    Goal : Type 0
    Goal =
        (if_eq (length xs % row_size) 0 (if_lt max_rows n 0 n) 0 ≡ 0 → if_eq (length xs % row_size) 0 (if_lt n 1 (refused 4 0) (if_lt max_rows n (refused 4 0) Accepted)) (refused 4 0) ≡ refused 4 0)
        × ((if_eq (length xs % row_size) 0 (if_lt max_rows n 0 n) 0 ≡ 0 → ⊥)
        → (if_eq (length xs % row_size) 0 (if_lt n 1 (refused 4 0) (if_lt max_rows n (refused 4 0) Accepted)) (refused 4 0) ≡ Accepted)
        × (if_eq (length xs % row_size) 0 (if_lt max_rows n 0 n) 0 ≡ n))

    go : Dec (length xs % row_size ≡ 0) → Dec (max_rows < n) → Dec (n < 1) → Goal
    go (no a) b c = (λ e. eq_else _ _ _ _ a, λ m. absurd (m (eq_else _ _ _ _ a)))
    go (yes a) (yes b) (yes c) = absurd (omega arith)
    go (yes a) (yes b) (no c) = (λ e. eq_then _ _ _ _ a ∙ lt_else _ _ _ _ (omega arith) ∙ lt_then _ _ _ _ b, λ m. absurd (m (eq_then _ _ _ _ a ∙ lt_then _ _ _ _ b)))
    go (yes a) (no b) (yes c) =
        (λ e. eq_then _ _ _ _ a ∙ lt_then _ _ _ _ c, λ m. absurd (m (eq_then _ _ _ _ a ∙ lt_else _ _ _ _ (omega arith) ∙ omega arith)))
    go (yes a) (no b) (no c) = (
      λ e. absurd (omega (arith, sym (eq_then (length xs % row_size) 0 (if_lt max_rows n 0 n) 0 a ∙ lt_else max_rows n 0 n (omega arith)) ∙ e)),
      λ m. (eq_then _ _ _ _ a ∙ lt_else _ _ _ _ (omega arith) ∙ lt_else _ _ _ _ (omega arith), eq_then _ _ _ _ a ∙ lt_else _ _ _ _ (omega arith)),
    )

pub rows-many : (xs : List ℕ) → (rows_in xs * row_size ≤ length xs) × (rows_in xs ≤ max_rows)
unfolding rows_in
rows-many xs = go (ℕ_discrete (length xs % row_size) 0) (dec_lt max_rows (length xs / row_size))
  where
    go : Dec (length xs % row_size ≡ 0) → Dec (max_rows < length xs / row_size)
        → (if_eq (length xs % row_size) 0 (if_lt max_rows (length xs / row_size) 0 (length xs / row_size)) 0 * row_size ≤ length xs)
        × (if_eq (length xs % row_size) 0 (if_lt max_rows (length xs / row_size) 0 (length xs / row_size)) 0 ≤ max_rows)
    go (no a) b = rw (eq_else (length xs % row_size) 0 (if_lt max_rows (length xs / row_size) 0 (length xs / row_size)) 0 a) (omega arith)
    go (yes a) (yes b) = rw (eq_then (length xs % row_size) 0 (if_lt max_rows (length xs / row_size) 0 (length xs / row_size)) 0 a, lt_then max_rows (length xs / row_size) 0 (length xs / row_size) b) (omega arith)
    go (yes a) (no b) = rw (eq_then (length xs % row_size) 0 (if_lt max_rows (length xs / row_size) 0 (length xs / row_size)) 0 a, lt_else max_rows (length xs / row_size) 0 (length xs / row_size) (omega arith)) (omega arith)

-- One check after another.
passes-first : (v : Verdict) → and_then Accepted v ≡ v
unfolding and_then
passes-first v = refl

refuses_first : (k p : ℕ) (v : Verdict) → and_then (refused k p) v ≡ refused k p
unfolding and_then refused
refuses_first k p v = refl

both_placed : (p q : ℕ) → and_then (placed 9 p) (placed 10 q) ≡ if_eq p 0 (if_eq q 0 Accepted (refused 10 q)) (refused 9 p)
unfolding placed
both_placed p q = go (ℕ_discrete p 0)
  where
    go : Dec (p ≡ 0) → and_then (if_eq p 0 Accepted (refused 9 p)) (if_eq q 0 Accepted (refused 10 q)) ≡ if_eq p 0 (if_eq q 0 Accepted (refused 10 q)) (refused 9 p)
    go (yes e) = rw (eq_then p 0 Accepted (refused 9 p) e, eq_then p 0 (if_eq q 0 Accepted (refused 10 q)) (refused 9 p) e) (passes-first _)
    go (no n) = rw (eq_else p 0 Accepted (refused 9 p) n, eq_else p 0 (if_eq q 0 Accepted (refused 10 q)) (refused 9 p) n) (refuses_first 9 p _)

-- The verdict is what the pass and the table say.
module _ (xs t : List ℕ) (s : Result ℕ FaultyRow) (S : Scanned xs (rows_in xs) t s) where
  none-law : rows_in xs ≡ 0 → judged xs t (rows_in xs) (fault_in s) (row_in s) (blocks_in s) ≡ verdict xs
  unfolding judged verdict
  none-law e = rw ((rows_fit xs).0 e) (eq_then _ _ _ _ e ∙ sym (refuses_first 4 0 _))

  module _ (some : rows_in xs ≡ 0 → ⊥) where
    length-fits : check_length xs ≡ Accepted
    length-fits = ((rows_fit xs).1 some).0

    count-is : rows_in xs ≡ row_count xs
    count-is = ((rows_fit xs).1 some).1

    rows_are : rows_from xs 0 (rows_in xs) ≡ rows_of xs
    unfolding rows_of
    rows_are = rw count-is

    pub says : (fault_in s ≡ 0 → ⊥) → verdict xs ≡ refused (fault_in s) (row_in s)
    unfolding verdict
    says n =
        let e : check_rows start 1 (rows_of xs) ≡ refused (fault_in s) (row_in s) = rw rows_are at (S.found n) in
        rw (length-fits, e) (passes-first _ ∙ refuses_first _ _ _)

    found-law : (fault_in s ≡ 0 → ⊥) → judged xs t (rows_in xs) (fault_in s) (row_in s) (blocks_in s) ≡ verdict xs
    unfolding judged
    found-law n = eq_else _ _ _ _ some ∙ eq_else _ _ _ _ n ∙ sym (says n)

    blocks-are : fault_in s ≡ 0 → blocks_in s ≡ length (blocks_to xs (rows_in xs))
    blocks-are z = let k = known xs (rows_in xs) (S.fine z) in S.blocks z ∙ k.blocks ∙ k.tracks.count

    blocks-of : blocks_to xs (rows_in xs) ≡ blocks_of xs
    unfolding blocks_of
    blocks-of = sym (blocks-all xs (rows_in xs)) ∙ ap (add_rows []) rows_are

    fine-law : fault_in s ≡ 0 → judged xs t (rows_in xs) (fault_in s) (row_in s) (blocks_in s) ≡ verdict xs
    unfolding judged verdict
    fine-law z =
        let few : rows_in xs ≤ max_rows = (rows-many xs).1 in
        let r : check_rows start 1 (rows_of xs) ≡ Accepted = rw rows_are at (S.passed z) in
        let e9 = rw (rows_are, blocks-of) at (ends-law xs (rows_in xs) (S.fine z) few) in
        let e10 = rw (rows_are, blocks-of) at (totals-law xs (rows_in xs) (S.fine z) few) in
        eq_else _ _ _ _ some ∙ eq_then _ _ _ _ z
        ∙ rw (length-fits, r, e9, e10, S.table z, blocks-are z, blocks-of) (sym (passes-first _ ∙ passes-first _ ∙ both_placed _ _))

  pub judged-law : judged xs t (rows_in xs) (fault_in s) (row_in s) (blocks_in s) ≡ verdict xs
  judged-law = go (ℕ_discrete (rows_in xs) 0) (ℕ_discrete (fault_in s) 0)
    where
      go : Dec (rows_in xs ≡ 0) → Dec (fault_in s ≡ 0) → judged xs t (rows_in xs) (fault_in s) (row_in s) (blocks_in s) ≡ verdict xs
      go (yes e) d = none-law e
      go (no n) (yes z) = fine-law n z
      go (no n) (no m) = found-law n m

  -- Accepted rows have no fault, and are not none.
  accepted-some : verdict xs ≡ Accepted → rows_in xs ≡ 0 → ⊥
  unfolding verdict
  accepted-some v e = not-accepted 4 0 (sym ((rows_fit xs).0 e) ∙ (both_accepted (check_length xs) _ v).0)

  accepted-fine : verdict xs ≡ Accepted → fault_in s ≡ 0
  accepted-fine v = go (ℕ_discrete (fault_in s) 0)
    where
      go : Dec (fault_in s ≡ 0) → fault_in s ≡ 0
      go (yes z) = z
      go (no n) = absurd (not-accepted (fault_in s) (row_in s) (sym (found-says n) ∙ v))
        where
          found-says : (fault_in s ≡ 0 → ⊥) → verdict xs ≡ refused (fault_in s) (row_in s)
          found-says m = says (accepted-some v) m

  table_is : verdict xs ≡ Accepted → Indexed xs t
  table_is a =
      let z = accepted-fine a in
      let c = count-is (accepted-some a) in
      let f : Fine xs (row_count xs) = rw c at (S.fine z) in
      rw (S.table z, c) (indexed xs f (accepted-show xs a).totals)

  pub is-checked : (v : Verdict) → v ≡ judged xs t (rows_in xs) (fault_in s) (row_in s) (blocks_in s)
      → IsChecked xs t v
  is-checked v e = record { said = e ∙ judged-law; table = λ a. table_is a }

-- The same with the number of rows under another name.
pub pass_asks : (xs t : List ℕ) (n : ℕ) → n ≡ rows_in xs → t ≡ replicate index_size 0 → (n * row_size ≤ length xs) × (n ≤ max_rows) × (t ≡ replicate index_size 0)
pass_asks xs t n e empty = let m = rows-many xs in (rw e m.0, rw e m.1, empty)

pub checked_of : (xs t : List ℕ) (n : ℕ) (s : Result ℕ FaultyRow) (v : Verdict) → n ≡ rows_in xs → Scanned xs n t s
    → v ≡ judged xs t n (fault_in s) (row_in s) (blocks_in s) → IsChecked xs t v
checked_of xs t n s v e S j = is-checked xs t s (rw e at S) v (rw e at j)

-- What is returned at each place.
module _ (xs t : List ℕ) (n : ℕ) (some : n ≡ 0 → ⊥) (p : Result ℕ FaultyRow) (v : Verdict) where
  pub judged_fault : (f : FaultyRow) (k : ℕ) → p ≡ Err f → k ≡ number f.fault → v ≡ refused k f.row → v ≡ judged xs t n (fault_in p) (row_in p) (blocks_in p)
  unfolding judged
  judged_fault f k e q z = rw e (eq_no _ _ _ _ _ some (eq_no _ _ _ _ _ (some_number f.fault) (z ∙ ap (λ (x : ℕ). refused x f.row) q)))

  module _ (blocks : ℕ) (e : p ≡ Ok blocks) (ends : ℕ) (q : ends ≡ place_from (passes_at 9 xs t blocks) t 0 blocks) where
    pub judged_ends : 0 < ends → v ≡ refused 9 ends → v ≡ judged xs t n (fault_in p) (row_in p) (blocks_in p)
    unfolding judged
    judged_ends h z = rw e (eq_no _ _ _ _ _ some (eq_yes _ _ _ _ _ refl (eq-no' _ _ _ _ _ _ q (λ w. omega arith) (z ∙ ap (refused 9) q))))

    module _ (none : ends ≡ 0) (totals : ℕ) (q' : totals ≡ place_from (passes_at 10 xs t blocks) t 0 blocks) where
      pub judged_totals : 0 < totals → v ≡ refused 10 totals → v ≡ judged xs t n (fault_in p) (row_in p) (blocks_in p)
      unfolding judged
      judged_totals h z =
          rw e (eq_no _ _ _ _ _ some (eq_yes _ _ _ _ _ refl (eq-yes' _ _ _ _ _ _ q none (eq-no' _ _ _ _ _ _ q' (λ w. omega arith) (z ∙ ap (refused 10) q')))))

      pub judged_fine : totals ≡ 0 → v ≡ Accepted → v ≡ judged xs t n (fault_in p) (row_in p) (blocks_in p)
      unfolding judged
      judged_fine h z = rw e (eq_no _ _ _ _ _ some (eq_yes _ _ _ _ _ refl (eq-yes' _ _ _ _ _ _ q none (eq-yes' _ _ _ _ _ _ q' h z))))
