-- The pass over the rows: how it begins, goes on, stops at a fault and ends.
use Prim.Native.Nat.{ℕ, zero, suc, ◌+◌, ◌*◌, ◌-◌, ◌≤◌, ◌<◌}
use native.Mathlib.Omega.{arith}
use native.Mathlib.Decide.{ℕ_discrete}
use mathlib.Core.Path.{◌≡◌, refl, sym, ◌∙◌, ap}
use mathlib.Core.List.{List, ◌∷◌}
use lib.ListN.{get_or, replicate}
use Rattle.model.specs.Limits.{row_size, max_rows}
use Rattle.model.specs.Rows.{row_at, rows_from}
use Rattle.model.specs.Rules.{start, fault}
use Rattle.model.specs.Verdicts.{refused, check_rows, Accepted}
use Rattle.basics.proofs.Choices.{eq_then, eq_else}
use Rattle.verdicts.specs.Index.{index_size}
use Rattle.rules.specs.Faults.{fault_of}
use Rattle.verdicts.specs.Passing.{many_of, Many, row_indexed, Carried, next_state, seen_to, state_to, table_to, Fine, Scanned}
use Rattle.std.specs.Prelude.{Ok, Err}
use Rattle.rules.specs.Numbers.{number}
use Rattle.rules.specs.declared.faults.Fault.{Fault}
use Rattle.rules.specs.declared.faults.Fault.TheVariants.{Place, Range, Repeated, Order}
use Rattle.verdicts.proofs.Indexing.{fault-is}

pub record GoingRows (xs : List ℕ) (n : ℕ) (t : List ℕ) (s : Carried) (r : ℕ) : Type 0 where
  pub few : r ≤ n
  pub table : t ≡ table_to xs r
  pub state : s ≡ state_to xs r
  pub fine : Fine xs r
  pub rest : check_rows start 1 (rows_from xs 0 n) ≡ check_rows (seen_to xs r) (suc r) (rows_from xs r (n - r))

pub going_begin : (xs : List ℕ) (n : ℕ) (t : List ℕ) → t ≡ replicate index_size 0 → GoingRows xs n t (record { blocks = 0; cues = 0; kind = 0 }) 0
unfolding table_to state_to seen_to
going_begin xs n t empty =
    let e : n - 0 ≡ n = omega arith in
    record { few = omega arith; table = empty; state = refl; fine = λ q h. absurd (omega arith); rest = rw e }

rows_next : (xs : List ℕ) (n r : ℕ) → r < n → rows_from xs r (n - r) ≡ row_at xs r ∷ rows_from xs (r + 1) (n - (r + 1))
unfolding rows_from
rows_next xs n r h = let e : n - r ≡ suc (n - (r + 1)) = omega arith in rw (e, rows_from)

-- The number of blocks is at most that of the rows.
pub blocks-few : (xs : List ℕ) (r : ℕ) → (state_to xs r).blocks ≤ r
unfolding state_to next_state
blocks-few xs zero = omega arith
blocks-few xs (suc r) = go (ℕ_discrete (get_or xs (r * row_size + 1) 0) 0) (blocks-few xs r)
  where
    go : Dec (get_or xs (r * row_size + 1) 0 ≡ 0) → (state_to xs r).blocks ≤ r → (next_state xs (r * row_size) (state_to xs r)).blocks ≤ suc r
    go (yes q) h = rw (eq_then (get_or xs (r * row_size + 1) 0) 0 _ _ q) (omega arith)
    go (no n) h = rw (eq_else (get_or xs (r * row_size + 1) 0) 0 _ _ n) (omega arith)

module _ (xs : List ℕ) (n : ℕ) (t : List ℕ) (s : Carried) (r : ℕ) (g : GoingRows xs n t s r) where
  -- What the code found at row r.
  pub record FaultFound (q many k : ℕ) : Type 0 where
    pub before : q ≡ r - 1
    pub joins : Many (many_of xs t (r * row_size) s.blocks) many
    pub number : k ≡ fault_of xs (r * row_size) (q * row_size) s.blocks s.cues s.kind many

  found-is : (q many k : ℕ) → FaultFound q many k → k ≡ fault (seen_to xs r) (row_at xs r)
  found-is q many k f =
      rw (f.before, g.state) at f.number ∙ fault-is xs r g.fine many (rw (g.table, g.state) at f.joins)

  pub going_stop : (q many k row : ℕ) → r < n → FaultFound q many k → (k ≡ 0 → ⊥) → row ≡ r + 1
      → check_rows start 1 (rows_from xs 0 n) ≡ refused k row
  unfolding check_rows
  going_stop q many k row h f m e = g.rest ∙ rw (rows_next xs n r h) (go k refl)
    where
      go : (j : ℕ) → k ≡ j → check_rows (seen_to xs r) (suc r) (row_at xs r ∷ rows_from xs (r + 1) (n - (r + 1))) ≡ refused k row
      go zero z = absurd (m z)
      go (suc j) z =
          let w : fault (seen_to xs r) (row_at xs r) ≡ suc j = sym (found-is q many k f) ∙ z in
          let v : suc r ≡ r + 1 = omega arith in
          rw (w, check_rows, z, e, v)

  pub going_on : (q many kind : ℕ) (t' : List ℕ) (s' : Carried) → r < n → FaultFound q many 0 → kind ≡ get_or xs (r * row_size + 1) 0
      → t' ≡ row_indexed t (get_or xs (r * row_size) 0) kind (get_or xs (r * row_size + 2) 0) (get_or xs (r * row_size + 3) 0) r
      → s' ≡ next_state xs (r * row_size) s → GoingRows xs n t' s' (r + 1)
  unfolding check_rows table_to state_to seen_to
  going_on q many kind t' s' h f z et es =
      let w : fault (seen_to xs r) (row_at xs r) ≡ 0 = sym (found-is q many 0 f) in
      let v : r + 1 ≡ suc r = omega arith in
      record {
        few = omega arith;
        table = rw (v, ← g.table, ← z) et;
        state = rw (v, ← g.state) es;
        fine = λ p l. at p l (ℕ_discrete p r) w;
        rest = g.rest ∙ rw (rows_next xs n r h) (on w);
      }
    where
      at : (p : ℕ) → p < r + 1 → Dec (p ≡ r) → fault (seen_to xs r) (row_at xs r) ≡ 0 → fault (seen_to xs p) (row_at xs p) ≡ 0
      at p l (yes e) w = rw e w
      at p l (no m) w = g.fine p (omega arith)

      on : fault (seen_to xs r) (row_at xs r) ≡ 0
          → check_rows (seen_to xs r) (suc r) (row_at xs r ∷ rows_from xs (r + 1) (n - (r + 1)))
          ≡ check_rows (seen_to xs (r + 1)) (suc (r + 1)) (rows_from xs (r + 1) (n - (r + 1)))
      on w = let v : r + 1 ≡ suc r = omega arith in rw (w, check_rows, v)

  pub going_done : n ≤ r → check_rows start 1 (rows_from xs 0 n) ≡ Accepted
  unfolding check_rows rows_from
  going_done h = let e : n - r ≡ 0 = omega arith in g.rest ∙ rw (e, rows_from)

-- A fault has a number, and what the pass returns at a fault, and at the end.
pub some_number : (f : Fault) → number f ≡ 0 → ⊥
some_number Place z = omega arith
some_number Range z = omega arith
some_number Repeated z = omega arith
some_number Order z = omega arith

pub scanned_stop : (xs : List ℕ) (n row : ℕ) (f : Fault) (t : List ℕ) → check_rows start 1 (rows_from xs 0 n) ≡ refused (number f) row
    → Scanned xs n t (Err (record { fault = f; row = row }))
scanned_stop xs n row f t e =
    let m = some_number f in
    record { found = λ z. e; passed = λ z. absurd (m z); fine = λ z. absurd (m z); table = λ z. absurd (m z); blocks = λ z. absurd (m z) }

pub scanned_done : (xs : List ℕ) (n : ℕ) (t : List ℕ) (s : Carried) (r : ℕ) → GoingRows xs n t s r → n ≤ r → Scanned xs n t (Ok s.blocks)
scanned_done xs n t s r g h =
    let e : r ≡ n = omega (arith, g.few) in
    record {
      found = λ z. absurd (z refl);
      passed = λ z. going_done xs n t s r g h;
      fine = λ z. rw e at g.fine;
      table = λ z. rw e at g.table;
      blocks = λ z. rw e at (ap (λ (x : Carried). x.blocks) g.state);
    }

-- So many blocks can't be open before the last row.
pub going_blocks : (xs : List ℕ) (n : ℕ) (t : List ℕ) (s : Carried) (r : ℕ) → GoingRows xs n t s r → n ≤ max_rows → s.blocks ≤ max_rows
going_blocks xs n t s r g h = rw g.state (omega (arith, blocks-few xs r, g.few))
