-- The rows that open the blocks, in the model and in the table; the index of all rows; and checks 9 and 10 by the table.
use Prim.Native.Nat.{ℕ, zero, suc, ◌+◌, ◌*◌, ◌≤◌, ◌<◌}
use native.Mathlib.Omega.{arith}
use native.Mathlib.Decide.{ℕ_discrete, dec_le, dec_lt}
use mathlib.Core.Path.{◌≡◌, refl, sym, ◌∙◌, ap}
use mathlib.Core.Bool.{Bool, true, false}
use mathlib.Core.Logic.{◌≢◌}
use mathlib.Core.List.{List, [], ◌∷◌, ◌++◌, append-nil}
use lib.ListN.{length, get_or, length-append, get_or-append}
use lib.Seq.{get_or-append_seam}
use Rattle.model.specs.Choice.{if_eq, if_lt}
use Rattle.model.specs.Limits.{max_blocks, max_rows, max_total}
use Rattle.model.specs.Rows.{Row, cell, row_at, rows_from, row_count, rows_of}
use Rattle.model.specs.Rules.{fault}
use Rattle.model.specs.Blocks.{Block, joins_of, own_of, total, add_row, add_rows, blocks_of}
use Rattle.model.specs.Verdicts.{refused, opening_rows, check_blocks, may_stand, total_fits, Accepted}
use Rattle.model.specs.Behind.{opening_row}
use Rattle.basics.proofs.Choices.{eq_then, eq_else, lt_then, lt_else, true_then, true_else}
use Rattle.shows.proofs.Accepted.{opening-length, other_length}
use Rattle.shows.proofs.Passed.{faultless, Kind, opens, links, uses, kind-of}
use Rattle.verdicts.specs.Index.{block_from, IndexedBlock, Indexed}
use Rattle.verdicts.specs.Passing.{capped, open_indexed, use_indexed, joins_at, own_at, stands_at, fits_at, passes_at, row_number_of, place_from, placed, seen_to, table_to, blocks_to, Fine}
use Rattle.verdicts.proofs.Known.{KnownRows, known, blocks-all}
use Rattle.verdicts.proofs.Tables.{TableFor, open_first, open_other, put_other, capped-fit, capped-over}
use Rattle.verdicts.proofs.Indexing.{tables, kept, open_indexed_lem, link-indexed, use_indexed_lem}

-- The rows and the openings, one row more.
rows_snoc : (xs : List ℕ) (r n : ℕ) → rows_from xs r (suc n) ≡ rows_from xs r n ++ (row_at xs (r + n) ∷ [])
unfolding rows_from
rows_snoc xs r zero = let e : r + 0 ≡ r = omega arith in rw e
rows_snoc xs r (suc n) =
    let e : r + 1 + n ≡ r + suc n = omega arith in
    ap (λ (l : List Row). row_at xs r ∷ l) (rw e at (rows_snoc xs (r + 1) n))

openings-snoc : (p : ℕ) (ws : List Row) (w : Row) → opening_rows p (ws ++ (w ∷ [])) ≡ opening_rows p ws ++ if_eq w.kind 0 ((p + length ws) ∷ []) []
unfolding opening_rows
openings-snoc p [] w = let e : p + 0 ≡ p = omega arith in rw e
openings-snoc p (v ∷ ws) w = go (openings-snoc (suc p) ws w) (ℕ_discrete v.kind 0)
  where
    e : suc p + length ws ≡ p + suc (length ws)
    e = omega arith

    go : opening_rows (suc p) (ws ++ (w ∷ [])) ≡ opening_rows (suc p) ws ++ if_eq w.kind 0 ((suc p + length ws) ∷ []) [] → Dec (v.kind ≡ 0)
        → if_eq v.kind 0 (p ∷ opening_rows (suc p) (ws ++ (w ∷ []))) (opening_rows (suc p) (ws ++ (w ∷ [])))
        ≡ if_eq v.kind 0 (p ∷ opening_rows (suc p) ws) (opening_rows (suc p) ws) ++ if_eq w.kind 0 ((p + suc (length ws)) ∷ []) []
    go below (yes q) = rw (eq_then v.kind 0 (p ∷ opening_rows (suc p) (ws ++ (w ∷ []))) (opening_rows (suc p) (ws ++ (w ∷ []))) q, eq_then v.kind 0 (p ∷ opening_rows (suc p) ws) (opening_rows (suc p) ws) q, below, e)
    go below (no n) = rw (eq_else v.kind 0 (p ∷ opening_rows (suc p) (ws ++ (w ∷ []))) (opening_rows (suc p) (ws ++ (w ∷ []))) n, eq_else v.kind 0 (p ∷ opening_rows (suc p) ws) (opening_rows (suc p) ws) n, below, e)

rows-length : (xs : List ℕ) (r n : ℕ) → length (rows_from xs r n) ≡ n
unfolding rows_from
rows-length xs r zero = refl
rows-length xs r (suc n) = ap suc (rows-length xs (r + 1) n)

abbrev pub openings : List ℕ → ℕ → List ℕ
openings xs r = opening_rows 1 (rows_from xs 0 r)

openings-next : (xs : List ℕ) (r : ℕ) → openings xs (suc r) ≡ openings xs r ++ if_eq (row_at xs r).kind 0 ((r + 1) ∷ []) []
openings-next xs r =
    let e : 0 + r ≡ r = omega arith in
    let f : 1 + length (rows_from xs 0 r) ≡ r + 1 = omega (arith, rows-length xs 0 r) in
    rw (rows_snoc xs 0 r, e) (rw f at (openings-snoc 1 (rows_from xs 0 r) (row_at xs r)))

-- As many as blocks, and the table has each.
pub record Firsts (xs : List ℕ) (r : ℕ) : Type 0 where
  pub many : length (openings xs r) ≡ length (blocks_to xs r)
  pub each : (k : ℕ) → k < length (blocks_to xs r) → get_or (openings xs r) k 0 ≡ get_or (table_to xs r) (k * 4) 0 + 1

module _ (xs : List ℕ) (r : ℕ) (f : Fine xs r) (ok : fault (seen_to xs r) (row_at xs r) ≡ 0) (F : Firsts xs r) where
  k : KnownRows xs r
  k = known xs r f

  T : TableFor xs (blocks_to xs (r + 0)) (table_to xs r) r (blocks_to xs r) (seen_to xs r).before.kind
  T = tables xs 0 r f

  abbrev w : Row
  w = row_at xs r

  abbrev same : (j : ℕ) → j < length (blocks_to xs r) → joins_of (blocks_to xs (r + 0)) j ≡ joins_of (blocks_to xs r) j
  same = λ j h. kept xs 0 r j h

  -- A row that opens no block leaves the first places alone.
  other_openings : (w.kind ≡ 0 → ⊥) → openings xs (suc r) ≡ openings xs r
  other_openings n = openings-next xs r ∙ rw (eq_else w.kind 0 ((r + 1) ∷ []) [] n) (append-nil (openings xs r))

  other_firsts : (w.kind ≡ 0 → ⊥) → ((j : ℕ) → j < length (blocks_to xs r) → get_or (table_to xs (suc r)) (j * 4) 0 ≡ get_or (table_to xs r) (j * 4) 0)
      → Firsts xs (suc r)
  unfolding blocks_to
  other_firsts n same =
      let e = other_length (blocks_to xs r) w n in
      record {
        many = rw (other_openings n, e) F.many;
        each = λ j h. let l : j < length (blocks_to xs r) = rw e at h in rw (other_openings n, same j l) (F.each j l);
      }

  open_firsts : w.kind ≡ 0 → w.block ≡ length (blocks_to xs r) → length (blocks_to xs r) < max_blocks → Firsts xs (suc r)
  unfolding blocks_to
  open_firsts q at room = record { many = count; each = λ j h. go j h (ℕ_discrete j (length (blocks_to xs r))) }
    where
      m : ℕ
      m = length (blocks_to xs r)

      os : openings xs (suc r) ≡ openings xs r ++ ((r + 1) ∷ [])
      os = openings-next xs r ∙ ap (λ (l : List ℕ). openings xs r ++ l) (eq_then w.kind 0 ((r + 1) ∷ []) [] q)

      t : table_to xs (suc r) ≡ open_indexed (table_to xs r) (length (blocks_to xs r) * 4) r (cell xs r 3)
      t = rw at at (open_indexed_lem xs (blocks_to xs (r + 0)) r k ok same q)

      count : length (openings xs (suc r)) ≡ length (add_row (blocks_to xs r) w)
      count = rw os (omega (arith, length-append (openings xs r) ((r + 1) ∷ []), F.many, opening-length (blocks_to xs r) w q))

      go : (j : ℕ) → j < length (add_row (blocks_to xs r) w) → Dec (j ≡ length (blocks_to xs r)) → get_or (openings xs (suc r)) j 0 ≡ get_or (table_to xs (suc r)) (j * 4) 0 + 1
      go j h (yes e) =
          rw (e, os, t, open_first (table_to xs r) (length (blocks_to xs r) * 4) r (cell xs r 3) T.size (omega arith), ← F.many)
          (get_or-append_seam (openings xs r) (r + 1) [] 0)
      go j h (no n) =
          let l : j < length (blocks_to xs r) = omega (arith, opening-length (blocks_to xs r) w q) in
          rw (os, t, open_other (table_to xs r) (length (blocks_to xs r) * 4) r (cell xs r 3) T.size (omega arith) (j * 4) (omega arith))
          (get_or-append (openings xs r) ((r + 1) ∷ []) 0 j (omega (arith, F.many)) ∙ F.each j l)

  -- The places of links, uses and totals are other places than the first ones.
  apart : (j c d : ℕ) → 1 ≤ d → d < 4 → j * 4 ≢ c * 4 + d
  apart j c d h l e = go (dec_le j c)
    where
      go : Dec (j ≤ c) → ⊥
      go (yes x) = omega arith
      go (no x) = omega arith

  link-firsts : w.kind ≡ 1 → Firsts xs (suc r)
  link-firsts q =
      other_firsts (λ e. omega arith)
      (λ j h. rw (link-indexed xs (blocks_to xs (r + 0)) r k ok same q)
      (put_other _ (w.block * 4 + 1) (r + 1) (j * 4) (apart j w.block 1 (omega arith) (omega arith))
      ∙ put_other (table_to xs r) (w.block * 4 + 2) (r + 1) (j * 4) (apart j w.block 2 (omega arith) (omega arith))))

  use_firsts : w.kind ≡ 2 → Firsts xs (suc r)
  unfolding use_indexed
  use_firsts q =
      other_firsts (λ e. omega arith)
      (λ j h. rw (use_indexed_lem xs (blocks_to xs (r + 0)) r k ok same q)
      (put_other _ (w.block * 4 + 3) _ (j * 4) (apart j w.block 3 (omega arith) (omega arith))
      ∙ put_other (table_to xs r) (w.block * 4 + 2) (r + 1) (j * 4) (apart j w.block 2 (omega arith) (omega arith))))

  next-firsts : Firsts xs (suc r)
  next-firsts = go (kind-of (seen_to xs r) w (faultless (seen_to xs r) w ok).follows)
    where
      go : Kind (seen_to xs r) w → Firsts xs (suc r)
      go (opens q h few) = open_firsts q (h ∙ k.tracks.count) (omega (arith, k.tracks.count))
      go (links q h) = link-firsts q
      go (uses q h) = use_firsts q

pub firsts : (xs : List ℕ) (r : ℕ) → Fine xs r → Firsts xs r
unfolding rows_from opening_rows blocks_to
firsts xs zero f = record { many = refl; each = λ k h. absurd (omega arith) }
firsts xs (suc r) f =
    let g : Fine xs r = λ q h. f q (omega arith) in
    next-firsts xs r g (f r (omega arith)) (firsts xs r g)

-- The index of all rows.
pub indexed : (xs : List ℕ) → Fine xs (row_count xs) → ((k : ℕ) → total (blocks_of xs) k ≤ max_total) → Indexed xs (table_to xs (row_count xs))
unfolding blocks_of rows_of opening_row
indexed xs f small = record { size = T.size; at = λ k h. entry k (rw bs at h) }
  where
    n : ℕ
    n = row_count xs

    bs : add_rows [] (rows_from xs 0 n) ≡ blocks_to xs n
    bs = blocks-all xs n

    zero_more : n + 0 ≡ n
    zero_more = omega arith

    T : TableFor xs (blocks_to xs n) (table_to xs n) n (blocks_to xs n) (seen_to xs n).before.kind
    T = rw zero_more at (tables xs 0 n f)

    entry : (k : ℕ) → k < length (blocks_to xs n) → IndexedBlock xs (table_to xs n) k
    entry k h =
        let e = T.each k h in
        let x : 4 * k ≡ k * 4 = omega arith in
        record {
          opening = rw x ((firsts xs n f).each k h);
          opens = rw x e.opens;
          links = rw x e.links;
          ends = rw x e.ends;
          block = rw (x, bs) e.block;
          total = rw (x, bs) (e.total ∙ capped-fit _ (rw bs at (small k)));
        }

-- A check of all blocks, by the table.
row_number : (r : ℕ) → r < max_rows → row_number_of r ≡ r + 1
unfolding row_number_of
row_number r h = lt_then _ _ _ _ h

placed-none : (number : ℕ) → placed number 0 ≡ Accepted
unfolding placed
placed-none number = eq_then _ _ _ _ refl

placed-some : (number p : ℕ) → (p ≡ 0 → ⊥) → placed number p ≡ refused number p
unfolding placed
placed-some number p n = eq_else _ _ _ _ n

blocks-by_table : (number : ℕ) (ok ok' : ℕ → Bool) (t : List ℕ) (k : ℕ) (rs : List ℕ)
    → ((j : ℕ) → k ≤ j → j < k + length rs → ok j ≡ ok' j)
    → ((j : ℕ) → j < length rs → (get_or rs j 0 ≡ get_or t ((k + j) * 4) 0 + 1) × (get_or t ((k + j) * 4) 0 < max_rows))
    → check_blocks number ok k rs ≡ placed number (place_from ok' t k (length rs))
unfolding check_blocks place_from
blocks-by_table number ok ok' t k [] h g = sym (placed-none number)
blocks-by_table number ok ok' t k (r ∷ rs) h g =
    go (ok k) refl (blocks-by_table number ok ok' t (suc k) rs (λ j a l. h j (omega arith) (omega arith)) (λ j l. later j l))
  where
    later : (j : ℕ) → j < length rs → (get_or rs j 0 ≡ get_or t ((suc k + j) * 4) 0 + 1) × (get_or t ((suc k + j) * 4) 0 < max_rows)
    later j l = let e : k + suc j ≡ suc k + j = omega arith in rw e at (g (suc j) (omega arith))

    first : (r ≡ get_or t (k * 4) 0 + 1) × (get_or t (k * 4) 0 < max_rows)
    first = let e : k + 0 ≡ k = omega arith in rw e at (g 0 (omega arith))

    at : ok k ≡ ok' k
    at = h k (omega arith) (omega arith)

    one : k + 1 ≡ suc k
    one = omega arith

    go : (b : Bool) → ok k ≡ b → check_blocks number ok (suc k) rs ≡ placed number (place_from ok' t (suc k) (length rs))
        → check_blocks number ok k (r ∷ rs) ≡ placed number (place_from ok' t k (suc (length rs)))
    go true e below = rw (e, check_blocks, true_then (ok' k) (place_from ok' t (k + 1) (length rs)) (row_number_of (get_or t (k * 4) 0)) (sym at ∙ e), one) below
    go false e below =
        rw (e, check_blocks, true_else (ok' k) (place_from ok' t (k + 1) (length rs)) (row_number_of (get_or t (k * 4) 0)) (sym at ∙ e), row_number (get_or t (k * 4) 0) first.1)
        (rw (← first.0) (sym (placed-some number r (λ z. omega (arith, first.0)))))

-- The two tests of a block, by the table.
module _ (xs : List ℕ) (all : List Block) (t : List ℕ) (r : ℕ) (bs : List Block) (kind : ℕ) (T : TableFor xs all t r bs kind) (k : ℕ) (h : k < length bs) where
  joins-table : joins_at xs t k ≡ joins_of bs k
  unfolding joins_at joins_of block_from cell
  joins-table = ap (λ (b : Block). b.joins) (sym (T.each k h).block)

  own-table : own_at xs t k ≡ own_of bs k
  unfolding own_at own_of block_from cell
  own-table = ap (λ (b : Block). b.own) (sym (T.each k h).block)

  stands-table : may_stand bs k ≡ stands_at xs t (length bs) k
  unfolding may_stand stands_at
  stands-table = let e : suc k ≡ k + 1 = omega arith in rw (joins-table, own-table, e)

  fits-table : total_fits bs k ≡ fits_at t k
  unfolding total_fits fits_at
  fits-table = rw (T.each k h).total (go (dec_lt max_total (total bs k)))
    where
      go : Dec (max_total < total bs k) → if_lt max_total (total bs k) false true ≡ if_lt max_total (capped (total bs k)) false true
      go (yes l) = lt_then _ _ _ _ l ∙ sym (lt_then _ _ _ _ (rw (capped-over (total bs k) l) (omega arith)))
      go (no l) = lt_else _ _ _ _ (omega arith) ∙ sym (lt_else _ _ _ _ (rw (capped-fit (total bs k) (omega arith)) (omega arith)))

-- Checks 9 and 10 of n rows without a fault.
module _ (xs : List ℕ) (n : ℕ) (f : Fine xs n) (few : n ≤ max_rows) where
  abbrev t : List ℕ
  t = table_to xs n

  abbrev bs : List Block
  bs = blocks_to xs n

  all_blocks : (number : ℕ) (ok ok' : ℕ → Bool) → ((j : ℕ) → j < length bs → ok j ≡ ok' j)
      → check_blocks number ok 0 (openings xs n) ≡ placed number (place_from ok' t 0 (length bs))
  all_blocks number ok ok' h =
      let F = firsts xs n f in
      rw F.many at (blocks-by_table number ok ok' t 0 (openings xs n) (λ j a l. h j (omega (arith, F.many))) (λ j l. at j (rw F.many at l)))
    where
      at : (j : ℕ) → j < length bs → (get_or (openings xs n) j 0 ≡ get_or t ((0 + j) * 4) 0 + 1) × (get_or t ((0 + j) * 4) 0 < max_rows)
      at j l =
          let e : 0 + j ≡ j = omega arith in
          let E = (tables xs 0 n f).each j l in
          rw e ((firsts xs n f).each j l, omega (arith, E.opens, E.links, E.ends))

  pub ends-law : check_blocks 9 (may_stand bs) 0 (openings xs n) ≡ placed 9 (place_from (passes_at 9 xs t (length bs)) t 0 (length bs))
  unfolding passes_at
  ends-law = all_blocks 9 (may_stand bs) (passes_at 9 xs t (length bs)) (λ j l. stands-table xs _ t n bs _ (tables xs 0 n f) j l ∙ sym (eq_then _ _ _ _ refl))

  pub totals-law : check_blocks 10 (total_fits bs) 0 (openings xs n) ≡ placed 10 (place_from (passes_at 10 xs t (length bs)) t 0 (length bs))
  unfolding passes_at
  totals-law = all_blocks 10 (total_fits bs) (passes_at 10 xs t (length bs)) (λ j l. fits-table xs _ t n bs _ (tables xs 0 n f) j l ∙ sym (eq_else _ _ _ _ (λ e. omega arith)))
