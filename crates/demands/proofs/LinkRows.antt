-- The link rows of a block stand one behind another from the row behind its opening on, so a link with its origin in a copy is one of the block's link rows.
use Prim.Native.Nat.{ℕ, suc, ◌-◌, ◌≤◌, ◌<◌}
use native.Mathlib.Omega.{arith}
use native.Mathlib.Decide.{ℕ_discrete, dec_lt}
use native.Mathlib.Nat.{sub-zero}
use mathlib.Core.Path.{◌≡◌, refl, sym, ◌∙◌, ap, ap₂}
use mathlib.Core.Logic.{◌⊎◌, inl, inr}
use mathlib.Core.List.Memᴰ
use mathlib.Core.List.{List, [], ◌∷◌, Memᴰ}
use lib.ListN.{get_or}
use Rattle.model.specs.Rows.{Row, row_count, rows_of}
use Rattle.model.specs.Blocks.{Link}
use Rattle.model.specs.Verdicts.{opening_rows}
use Rattle.model.specs.Unfolding.{renamed}
use Rattle.model.specs.Behind.{Traced, rows_traced, opening_row}
use Rattle.basics.proofs.Choices.{eq_then, eq_else}
use Rattle.shows.proofs.TracedByPath.{trace}
use Rattle.demands.specs.Acceptance.{nth_row, IsRow, column, Links, Uses, Follows, next-block, next-link, next-use, InPlace}
use Rattle.demands.specs.Blocks.{links_in}
use Rattle.demands.proofs.Openings.{OpenedBefore, Comes, opening, link, later-use, from_place, opened-next}
use Rattle.demands.proofs.Stages.{by_rows}
use Rattle.demands.proofs.PartsOfRows.{both_known, both_then, both_else, picked}

-- The link of a link row.
abbrev pub row_link : Row → Link
row_link w = record { from = column w 1; to = column w 2; label = w.label }

-- A link row of block j: one thing if a row is one, else another.
abbrev LinkOf : ℕ → Row → Type 0
LinkOf j w = Links w × (w.block ≡ j)

link-known : (j : ℕ) (w : Row) → Dec (LinkOf j w)
link-known j w = both_known w.kind 1 w.block j

module _ {A : Type 0} (j : ℕ) (w : Row) (x y : A) where
  link-then : LinkOf j w → picked w 1 j x y ≡ x
  link-then (k, b) = both_then w.kind 1 w.block j x y k b

  link-else : (LinkOf j w → ⊥) → picked w 1 j x y ≡ y
  link-else n = both_else w.kind 1 w.block j x y n

-- Behind row v no link of block j can come.
abbrev Over : ℕ → Row → Type 0
Over j v = (j < v.block) ⊎ ((j ≡ v.block) × Uses v)

over-next : (j : ℕ) (v w : Row) → Follows v w → Over j v → Over j w × (LinkOf j w → ⊥)
over-next j v w (next-block q e) (inl h) = (inl (omega arith), λ l. omega arith)
over-next j v w (next-block q e) (inr h) = (inl (omega arith), λ l. omega arith)
over-next j v w (next-link q e o) (inl h) = (inl (omega arith), λ l. omega arith)
over-next j v w (next-link q e (inl o)) (inr h) = absurd (omega arith)
over-next j v w (next-link q e (inr o)) (inr h) = absurd (omega arith)
over-next j v w (next-use q e) (inl h) = (inl (omega arith), λ l. omega arith)
over-next j v w (next-use q e) (inr h) = (inr (omega arith, q), λ l. omega arith)

module _ (xs : List ℕ) (place : (q : ℕ) → IsRow xs q → InPlace xs q) (f : ℕ → ℕ) where
  -- The link rows of block j among some rows, the first of which is row p, each with its number.
  unfoldable link_rows : ℕ → ℕ → List Row → List Traced
  link_rows j p [] = []
  link_rows j p (w ∷ ws) = picked w 1 j (trace [] p (renamed f (row_link w)) ∷ link_rows j (suc p) ws) (link_rows j (suc p) ws)

  -- Their numbers run on from r.
  abbrev Run : ℕ → ℕ → List Row → ℕ → Type 0
  Run j p ws r = link_rows j p ws ≡ rows_traced f r (links_in j ws)

  run-this : (j p : ℕ) (w : Row) (ws : List Row) → LinkOf j w → Run j (suc p) ws (suc p) → Run j p (w ∷ ws) p
  unfolding link_rows links_in rows_traced
  run-this j p w ws l h =
      link-then j w _ _ l ∙ ap (λ (E : List Traced). trace [] p (renamed f (row_link w)) ∷ E) h ∙ ap (rows_traced f p) (sym (link-then j w _ _ l))

  run-other : (j p : ℕ) (w : Row) (ws : List Row) (r : ℕ) → (LinkOf j w → ⊥) → Run j (suc p) ws r → Run j p (w ∷ ws) r
  unfolding link_rows links_in
  run-other j p w ws r n h = link-else j w _ _ n ∙ h ∙ ap (rows_traced f r) (sym (link-else j w _ _ n))

  -- The rows from row p on, where k blocks are opened before it: those of a block that is over; of the last opened; and of one that is still to open.
  record From (p : ℕ) (ws : List Row) : Type 0 where
    over : 1 < p → (j : ℕ) → Over j (nth_row xs (p - 1)) → (r : ℕ) → Run j p ws r
    now : (k : ℕ) → OpenedBefore xs p k → (j : ℕ) → j < k → Run j p ws p
    later : (k : ℕ) → OpenedBefore xs p k → (j : ℕ) → k ≤ j → Run j p ws (suc (get_or (opening_rows p ws) (j - k) 0))

  none_left : (p : ℕ) → From p []
  unfolding link_rows links_in rows_traced
  none_left p = record { over = λ a j o r. refl; now = λ k o j h. refl; later = λ k o j h. refl }

  module _ (p : ℕ) (ws : List Row) (i : IsRow xs p) (below : From (suc p) ws) where
    abbrev w : Row
    w = nth_row xs p

    this : suc p - 1 ≡ p
    this = omega arith

    -- Behind this row block j is over.
    over-here : (j r : ℕ) → Over j w → Run j (suc p) ws r
    over-here j r o = below.over (omega arith) j (rw this o) r

    opened : (k : ℕ) → k ≡ suc w.block → OpenedBefore xs (suc p) k
    opened k e = opened-next xs p k i.0 e

    first-over : 1 < p → (j : ℕ) → Over j (nth_row xs (p - 1)) → (r : ℕ) → Run j p (w ∷ ws) r
    first-over a j o r = let (n, m) = over-next j (nth_row xs (p - 1)) w ((place p i).1 a) o in run-other j p w ws r m (over-here j r n)

    first-now : (k : ℕ) → (j : ℕ) → j < k → Comes xs p k → Run j p (w ∷ ws) p
    first-now k j h (opening q e) = run-other j p w ws p (λ l. omega arith) (over-here j p (inl (omega arith)))
    first-now k j h (later-use q e l) = run-other j p w ws p (λ l. omega arith) (over-here j p (go (dec_lt j w.block)))
      where
        go : Dec (j < w.block) → Over j w
        go (yes a) = inl a
        go (no a) = inr (omega arith, q)
    first-now k j h (link q e l m) = go (dec_lt j w.block)
      where
        go : Dec (j < w.block) → Run j p (w ∷ ws) p
        go (yes a) = run-other j p w ws p (λ l. omega arith) (over-here j p (inl a))
        go (no a) = run-this j p w ws (q, omega arith) (below.now k (opened k (omega arith)) j h)

    first-later : (k : ℕ) (j : ℕ) → k ≤ j → Comes xs p k → Run j p (w ∷ ws) (suc (get_or (opening_rows p (w ∷ ws)) (j - k) 0))
    unfolding opening_rows
    first-later k j h (opening q e) =
        rw (eq_then w.kind 0 (p ∷ opening_rows (suc p) ws) _ q) (run-other j p w ws _ (λ l. omega arith) (go (ℕ_discrete j k)))
      where
        go : Dec (j ≡ k) → Run j (suc p) ws (suc (get_or (p ∷ opening_rows (suc p) ws) (j - k) 0))
        go (yes a) = let z : j - k ≡ 0 = omega arith in rw z (below.now (suc k) (opened (suc k) (omega arith)) j (omega arith))
        go (no a) = let z : j - k ≡ suc (j - suc k) = omega arith in rw z (below.later (suc k) (opened (suc k) (omega arith)) j (omega arith))
    first-later k j h (link q e l m) =
        rw (eq_else w.kind 0 (p ∷ opening_rows (suc p) ws) _ (λ z. omega arith))
        (run-other j p w ws _ (λ l. omega arith) (below.later k (opened k (omega arith)) j h))
    first-later k j h (later-use q e l) =
        rw (eq_else w.kind 0 (p ∷ opening_rows (suc p) ws) _ (λ z. omega arith))
        (run-other j p w ws _ (λ l. omega arith) (below.later k (opened k (omega arith)) j h))

    one-first : From p (w ∷ ws)
    one-first =
        record {
          over = first-over;
          now = λ k o j h. first-now k j h (from_place xs p k i.0 o (place p i));
          later = λ k o j h. first-later k j h (from_place xs p k i.0 o (place p i));
        }

  all-run : (j : ℕ) → Run j 1 (rows_of xs) (suc (opening_row xs j))
  unfolding opening_row
  all-run j =
      rw sub-zero at
      ((by_rows xs From (none_left _) (λ p ws i below. one-first p ws i below)).later 0 (λ e. refl, λ l. absurd (omega arith)) j (omega arith))

  -- Which rows these are: r is one of the link rows of block j from row p on, and l is its link.
  module _ (j r : ℕ) (l : Link) where
    pub record IsLinkRow : Type 0 where
      pub is : IsRow xs r
      pub links : Links (nth_row xs r)
      pub block : (nth_row xs r).block ≡ j
      pub link : l ≡ renamed f (row_link (nth_row xs r))

    -- A member of the list is one,
    abbrev Found : ℕ → List Row → Type 0
    Found p ws = Memᴰ (trace [] r l) (link_rows j p ws) → IsLinkRow

    found_first : (p : ℕ) (ws : List Row) → IsRow xs p → Found (suc p) ws → Found p (nth_row xs p ∷ ws)
    unfolding link_rows
    found_first p ws i below m = go (link-known j w)
      where
        w : Row
        w = nth_row xs p

        here : LinkOf j (nth_row xs p)
            → (trace [] r l ≡ trace [] p (renamed f (row_link (nth_row xs p)))) ⊎ Memᴰ (trace [] r l) (link_rows j (suc p) ws) → IsLinkRow
        here (k, b) (inl e) =
            let z : r ≡ p = ap (λ (x : Traced). x.origin.row) e in
            record { is = rw z i; links = rw z k; block = rw z b; link = rw z (ap (λ (x : Traced). x.link) e) }
        here (k, b) (inr n) = below n

        go : Dec (LinkOf j (nth_row xs p)) → IsLinkRow
        go (yes k) = here k (Memᴰ.cases_cons (rw (link-then j w _ (link_rows j (suc p) ws) k) at m))
        go (no k) = below (rw (link-else j w _ (link_rows j (suc p) ws) k) at m)

    none_found : (p : ℕ) → Found p []
    unfolding link_rows
    none_found p m = absurd (Memᴰ.not-nil m)

    -- and such a row is a member.
    abbrev Held : ℕ → List Row → Type 0
    Held p ws = p ≤ r → IsLinkRow → Memᴰ (trace [] r l) (link_rows j p ws)

    held_first : (p : ℕ) (ws : List Row) → IsRow xs p → Held (suc p) ws → Held p (nth_row xs p ∷ ws)
    unfolding link_rows
    held_first p ws i below h k = go (ℕ_discrete r p)
      where
        w : Row
        w = nth_row xs p

        skip : p < r → Dec (LinkOf j (nth_row xs p)) → Memᴰ (trace [] r l) (link_rows j p (nth_row xs p ∷ ws))
        skip a (yes q) = rw (link-then j w _ (link_rows j (suc p) ws) q) (Memᴰ.tail (below a k))
        skip a (no q) = rw (link-else j w _ (link_rows j (suc p) ws) q) (below a k)

        go : Dec (r ≡ p) → Memᴰ (trace [] r l) (link_rows j p (nth_row xs p ∷ ws))
        go (yes z) =
            rw (link-then j w _ (link_rows j (suc p) ws) (rw z at k.links, rw z at k.block))
            (Memᴰ.head (ap₂ (trace []) z (k.link ∙ ap (λ (n : ℕ). renamed f (row_link (nth_row xs n))) z)))
        go (no z) = skip (omega arith) (link-known j w)

    none-held : Held (suc (row_count xs)) []
    none-held h k = absurd (omega (arith, k.is))

    -- So of the links of block j, numbered from the row behind its opening on.
    pub is-link_row : Memᴰ (trace [] r l) (rows_traced f (suc (opening_row xs j)) (links_in j (rows_of xs))) → IsLinkRow
    is-link_row m = by_rows xs Found (none_found _) found_first (rw (all-run j) m)

    pub link-row_is : IsLinkRow → Memᴰ (trace [] r l) (rows_traced f (suc (opening_row xs j)) (links_in j (rows_of xs)))
    link-row_is k = rw (← all-run j) (by_rows xs Held none-held held_first k.is.0 k)
