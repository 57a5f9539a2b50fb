-- What the pass carries from row to row is what the model's checks know, as long as no row has a fault.
use Prim.Native.Nat.{ℕ, zero, suc, ◌+◌, ◌*◌, ◌-◌, ◌≤◌}
use native.Mathlib.Omega.{arith}
use native.Mathlib.Decide.{ℕ_discrete}
use mathlib.Core.Path.{◌≡◌, refl, sym, ◌∙◌, ap}
use mathlib.Core.List.{List, [], ◌∷◌, ◌++◌}
use lib.ListN.{length, get_or, length-append}
use lib.Seq.{get_or-append_seam}
use Rattle.model.specs.Limits.{row_size, max_joins, max_own}
use Rattle.model.specs.Rows.{Row, cell, row_at, rows_from}
use Rattle.model.specs.Rules.{Seen, start, cues_in, fault, after}
use Rattle.model.specs.Blocks.{add_row, add_rows}
use Rattle.basics.proofs.Choices.{eq_then, eq_else, lt_else}
use Rattle.shows.proofs.AtBlock.{head_small}
use Rattle.shows.proofs.Tracks.{Tracks, tracks_start, tracks_step}
use Rattle.verdicts.specs.Passing.{cues_of, next_state, seen_to, state_to, blocks_to, Fine}

-- The blocks of the first rows, by rows and by steps.
pub blocks-on : (xs : List ℕ) (n r : ℕ) → add_rows (blocks_to xs r) (rows_from xs r n) ≡ blocks_to xs (r + n)
unfolding rows_from add_rows blocks_to
blocks-on xs zero r = let e : r + 0 ≡ r = omega arith in rw e
blocks-on xs (suc n) r =
    let e : r + 1 ≡ suc r = omega arith in
    let f : suc r + n ≡ r + suc n = omega arith in
    rw (e, ← f) (blocks-on xs n (suc r))

pub blocks-all : (xs : List ℕ) (n : ℕ) → add_rows [] (rows_from xs 0 n) ≡ blocks_to xs n
unfolding blocks_to
blocks-all xs n = let e : 0 + n ≡ n = omega arith in rw e at (blocks-on xs n 0)

pub record KnownRows (xs : List ℕ) (r : ℕ) : Type 0 where
  pub tracks : Tracks (seen_to xs r) (blocks_to xs r)
  pub blocks : (state_to xs r).blocks ≡ length (seen_to xs r).joins
  pub cues : (state_to xs r).cues ≡ cues_in (seen_to xs r)
  pub kind : (state_to xs r).kind ≡ (seen_to xs r).before.kind
  pub same : ((seen_to xs r).before.kind ≡ 0 → ⊥) → (seen_to xs r).before ≡ row_at xs (r - 1)

pub known_start : (xs : List ℕ) → KnownRows xs 0
unfolding seen_to state_to blocks_to start cues_in
known_start xs =
    record { tracks = tracks_start; blocks = refl; cues = omega arith; kind = refl; same = λ n. absurd (n refl) }

-- The cues of a block that was just opened.
opened-cues : (own label : ℕ) → own ≤ max_own → label ≤ max_joins → cues_of own label ≡ own + label
unfolding cues_of
opened-cues own label h k = lt_else _ _ _ _ h ∙ lt_else _ _ _ _ k

opened-seen : (joins : List ℕ) (own label : ℕ) (w : Row) → cues_in (record { joins = joins ++ (label ∷ []); own = own; before = w }) ≡ own + label
unfolding cues_in
opened-seen joins own label w =
    let e : length (joins ++ (label ∷ [])) - 1 ≡ length joins = omega (arith, length-append joins (label ∷ [])) in
    rw (e, get_or-append_seam joins label [] 0)

module _ (xs : List ℕ) (r : ℕ) (k : KnownRows xs r) (ok : fault (seen_to xs r) (row_at xs r) ≡ 0) where
  abbrev pub s : Seen
  s = seen_to xs r

  abbrev pub w : Row
  w = row_at xs r

  eight : length w.columns ≡ 8
  unfolding row_at
  eight = refl

  tracked : Tracks (after s w) (add_row (blocks_to xs r) w)
  tracked = tracks_step s w (blocks_to xs r) eight ok k.tracks

  kind-is : w.kind ≡ get_or xs (r * row_size + 1) 0
  unfolding row_at cell
  kind-is = refl

  open_small : w.kind ≡ 0 → (get_or xs (r * row_size + 3) 0 ≤ max_own) × (get_or xs (r * row_size + 2) 0 ≤ max_joins)
  unfolding add_row row_at cell
  open_small q = head_small (rw (eq_then w.kind 0 _ _ q) at tracked.small)

  after_open : w.kind ≡ 0 → after s w ≡ record { joins = s.joins ++ (w.label ∷ []); own = get_or w.columns 0 0; before = w }
  unfolding after
  after_open q = eq_then _ _ _ _ q

  after-other : (w.kind ≡ 0 → ⊥) → after s w ≡ record { joins = s.joins; own = s.own; before = w }
  unfolding after
  after-other n = eq_else _ _ _ _ n

  pub after-before : (after s w).before ≡ w
  after-before = go (ℕ_discrete w.kind 0)
    where
      go : Dec (w.kind ≡ 0) → (after s w).before ≡ w
      go (yes q) = ap (λ (x : Seen). x.before) (after_open q)
      go (no n) = ap (λ (x : Seen). x.before) (after-other n)

  next-open : w.kind ≡ 0
      → state_to xs (suc r)
      ≡ record { blocks = (state_to xs r).blocks + 1; cues = cues_of (get_or xs (r * row_size + 3) 0) (get_or xs (r * row_size + 2) 0); kind = get_or xs (r * row_size + 1) 0 }
  unfolding state_to next_state
  next-open q = eq_then _ _ _ _ (sym kind-is ∙ q)

  next-other : (w.kind ≡ 0 → ⊥)
      → state_to xs (suc r) ≡ record { blocks = (state_to xs r).blocks; cues = (state_to xs r).cues; kind = get_or xs (r * row_size + 1) 0 }
  unfolding state_to next_state
  next-other n = eq_else _ _ _ _ (λ e. n (kind-is ∙ e))

  -- The parts of what is known after the row.
  blocks-next : (state_to xs (suc r)).blocks ≡ length (after s w).joins
  blocks-next = go (ℕ_discrete w.kind 0)
    where
      go : Dec (w.kind ≡ 0) → (state_to xs (suc r)).blocks ≡ length (after s w).joins
      go (yes q) = rw (next-open q, after_open q) (omega (arith, k.blocks, length-append s.joins (w.label ∷ [])))
      go (no n) = rw (next-other n, after-other n) k.blocks

  cues-same : cues_in (record { joins = s.joins; own = s.own; before = w }) ≡ cues_in s
  unfolding cues_in
  cues-same = refl

  cues-open : cues_of (get_or xs (r * row_size + 3) 0) (get_or xs (r * row_size + 2) 0) ≡ cues_of (get_or w.columns 0 0) w.label
  unfolding row_at cell
  cues-open = refl

  small : w.kind ≡ 0 → (get_or w.columns 0 0 ≤ max_own) × (w.label ≤ max_joins)
  unfolding row_at cell
  small q = open_small q

  cues-next : (state_to xs (suc r)).cues ≡ cues_in (after s w)
  cues-next = go (ℕ_discrete w.kind 0)
    where
      go : Dec (w.kind ≡ 0) → (state_to xs (suc r)).cues ≡ cues_in (after s w)
      go (yes q) =
          rw (next-open q, after_open q)
          (cues-open ∙ opened-cues _ _ (small q).0 (small q).1 ∙ sym (opened-seen s.joins (get_or w.columns 0 0) w.label w))
      go (no n) = rw (next-other n, after-other n) (k.cues ∙ sym cues-same)

  kind-next : (state_to xs (suc r)).kind ≡ (after s w).before.kind
  kind-next = go (ℕ_discrete w.kind 0)
    where
      go : Dec (w.kind ≡ 0) → (state_to xs (suc r)).kind ≡ (after s w).before.kind
      go (yes q) = rw (next-open q, after-before) (sym kind-is)
      go (no n) = rw (next-other n, after-before) (sym kind-is)

  pub known_next : KnownRows xs (suc r)
  unfolding seen_to blocks_to
  known_next =
      let e : suc r - 1 ≡ r = omega arith in
      record { tracks = tracked; blocks = blocks-next; cues = cues-next; kind = kind-next; same = λ n. rw e after-before }

-- As long as no row has a fault.
pub known : (xs : List ℕ) (r : ℕ) → Fine xs r → KnownRows xs r
known xs zero f = known_start xs
known xs (suc r) f = known_next xs r (known xs r (λ q h. f q (omega arith))) (f r (omega arith))
