-- What the checks carry from row to row is what the rows say: the joins and own cues of the blocks are those of their opening rows.
use Prim.Native.Nat.{ℕ, suc, ◌+◌, ◌-◌, ◌≤◌, ◌<◌}
use native.Mathlib.Omega.{arith}
use native.Mathlib.Decide.{ℕ_discrete, dec_lt}
use mathlib.Core.Path.{◌≡◌, refl, sym, ◌∙◌, ap}
use mathlib.Core.List.{List, [], ◌∷◌, ◌++◌}
use lib.ListN.{length, get_or, length-append, get_or-append}
use lib.Seq.{get_or-append_seam}
use Rattle.model.specs.Rows.{Row, row_at, rows_of}
use Rattle.model.specs.Rules.{Seen, start, fault, after}
use Rattle.model.specs.Blocks.{Block, add_row}
use Rattle.basics.proofs.Choices.{eq_then, eq_else}
use Rattle.shows.proofs.Passed.{faultless, Kind, opens, links, uses, kind-of}
use Rattle.shows.proofs.Tracks.{Tracks, tracks_start, tracks_step}
use Rattle.demands.specs.Acceptance.{nth_row, column, IsRow, Opens, opening_in, joins_in, own_in}
use Rattle.demands.proofs.Openings.{OpenedBefore, opened-next, opening-row}

-- What is known before row p. The blocks bs are those of the rows before it.
pub record Knows (xs : List ℕ) (p : ℕ) (s : Seen) (bs : List Block) : Type 0 where
  pub tracks : Tracks s bs
  pub count : OpenedBefore xs p (length s.joins)
  pub before : 1 < p → s.before ≡ nth_row xs (p - 1)
  pub joins : (k : ℕ) → k < length s.joins → get_or s.joins k 0 ≡ joins_in xs k
  pub own : 0 < length s.joins → s.own ≡ own_in xs (length s.joins - 1)
  pub lower : (q : ℕ) → 1 ≤ q → q < p → Opens (nth_row xs q) → (nth_row xs q).block < length s.joins
  pub first : (q : ℕ) → 1 ≤ q → q < p → Opens (nth_row xs q) → opening_in (rows_of xs) (nth_row xs q).block ≡ nth_row xs q

-- Before the first row.
pub knows_start : (xs : List ℕ) → Knows xs 1 start []
unfolding start
knows_start xs =
    record {
      tracks = tracks_start;
      count = (λ e. refl, λ l. absurd (omega arith));
      before = λ l. absurd (omega arith);
      joins = λ k l. absurd (omega arith);
      own = λ l. absurd (omega arith);
      lower = λ q a b. absurd (omega arith);
      first = λ q a b. absurd (omega arith);
    }

-- A row has eight columns.
pub eight : (xs : List ℕ) (p : ℕ) → length (nth_row xs p).columns ≡ 8
unfolding row_at
eight xs p = refl

-- What holds up to row p and at it, holds up to the next.
up_to : (P : ℕ → Type 0) (p : ℕ) → ((q : ℕ) → 1 ≤ q → q < p → P q) → P p → (q : ℕ) → 1 ≤ q → q < suc p → P q
up_to P p h l q a b = go (ℕ_discrete q p)
  where
    go : Dec (q ≡ p) → P q
    go (yes e) = rw e l
    go (no n) = h q a (omega arith)

module _ (xs : List ℕ) (p : ℕ) (s : Seen) (bs : List Block) (i : IsRow xs p) (k : Knows xs p s bs) where
  -- The row before the next.
  this : suc p - 1 ≡ p
  this = omega arith

  -- A row that opens the next block.
  opened : (t : Seen) (cs : List Block) → Tracks t cs → Opens (nth_row xs p) → (nth_row xs p).block ≡ length s.joins
      → t.joins ≡ s.joins ++ ((nth_row xs p).label ∷ []) → t.own ≡ column (nth_row xs p) 1 → t.before ≡ nth_row xs p
      → Knows xs (suc p) t cs
  unfolding joins_in own_in
  opened t cs tracks o b j w v =
      record {
        tracks = tracks;
        count = opened-next xs p (length t.joins) i.0 (omega (arith, longer));
        before = λ l. rw this v;
        joins = λ n h. at n h (dec_lt n (length s.joins));
        own = λ h. let e : length t.joins - 1 ≡ length s.joins = omega (arith, longer) in rw e (w ∙ sym (ap (λ (r : Row). column r 1) new));
        lower = up_to (λ q. Opens (nth_row xs q) → (nth_row xs q).block < length t.joins) p
            (λ q a h z. omega (arith, longer, k.lower q a h z))
            (λ z. omega (arith, longer));
        first = up_to (λ q. Opens (nth_row xs q) → opening_in (rows_of xs) (nth_row xs q).block ≡ nth_row xs q) p k.first
            (λ z. ap (λ (n : ℕ). opening_in (rows_of xs) n) b ∙ new);
      }
    where
      longer : length t.joins ≡ length s.joins + 1
      longer = rw j (length-append s.joins ((nth_row xs p).label ∷ []))

      new : opening_in (rows_of xs) (length s.joins) ≡ nth_row xs p
      new = opening-row xs p (length s.joins) i o b (λ q a h z e. omega (arith, k.lower q a h z))

      at : (n : ℕ) → n < length t.joins → Dec (n < length s.joins) → get_or t.joins n 0 ≡ joins_in xs n
      at n h (yes l) = rw (j, get_or-append s.joins ((nth_row xs p).label ∷ []) 0 n l) (k.joins n l)
      at n h (no l) =
          let e : n ≡ length s.joins = omega (arith, longer) in
          rw (j, e, get_or-append_seam s.joins (nth_row xs p).label [] 0) (sym (ap (λ (w : Row). w.label) new))

  -- A row of the current block.
  went_on : (t : Seen) (cs : List Block) → Tracks t cs → (Opens (nth_row xs p) → ⊥) → (nth_row xs p).block + 1 ≡ length s.joins
      → t.joins ≡ s.joins → t.own ≡ s.own → t.before ≡ nth_row xs p → Knows xs (suc p) t cs
  went_on t cs tracks n b j w v =
      record {
        tracks = tracks;
        count = opened-next xs p (length t.joins) i.0 (rw j (omega arith));
        before = λ l. rw this v;
        joins = rw j k.joins;
        own = rw (j, w) k.own;
        lower = up_to (λ q. Opens (nth_row xs q) → (nth_row xs q).block < length t.joins) p (rw j k.lower) (λ z. absurd (n z));
        first = up_to (λ q. Opens (nth_row xs q) → opening_in (rows_of xs) (nth_row xs q).block ≡ nth_row xs q) p k.first (λ z. absurd (n z));
      }

  -- A row that passes.
  pub knows-next : fault s (nth_row xs p) ≡ 0 → Knows xs (suc p) (after s (nth_row xs p)) (add_row bs (nth_row xs p))
  unfolding after
  knows-next f = go (kind-of s w (faultless s w f).follows)
    where
      w : Row
      w = nth_row xs p

      tracks : Tracks (after s w) (add_row bs w)
      tracks = tracks_step s w bs (eight xs p) f k.tracks

      on : (w.kind ≡ 0 → ⊥) → w.block + 1 ≡ length s.joins → Knows xs (suc p) (after s w) (add_row bs w)
      on n h = rw (eq_else w.kind 0 _ _ n) (went_on _ _ (rw (eq_else w.kind 0 _ _ n) at tracks) n h refl refl refl)

      go : Kind s w → Knows xs (suc p) (after s w) (add_row bs w)
      go (opens q h few) = rw (eq_then w.kind 0 _ _ q) (opened _ _ (rw (eq_then w.kind 0 _ _ q) at tracks) q h refl refl refl)
      go (links q h) = on (λ z. omega arith) h
      go (uses q h) = on (λ z. omega arith) h
