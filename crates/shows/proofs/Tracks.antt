-- What the checks of rows carry along agrees with the blocks of the rows so far, and these blocks are well formed.
use Prim.Native.Nat.{ℕ, ◌+◌, ◌-◌, ◌≤◌, ◌<◌}
use native.Mathlib.Omega.{arith}
use native.Mathlib.Decide.{ℕ_discrete, dec_lt}
use mathlib.Core.Path.{◌≡◌, refl, sym, ◌∙◌, ap}
use mathlib.Core.Bool.{true, false}
use mathlib.Core.Logic.{◌⊎◌, inl, inr, ◌≢◌}
use mathlib.Core.List.Memᴰ
use mathlib.Core.List.{List, [], ◌∷◌, ◌++◌, Memᴰ}
use lib.ListN.{length, get_or, take, length-append, get_or-append, get_or-eq_default}
use lib.Seq.{get_or-append_seam, get_or-take, length-take-le}
use Rattle.model.specs.Choice.{if_lt, if_eq}
use Rattle.model.specs.Limits.{max_joins, max_own, max_label, max_blocks}
use Rattle.model.specs.Rows.{Row}
use Rattle.model.specs.Rules.{Seen, start, cues_in, columns_used, named, every, is_cue, label_fits, own_fits, differs, distinct, fault, after}
use Rattle.model.specs.Blocks.{Link, Use, Block, joins_of, add_link, add_use, add_row}
use Rattle.shows.specs.WellFormed.{Cue, GoodLink, GoodUse, GoodBlock, Good, none, more, Small, small-none, small-more}
use Rattle.basics.proofs.Members.{get_d_mem, every-mem, distinct_apart}
use Rattle.shows.proofs.AtBlock.{joins-hit, joins-skip, joins-beyond, joins-small}
use Rattle.basics.proofs.Choices.{eq_then, eq_else, passed, passed-lt, passed-not_lt, passed-not_eq}
use Rattle.shows.proofs.Passed.{Passed, faultless, is_cue-bounds, Kind, opens, links, uses, kind-of, Fits, fits-of}

-- Lists.
snoc_other : (xs : List ℕ) (y k : ℕ) → k ≢ length xs → get_or (xs ++ (y ∷ [])) k 0 ≡ get_or xs k 0
snoc_other xs y k n = go (dec_lt k (length xs))
  where
    go : Dec (k < length xs) → get_or (xs ++ (y ∷ [])) k 0 ≡ get_or xs k 0
    go (yes h) = get_or-append xs (y ∷ []) 0 k h
    go (no h) =
        let long : length (xs ++ (y ∷ [])) ≤ k = rw (length-append xs (y ∷ [])) (omega arith) in
        get_or-eq_default (xs ++ (y ∷ [])) 0 long ∙ sym (get_or-eq_default xs 0 {n = k} (omega arith))

taken : (n : ℕ) (xs : List ℕ) (i : ℕ) → i < n → n ≤ length xs → Memᴰ (get_or xs i 0) (take n xs)
taken n xs i h k =
    rw (get_or-take n xs i 0 h) at (get_d_mem (take n xs) i (rw (length-take-le n xs k) h))

two-apart : (xs : List ℕ) → 2 ≤ length xs → distinct (take 2 xs) ≡ true → get_or xs 0 0 ≢ get_or xs 1 0
unfolding distinct every differs
two-apart [] h e = absurd (omega arith)
two-apart (x ∷ []) h e = absurd (omega arith)
two-apart (x ∷ y ∷ xs) h e = (passed-not_eq x y true (passed (if_eq x y false true) true (passed _ _ e).0).0).0

-- The own cues of the current block.
abbrev pub own_now : List Block → ℕ
own_now [] = 0
own_now (b ∷ bs) = b.own

pub record Tracks (s : Seen) (bs : List Block) : Type 0 where
  pub count : length s.joins ≡ length bs
  pub joins : (k : ℕ) → get_or s.joins k 0 ≡ joins_of bs k
  pub own : s.own ≡ own_now bs
  pub good : Good bs
  pub small : Small bs
  pub few : length bs ≤ max_blocks

pub tracks_start : Tracks start []
unfolding start
tracks_start = record { count = refl; joins = λ k. sym (joins-beyond [] k (omega arith)); own = refl; good = none; small = small-none; few = omega arith }

-- The cues of the current block.
cues-now : (s : Seen) (b : Block) (earlier : List Block) → Tracks s (b ∷ earlier) → cues_in s ≡ b.own + b.joins
unfolding cues_in
cues-now s b earlier t =
    let e : length s.joins - 1 ≡ length earlier = omega (arith, t.count) in
    let j : get_or s.joins (length s.joins - 1) 0 ≡ b.joins = t.joins _ ∙ joins-hit b earlier _ e in
    let o : s.own ≡ b.own = t.own in
    omega arith

module _ (s : Seen) (w : Row) (eight : length w.columns ≡ 8) (p : Passed s w) where
  fits : Fits s w
  fits = fits-of s w p.fits

  -- What the row names are cues of the current block.
  named-cue : (b : Block) (earlier : List Block) → Tracks s (b ∷ earlier) → (c : ℕ) → Memᴰ c (named s w) → Cue b c
  named-cue b earlier t c i =
      let h : (1 ≤ c) × (c ≤ cues_in s) = is_cue-bounds (cues_in s) c (every-mem (is_cue (cues_in s)) (named s w) fits.cues c i) in
      let e : cues_in s ≡ b.own + b.joins = cues-now s b earlier t in
      (h.0, omega (arith, h.1))

  opened : Block
  opened = record { joins = w.label; own = get_or w.columns 0 0; links = []; uses = [] }

  opened-small : w.kind ≡ 0 → (opened.joins ≤ max_joins) × (opened.own ≤ max_own)
  unfolding fits label_fits own_fits opened
  opened-small q = (
    (passed-not_lt max_joins w.label true (rw (eq_then w.kind 0 _ _ q) at fits.label)).0,
    (passed-not_lt max_own (get_or w.columns 0 0) true (rw (eq_then w.kind 0 _ _ q) at fits.own)).0,
  )

  opened-good : w.kind ≡ 0 → (bs : List Block) → GoodBlock bs opened
  unfolding fits label_fits own_fits opened
  opened-good q bs =
      record {
        links = λ l i. absurd (Memᴰ.not-nil i);
        uses = λ u i. absurd (Memᴰ.not-nil i);
      }

  open_step : (bs : List Block) → Tracks s bs → w.kind ≡ 0 → length s.joins < max_blocks
      → Tracks (record { joins = s.joins ++ (w.label ∷ []); own = get_or w.columns 0 0; before = w }) (opened ∷ bs)
  unfolding opened
  open_step bs t q h =
      record {
        count = length-append s.joins (w.label ∷ []) ∙ omega (arith, t.count);
        joins = λ k. at k (ℕ_discrete k (length bs));
        own = refl;
        good = more (opened-good q bs) t.good;
        small = small-more (opened-small q).0 (opened-small q).1 t.small;
        few = omega (arith, t.count);
      }
    where
      at : (k : ℕ) → Dec (k ≡ length bs) → get_or (s.joins ++ (w.label ∷ [])) k 0 ≡ joins_of (opened ∷ bs) k
      at k (yes e) =
          let f : k ≡ length s.joins = omega (arith, t.count) in
          rw (joins-hit opened bs k e, f) (get_or-append_seam s.joins w.label [] 0)
      at k (no n) =
          rw (joins-skip opened bs k n) (snoc_other s.joins w.label k (λ e. n (e ∙ t.count)) ∙ t.joins k)

  -- The current block with one more link or use has the same cues.
  module _ (b : Block) (earlier : List Block) (t : Tracks s (b ∷ earlier)) where
    same-joins : (c : Block) → c.joins ≡ b.joins → (k : ℕ) → get_or s.joins k 0 ≡ joins_of (c ∷ earlier) k
    same-joins c e k = t.joins k ∙ go (ℕ_discrete k (length earlier))
      where
        go : Dec (k ≡ length earlier) → joins_of (b ∷ earlier) k ≡ joins_of (c ∷ earlier) k
        go (yes q) = joins-hit b earlier k q ∙ sym (joins-hit c earlier k q ∙ e)
        go (no n) = joins-skip b earlier k n ∙ sym (joins-skip c earlier k n)

    kept : (c : Block) → c.joins ≡ b.joins → c.own ≡ b.own → GoodBlock earlier c → Good earlier → Small (b ∷ earlier)
        → Tracks (record { joins = s.joins; own = s.own; before = w }) (c ∷ earlier)
    kept c e o g gs (small-more x y z) =
        record {
          count = t.count;
          joins = same-joins c e;
          own = t.own ∙ sym o;
          good = more g gs;
          small = small-more {b = c} (rw e x) (rw o y) z;
          few = t.few;
        }

    with_link : Link → Block
    with_link l = record { joins = b.joins; own = b.own; links = b.links ++ (l ∷ []); uses = b.uses }

    with_use : Use → Block
    with_use u = record { joins = b.joins; own = b.own; links = b.links; uses = b.uses ++ (u ∷ []) }

    link-good : (l : Link) → GoodLink b l → GoodBlock earlier b → GoodBlock earlier (with_link l)
    unfolding with_link
    link-good l h g =
        record {
          links = λ m i. pick m (Memᴰ.append_cases b.links i);
          uses = λ u i. let v : GoodUse earlier b u = g.uses u i in record { lower = v.lower; arity = v.arity; cues = v.cues; apart = v.apart };
        }
      where
        again : (m : Link) → GoodLink b m → GoodLink (with_link l) m
        again m v = record { from = v.from; to = v.to; apart = v.apart; label = v.label }

        pick : (m : Link) → Memᴰ m b.links ⊎ Memᴰ m (l ∷ []) → GoodLink (with_link l) m
        pick m (inl i) = again m (g.links m i)
        pick m (inr i) = again m (rw (← Memᴰ.eq_of_singleton i) at h)

    use_good : (u : Use) → GoodUse earlier b u → GoodBlock earlier b → GoodBlock earlier (with_use u)
    unfolding with_use
    use_good u h g =
        record {
          links = λ m i. let v : GoodLink b m = g.links m i in record { from = v.from; to = v.to; apart = v.apart; label = v.label };
          uses = λ v i. pick v (Memᴰ.append_cases b.uses i);
        }
      where
        again : (v : Use) → GoodUse earlier b v → GoodUse earlier (with_use u) v
        again v x = record { lower = x.lower; arity = x.arity; cues = x.cues; apart = x.apart }

        pick : (v : Use) → Memᴰ v b.uses ⊎ Memᴰ v (u ∷ []) → GoodUse earlier (with_use u) v
        pick v (inl i) = again v (g.uses v i)
        pick v (inr i) = again v (rw (← Memᴰ.eq_of_singleton i) at h)

    -- A link row's cues and label.
    link-ok : w.kind ≡ 1 → GoodLink b (record { from = get_or w.columns 0 0; to = get_or w.columns 1 0; label = w.label })
    unfolding fits named columns_used label_fits
    link-ok q =
        record {
          from = cue 0 (omega arith);
          to = cue 1 (omega arith);
          apart = two-apart w.columns (omega arith) (rw two at p.apart);
          label = (in_label.0, (passed-not_lt max_label w.label true in_label.1).0);
        }
      where
        zero? : w.kind ≡ 0 → ⊥
        zero? e = omega arith

        two : named s w ≡ take 2 w.columns
        two = eq_else w.kind 0 _ _ zero? ∙ ap (λ (n : ℕ). take n w.columns) (eq_else w.kind 0 _ _ zero? ∙ eq_then w.kind 1 _ _ q)

        cue : (i : ℕ) → i < 2 → Cue b (get_or w.columns i 0)
        cue i h = named-cue b earlier t (get_or w.columns i 0) (rw two (taken 2 w.columns i h (omega arith)))

        in_label : (1 ≤ w.label) × (if_lt max_label w.label false true ≡ true)
        in_label = passed-not_lt w.label 1 _ (rw (eq_then w.kind 1 _ _ q) at (rw (eq_else w.kind 0 _ _ zero?) at fits.label))

    -- A use row's block and cues.
    use_ok : w.kind ≡ 2 → w.block + 1 ≡ length s.joins → Small earlier
        → GoodUse earlier b (record { block = w.label; at = take (joins_of (b ∷ earlier) w.label) w.columns })
    unfolding fits named columns_used label_fits
    use_ok q h gs =
        record {
          lower = low;
          arity = length-take-le _ w.columns (omega (arith, few-joins)) ∙ skipped;
          cues = λ c i. named-cue b earlier t c (rw many i);
          apart = distinct_apart _ (rw many at p.apart);
        }
      where
        zero? : w.kind ≡ 0 → ⊥
        zero? e = omega arith

        one? : w.kind ≡ 1 → ⊥
        one? e = omega arith

        below : if_lt w.label w.block true false ≡ true
        below = rw (eq_else w.kind 1 _ _ one?) at (rw (eq_else w.kind 0 _ _ zero?) at fits.label)

        low : w.label < length earlier
        low = let x : w.label < w.block = (passed-lt w.label w.block true below).0 in omega (arith, t.count)

        skipped : joins_of (b ∷ earlier) w.label ≡ joins_of earlier w.label
        skipped = joins-skip b earlier w.label (λ e. omega (arith, low))

        few-joins : joins_of (b ∷ earlier) w.label ≤ 8
        few-joins = rw skipped (joins-small w.label gs)

        many : named s w ≡ take (joins_of (b ∷ earlier) w.label) w.columns
        many =
            eq_else w.kind 0 _ _ zero?
            ∙ ap (λ (n : ℕ). take n w.columns) (eq_else w.kind 0 _ _ zero? ∙ eq_else w.kind 1 _ _ one? ∙ t.joins w.label)

  no_block_lem : (bs : List Block) → Tracks s bs → w.block + 1 ≡ length s.joins → length bs ≡ 0 → ⊥
  no_block_lem bs t h e = omega (arith, t.count)

  link-step : (bs : List Block) → Tracks s bs → w.kind ≡ 1 → w.block + 1 ≡ length s.joins
      → Tracks (record { joins = s.joins; own = s.own; before = w })
      (add_link (record { from = get_or w.columns 0 0; to = get_or w.columns 1 0; label = w.label }) bs)
  unfolding add_link with_link
  link-step [] t q h = absurd (no_block_lem [] t h refl)
  link-step (b ∷ earlier) t q h = go t.good t.small
    where
      l : Link
      l = record { from = get_or w.columns 0 0; to = get_or w.columns 1 0; label = w.label }

      go : Good (b ∷ earlier) → Small (b ∷ earlier) → Tracks (record { joins = s.joins; own = s.own; before = w }) (add_link l (b ∷ earlier))
      go (more g gs) small = kept b earlier t (with_link b earlier t l) refl refl (link-good b earlier t l (link-ok b earlier t q) g) gs small

  use_step : (bs : List Block) → Tracks s bs → w.kind ≡ 2 → w.block + 1 ≡ length s.joins
      → Tracks (record { joins = s.joins; own = s.own; before = w })
      (add_use (record { block = w.label; at = take (joins_of bs w.label) w.columns }) bs)
  unfolding add_use with_use
  use_step [] t q h = absurd (no_block_lem [] t h refl)
  use_step (b ∷ earlier) t q h = go t.good t.small
    where
      u : Use
      u = record { block = w.label; at = take (joins_of (b ∷ earlier) w.label) w.columns }

      go : Good (b ∷ earlier) → Small (b ∷ earlier) → Tracks (record { joins = s.joins; own = s.own; before = w }) (add_use u (b ∷ earlier))
      go (more g gs) (small-more x y z) =
          kept b earlier t (with_use b earlier t u) refl refl (use_good b earlier t u (use_ok b earlier t q h z) g) gs (small-more x y z)

-- A row that passes keeps the agreement.
pub tracks_step : (s : Seen) (w : Row) (bs : List Block) → length w.columns ≡ 8 → fault s w ≡ 0 → Tracks s bs
    → Tracks (after s w) (add_row bs w)
unfolding after add_row opened
tracks_step s w bs eight f t = go (kind-of s w p.follows)
  where
    p : Passed s w
    p = faultless s w f

    go : Kind s w → Tracks (after s w) (add_row bs w)
    go (opens q h few) =
        rw (eq_then w.kind 0 _ _ q, eq_then w.kind 0 _ _ q) (open_step s w eight p bs t q few)
    go (links q h) =
        let n : w.kind ≡ 0 → ⊥ = λ e. omega arith in
        rw (eq_else w.kind 0 _ _ n, eq_else w.kind 0 _ _ n, eq_then w.kind 1 _ _ q) (link-step s w eight p bs t q h)
    go (uses q h) =
        let n : w.kind ≡ 0 → ⊥ = λ e. omega arith in
        let m : w.kind ≡ 1 → ⊥ = λ e. omega arith in
        rw (eq_else w.kind 0 _ _ n, eq_else w.kind 0 _ _ n, eq_else w.kind 1 _ _ m) (use_step s w eight p bs t q h)
