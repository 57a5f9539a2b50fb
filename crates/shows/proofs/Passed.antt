-- What a row that passes checks 5 to 8 is, check by check. That what the checks carry from row to row agrees with the blocks of the rows
-- so far stands in Tracks.
use Prim.Native.Nat.{ℕ, suc, ◌+◌, ◌≤◌, ◌<◌}
use native.Mathlib.Omega.{arith}
use native.Mathlib.Decide.{ℕ_discrete}
use mathlib.Core.Path.{◌≡◌}
use mathlib.Core.Bool.{true, false}
use lib.ListN.{length, drop}
use Rattle.model.specs.Choice.{if_lt, if_eq}
use Rattle.model.specs.Limits.{max_blocks}
use Rattle.model.specs.Rows.{Row}
use Rattle.model.specs.Rules.{Seen, cues_in, may_open, goes_on, may_follow, columns_used, named, every, is_cue, is_zero, label_fits, own_fits, in_range, distinct, in_order, fault}
use Rattle.basics.proofs.Choices.{true_first, eq_then, eq_else, passed, passed-lt, passed-not_lt, passed-eq}

-- A row without a fault passed all four checks.
pub record Passed (s : Seen) (w : Row) : Type 0 where
  pub follows : may_follow s w ≡ true
  pub fits : in_range s w ≡ true
  pub apart : distinct (named s w) ≡ true
  pub rises : in_order s.before w ≡ true

nonzero : (n : ℕ) → ◌≡◌ {A = ℕ} (suc n) 0 → ⊥
nonzero n e = omega arith

pub faultless : (s : Seen) (w : Row) → fault s w ≡ 0 → Passed s w
unfolding fault
faultless s w e =
    let (a, e₁) = true_first (may_follow s w) _ 5 0 (nonzero 4) e in
    let (b, e₂) = true_first (in_range s w) _ 6 0 (nonzero 5) e₁ in
    let (c, e₃) = true_first (distinct (named s w)) _ 7 0 (nonzero 6) e₂ in
    let (d, e₄) = true_first (in_order s.before w) 0 8 0 (nonzero 7) e₃ in
    record { follows = a; fits = b; apart = c; rises = d }

-- The test of a cue.
pub is_cue-bounds : (cues c : ℕ) → is_cue cues c ≡ true → (1 ≤ c) × (c ≤ cues)
unfolding is_cue
is_cue-bounds cues c e =
    let (low, e₁) = passed-not_lt c 1 (if_lt cues c false true) e in
    let (high, e₂) = passed-not_lt cues c true e₁ in
    (low, high)

-- The row's kind and what check 5 says of it.
pub data Kind (s : Seen) (w : Row) : Type 0 where
  opens : w.kind ≡ 0 → w.block ≡ length s.joins → length s.joins < max_blocks → Kind s w
  links : w.kind ≡ 1 → w.block + 1 ≡ length s.joins → Kind s w
  uses : w.kind ≡ 2 → w.block + 1 ≡ length s.joins → Kind s w

pub kind-of : (s : Seen) (w : Row) → may_follow s w ≡ true → Kind s w
unfolding may_follow may_open goes_on
kind-of s w e = go (ℕ_discrete w.kind 0) (ℕ_discrete w.kind 1)
  where
    go : Dec (w.kind ≡ 0) → Dec (w.kind ≡ 1) → Kind s w
    go (yes q) d =
        let (x, y) = passed-eq w.block (length s.joins) _ (rw (eq_then w.kind 0 _ _ q) at e) in
        opens q x (passed-lt (length s.joins) max_blocks true y).0
    go (no n) (yes q) =
        let e₁ = rw (eq_else w.kind 0 _ _ n) at e in
        let (x, y) = passed (if_eq (w.block + 1) (length s.joins) true false) _ (rw (eq_then w.kind 1 _ _ q) at e₁) in
        links q (passed-eq (w.block + 1) (length s.joins) true x).0
    go (no n) (no m) =
        let e₁ = rw (eq_else w.kind 0 _ _ n) at e in
        let e₂ = rw (eq_else w.kind 1 _ _ m) at e₁ in
        let (x, y) = passed-eq w.kind 2 (if_eq (w.block + 1) (length s.joins) true false) e₂ in
        uses x (passed-eq (w.block + 1) (length s.joins) true y).0

-- What check 6 says.
pub record Fits (s : Seen) (w : Row) : Type 0 where
  pub label : label_fits w ≡ true
  pub own : own_fits w ≡ true
  pub cues : every (is_cue (cues_in s)) (named s w) ≡ true
  pub idle : every is_zero (drop (columns_used s w) w.columns) ≡ true

pub fits-of : (s : Seen) (w : Row) → in_range s w ≡ true → Fits s w
unfolding in_range
fits-of s w e =
    let (a, e₁) = passed (label_fits w) _ e in
    let (b, e₂) = passed (own_fits w) _ e₁ in
    let (c, d) = passed (every (is_cue (cues_in s)) (named s w)) _ e₂ in
    record { label = a; own = b; cues = c; idle = d }
