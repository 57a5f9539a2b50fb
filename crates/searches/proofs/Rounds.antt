-- Laws of rounds: one after the other, over a span of edges, over edges that amount to the same,
-- and until one is quiet.
use Prim.Native.Nat.{ℕ, ◌+◌, ◌≤◌, ◌<◌}
use native.Mathlib.Omega.{arith}
use native.Mathlib.Decide.{ℕ_discrete}
use mathlib.Core.Path.{◌≡◌, refl, ◌∙◌}
use mathlib.Core.Bool.{Bool, true, false}
use mathlib.Core.Logic.{◌⊎◌, inl, inr}
use mathlib.Core.List.{List}
use lib.ListN.{get_or}
use Rattle.searches.specs.Rounds.{orb, sum, Edges, Game, Wider, estimates, RunsOf, Runs, none, more, RoundOf, Round, quiet, moved}
use Rattle.searches.specs.Starts.{Beginnings, Nowhere, Started, Merged}
use Rattle.searches.specs.Edges.{Span, SettledOver, Spread}
use Rattle.searches.proofs.Lowering.{true_not_false}
use Rattle.searches.proofs.Starts.{started_first}

-- A round of lowering over some edges is one over more.
pub lowered_wide : Wider estimates
lowered_wide W X d e f l = record { lower = l.lower; from = λ v. from v (l.from v) }
  where
    from : (v : ℕ) → (get_or e v 0 ≡ get_or d v 0) ⊎ ((u w : ℕ) × W u v w × (get_or e v 0 ≡ get_or d u 0 + w))
        → (get_or e v 0 ≡ get_or d v 0) ⊎ ((u w : ℕ) × X u v w × (get_or e v 0 ≡ get_or d u 0 + w))
    from v (inl p) = inl p
    from v (inr (u, w, i, p)) = inr (u, w, f u v w i, p)

module _ {S : Type 0} {G : Game S} where
  -- Runs go on, and over more edges.
  pub runs_on : {W : Edges} {d e f : S} → RunsOf G W d e → RunsOf G W e f → RunsOf G W d f
  runs_on r (none q) = rw (← q) at r
  runs_on r (more e s l) = more e (runs_on r s) l

  pub runs-begin : {W : Edges} (d : S) → RunsOf G W d d
  runs-begin d = none refl

  -- Rounds until one is quiet.
  pub round_again : {W : Edges} {d e f : S} {c : Bool} → RunsOf G W d e → RoundOf G W e c f → c ≡ true → RunsOf G W d f
  round_again r (quiet p q s) o = absurd (true_not_false o p)
  round_again r (moved p m n) o = runs_on r m

  pub size-falls : {W : Edges} {d e : S} {c : Bool} → RoundOf G W d c e → c ≡ true → G.size e < G.size d
  size-falls (quiet p q s) o = absurd (true_not_false o p)
  size-falls (moved p m n) o = n

  pub span_begin : (X : ℕ → Edges) (a : ℕ) (d : S) → RoundOf G (Span X a a) d false d
  span_begin X a d = quiet refl refl (λ u v w i. absurd (omega (arith, i.1, i.2)))

module _ {S : Type 0} {G : Game S} (wide : Wider G) where
  pub runs-wider : {W X : Edges} {d e : S} → ((u v w : ℕ) → W u v w → X u v w) → RunsOf G W d e → RunsOf G X d e
  runs-wider f (none q) = none q
  runs-wider {W} {X} f (more {f = g} e s l) = more e (runs-wider f s) (wide W X e g f l)

  -- Two rounds, one after the other, are a round over the edges of both.
  pub round_then : {Q W X : Edges} {d e f : S} {b c t : Bool} → ((u v w : ℕ) → Q u v w → X u v w) → ((u v w : ℕ) → W u v w → X u v w)
      → ((u v w : ℕ) → X u v w → Q u v w ⊎ W u v w) → RoundOf G Q d b e → RoundOf G W e c f → t ≡ orb b c → RoundOf G X d t f
  round_then {Q} {W} {X} {d} {e} {f} l r back (quiet p q s) (quiet p' q' s') o =
      quiet (o ∙ (rw (p, p'))) (q' ∙ q) (λ u v w i. at u v w (back u v w i))
    where
      at : (u v w : ℕ) → Q u v w ⊎ W u v w → G.Idle d u v w
      at u v w (inl i) = s u v w i
      at u v w (inr i) = rw q at (s' u v w i)
  round_then l r back (quiet p q s) (moved p' m n) o = moved (o ∙ (rw (p, p'))) (runs-wider r (rw q at m)) (rw q at n)
  round_then l r back (moved p m n) (quiet p' q s) o = moved (o ∙ (rw p)) (rw (← q) at (runs-wider l m)) (rw (← q) at n)
  round_then l r back (moved p m n) (moved p' m' n') o = moved (o ∙ (rw p)) (runs_on (runs-wider l m) (runs-wider r m')) (omega arith)

  -- Rounds over a span of edges: one more.
  pub span_on : (X : ℕ → Edges) (a q : ℕ) {d e f : S} {b c t : Bool} → a ≤ q → RoundOf G (Span X a q) d b e → RoundOf G (X q) e c f
      → t ≡ orb b c → RoundOf G (Span X a (q + 1)) d t f
  span_on X a q h x y o =
      round_then (λ u v w i. (i.0, i.1, omega (arith, i.2), i.3)) (λ u v w i. (q, h, omega arith, i))
      (λ u v w i. at u v w i (ℕ_discrete i.0 q)) x y o
    where
      at : (u v w : ℕ) (i : Span X a (q + 1) u v w) → Dec (i.0 ≡ q) → Span X a q u v w ⊎ X q u v w
      at u v w (p, k, l, m) (yes e) = inr (rw e at m)
      at u v w (p, k, l, m) (no n) = inl (p, k, omega arith, m)

  -- One more at the front of the span, which begins at p so far.
  pub span_back : (X : ℕ → Edges) (q p z : ℕ) {d e f : S} {b c t : Bool} → p ≡ q + 1 → p ≤ z → RoundOf G (Span X p z) d b e
      → RoundOf G (X q) e c f → t ≡ orb b c → RoundOf G (Span X q z) d t f
  span_back X q p z s h x y o =
      round_then (λ u v w i. (i.0, omega (arith, i.1), i.2, i.3)) (λ u v w i. (q, omega arith, omega arith, i))
      (λ u v w i. at u v w i (ℕ_discrete i.0 q)) x y o
    where
      at : (u v w : ℕ) (i : Span X q z u v w) → Dec (i.0 ≡ q) → Span X p z u v w ⊎ X q u v w
      at u v w (k, l, m, n) (yes e) = inr (rw e at n)
      at u v w (k, l, m, n) (no e) = inl (k, omega arith, m, n)

  -- Edges that have nothing to do may be left out.
  pub round_idle : {W X : Edges} {d e : S} {t : Bool} → ((u v w : ℕ) → W u v w → X u v w)
      → ((u v w : ℕ) → X u v w → W u v w ⊎ G.Idle d u v w) → RoundOf G W d t e → RoundOf G X d t e
  round_idle {W} {X} {d} {e} into back (quiet o r s) = quiet o r (λ u v w i. at u v w (back u v w i))
    where
      at : (u v w : ℕ) → W u v w ⊎ G.Idle d u v w → G.Idle d u v w
      at u v w (inl i) = s u v w i
      at u v w (inr h) = h
  round_idle into back (moved o r n) = moved o (runs-wider into r) n

  -- Over edges that amount to the same.
  pub round_same : {W X : Edges} {d e : S} {t : Bool} → ((u v w : ℕ) → W u v w → X u v w) → ((u v w : ℕ) → X u v w → W u v w)
      → RoundOf G W d t e → RoundOf G X d t e
  round_same into back r = round_idle into (λ u v w i. inl (back u v w i)) r

-- Estimates: edges from a cue to itself improve none, so that they may be left out.
pub round_loops : {W X : Edges} {d e : List ℕ} {t : Bool} → ((u v w : ℕ) → W u v w → X u v w)
    → ((u v w : ℕ) → X u v w → W u v w ⊎ (u ≡ v)) → Round W d t e → Round X d t e
round_loops {W} {X} {d} into back r = round_idle lowered_wide into (λ u v w i. at u v w (back u v w i)) r
  where
    at : (u v w : ℕ) → W u v w ⊎ (u ≡ v) → W u v w ⊎ (get_or d v 0 ≤ get_or d u 0 + w)
    at u v w (inl i) = inl i
    at u v w (inr h) = inr (rw h (omega arith))

-- The sum of the estimates falls. (Said of `sum` itself, so that search finds it.)
pub round_falls : {W : Edges} {d e : List ℕ} {c : Bool} → Round W d c e → c ≡ true → sum e < sum d
round_falls r o = size-falls r o

pub round_last : {W : Edges} {d e f : List ℕ} {c : Bool} → Runs W d e → Round W e c f → c ≡ false → SettledOver W d f
round_last r (quiet p q s) o = record { runs = rw (← q) at r; still = rw (← q) at s }
round_last r (moved p m n) o = absurd (true_not_false p o)

-- Estimates that begin with something, settled.
pub spread_first : {inf : ℕ} {W : Edges} (n : ℕ) (S : Beginnings) {d e f : List ℕ} → Started inf n Nowhere d → Merged S d e → SettledOver W e f
    → Spread inf W n S f
spread_first n S {e = e} s m settled = record { start = e; begins = started_first s m; settled = settled }
