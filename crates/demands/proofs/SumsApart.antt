-- Sums of waits bounded from below by computing, under a wait file of one line. The refutations of wrong models rest on this (wrong_models); no law does.
use Prim.Native.Nat.{ℕ, ◌+◌, ◌≤◌, ◌<◌}
use native.Mathlib.Omega.{arith}
use native.Mathlib.Decide.{dec_lt, ℕ_discrete}
use mathlib.Core.Path.{◌≡◌, refl, ◌∙◌}
use mathlib.Core.Bool.{Bool, true, false}
use mathlib.Core.Logic.{◌⊎◌, inl, inr}
use mathlib.Core.List.Memᴰ
use mathlib.Core.List.{List, [], ◌∷◌, Memᴰ}
use Rattle.model.specs.Choice.{if_lt, if_eq}
use Rattle.model.specs.Blocks.{Link}
use Rattle.basics.proofs.Choices.{lt_then, lt_else, eq_then, eq_else}
use Rattle.demands.specs.Waits.{Waits, lined, unlined}
use Rattle.demands.specs.Quickest.{Lasts, here, link}
use Rattle.demands.proofs.Apart.{is-in, not_in}

-- What a label waits at least, where the file's only line gives label one the wait x.
abbrev waits_least : ℕ → ℕ → ℕ → ℕ
waits_least one x label = if_eq label one x 0

its_wait : (one x label wait : ℕ) → label ≡ one → Waits ((one ∷ x ∷ []) ∷ []) label wait → x ≤ wait
its_wait one x label wait e (lined i) = at (Memᴰ.cases_cons i)
  where
    at : (label ∷ wait ∷ [] ≡ one ∷ x ∷ []) ⊎ Memᴰ (label ∷ wait ∷ []) [] → x ≤ wait
    at (inl q) = let u : wait ≡ x = cc in omega arith
    at (inr j) = absurd (Memᴰ.not-nil j)
its_wait one x label _ e (unlined none) = absurd (none x (rw e (Memᴰ.head refl)))

least-wait : (one x label wait : ℕ) → Waits ((one ∷ x ∷ []) ∷ []) label wait → waits_least one x label ≤ wait
least-wait one x label wait w = go (ℕ_discrete label one)
  where
    go : Dec (label ≡ one) → waits_least one x label ≤ wait
    go (yes e) = rw (eq_then label one x 0 e) (its_wait one x label wait e w)
    go (no e) = rw (eq_else label one x 0 e) (omega arith)

-- A followed link from which less than its start's bound is left.
unfoldable pub too_low : (ℕ → ℕ) → ℕ → ℕ → Link → Bool
too_low bound one x l = if_lt 254 l.label false (if_lt (waits_least one x l.label + bound l.to) (bound l.from) true false)

-- If there is no such link, and the bound of t is 0, no chain to t has a sum below the bound of its start.
module _ (bound : ℕ → ℕ) (one x : ℕ) (E : List Link) (t : ℕ) (ends : bound t ≡ 0) (none : is-in (too_low bound one x) E ≡ false) where
  stays : (l : Link) → Memᴰ l E → l.label ≤ 254 → bound l.from ≤ waits_least one x l.label + bound l.to
  unfolding too_low
  stays l i h = go (dec_lt (waits_least one x l.label + bound l.to) (bound l.from))
    where
      go : Dec (waits_least one x l.label + bound l.to < bound l.from) → bound l.from ≤ waits_least one x l.label + bound l.to
      go (no k) = omega arith
      go (yes k) = absurd (not_in (too_low bound one x) l E (lt_else 254 l.label _ _ h ∙ lt_then _ _ _ _ k) none i)

  pub low_sum : {s n : ℕ} → Lasts ((one ∷ x ∷ []) ∷ []) E t s n → bound s ≤ n
  low_sum here = omega (arith, ends)
  low_sum (link {wait} {sum} l i low high w c) = omega (arith, low_sum c, stays l i high, least-wait one x l.label wait w)
