-- The lists of linked cues hold just the linked cues, each once and rising. What is written on a page, and on pages asked for one after
-- another, stands in crates/demands.
use Prim.Native.Nat.{ℕ, zero, suc, ◌+◌, ◌-◌, ◌≤◌, ◌<◌}
use native.Mathlib.Omega.{arith}
use native.Mathlib.Decide.{ℕ_discrete}
use mathlib.Core.Path.{◌≡◌, refl, sym, ◌∙◌}
use mathlib.Core.Logic.{◌↔◌, ◌⊎◌, inl, inr}
use mathlib.Core.Bool.{Bool, true, false}
use mathlib.Core.List.Memᴰ
use mathlib.Core.List.{List, [], ◌∷◌, Memᴰ}
use lib.ListN.{length, get_or}
use Rattle.model.specs.Blocks.{Link}
use Rattle.model.specs.Lists.{is_linked, range, keep, cues_after, is_out, is_into}
use Rattle.shows.specs.Lists.{Leads, Rising, none, more}
use Rattle.basics.proofs.Members.{get_d_mem, range-bounds, range-mem}
use Rattle.basics.proofs.Choices.{eq_then, eq_else}
use Rattle.basics.proofs.Keeping.{keep-yes, keep-no, kept}

-- The test of a link finds just the links.
pub linked : (E : List Link) (u v : ℕ) → (is_linked E u v ≡ true) ↔ Leads E u v
unfolding is_linked
linked [] u v = (λ e. absurd (let z : ◌≡◌ {A = ℕ} 0 1 = cc in omega arith), λ x. absurd (Memᴰ.not-nil x.1))
linked (l ∷ E) u v = go (linked E u v) (ℕ_discrete l.from u) (ℕ_discrete l.to v)
  where
    Here : Type 0
    Here = (is_linked E u v ≡ true) ↔ Leads E u v → (is_linked (l ∷ E) u v ≡ true) ↔ Leads (l ∷ E) u v

    other : is_linked (l ∷ E) u v ≡ is_linked E u v → (l.from ≡ u → l.to ≡ v → ⊥) → Here
    other e apart below = (λ h. later (below.0 (sym e ∙ h)), λ x. e ∙ below.1 (earlier x (Memᴰ.cases_cons x.1)))
      where
        later : Leads E u v → Leads (l ∷ E) u v
        later (x, i, p, q) = (x, Memᴰ.tail i, p, q)

        earlier : (x : Leads (l ∷ E) u v) → (x.0 ≡ l) ⊎ Memᴰ x.0 E → Leads E u v
        earlier x (inl e) = absurd (apart (cc x.2) (cc x.3))
        earlier x (inr i) = (x.0, i, x.2, x.3)

    go : (is_linked E u v ≡ true) ↔ Leads E u v → Dec (l.from ≡ u) → Dec (l.to ≡ v) → (is_linked (l ∷ E) u v ≡ true) ↔ Leads (l ∷ E) u v
    go below (yes p) (yes q) = (λ e. (l, Memᴰ.head refl, p, q), λ x. eq_then _ _ _ _ p ∙ eq_then _ _ _ _ q)
    go below (yes p) (no q) = other (eq_then _ _ _ _ p ∙ eq_else _ _ _ _ q) (λ a b. q b) below
    go below (no p) d = other (eq_else _ _ _ _ p) (λ a b. p a) below

-- Those of some numbers that pass a test.
module _ (test : ℕ → Bool) where
  -- Leaving numbers out keeps a list rising.
  pub keep-rising : {xs : List ℕ} → Rising xs → Rising (keep test xs)
  unfolding keep
  keep-rising none = none
  keep-rising (more {x} {xs} low r) = go (keep-rising r) (test x) refl
    where
      go : Rising (keep test xs) → (b : Bool) → test x ≡ b → Rising (keep test (x ∷ xs))
      go below true e = rw (keep-yes test x xs e) (more (λ y i. low y ((kept test xs y).0 i).0) below)
      go below false e = rw (keep-no test x xs e) below

-- The numbers of a range.
in_range_is : (a many t : ℕ) → Memᴰ t (range a many) ↔ ((a ≤ t) × (t < a + many))
in_range_is a many t = (λ i. range-bounds a many t i, λ p. range-mem a many t p.0 p.1)

-- A range rises.
pub range-rising : (a many : ℕ) → Rising (range a many)
unfolding range
range-rising a zero = none
range-rising a (suc many) = more (λ y i. ((in_range_is (suc a) many y).0 i).0) (range-rising (suc a) many)

-- The cues after n that pass a test: the laws behind both lists, out and in.
module _ (test : ℕ → Bool) (cues : ℕ) where
  -- They are just the numbers of the cues greater than n of which P holds, if the test finds P.
  in_after : (P : ℕ → Type 0) → ((t : ℕ) → (test t ≡ true) ↔ P t) → (n t : ℕ)
      → Memᴰ t (cues_after test cues n) ↔ ((n < t) × (t ≤ cues) × P t)
  unfolding cues_after
  in_after P finds n t = (λ i. to ((kept test numbers t).0 i), λ p. (kept test numbers t).1 (from p))
    where
      numbers : List ℕ
      numbers = range (suc n) (cues - n)

      to : Memᴰ t numbers × (test t ≡ true) → (n < t) × (t ≤ cues) × P t
      to (i, e) = let p : (suc n ≤ t) × (t < suc n + (cues - n)) = (in_range_is (suc n) (cues - n) t).0 i in (omega arith, omega arith, (finds t).0 e)

      from : (n < t) × (t ≤ cues) × P t → Memᴰ t numbers × (test t ≡ true)
      from (a, b, h) = ((in_range_is (suc n) (cues - n) t).1 (omega arith), (finds t).1 h)

  -- They rise.
  pub after-rising : (n : ℕ) → Rising (cues_after test cues n)
  unfolding cues_after
  after-rising n = keep-rising test (range-rising (suc n) (cues - n))

-- "List out of cue v after n" and "in": the linked cues greater than n, no others.
pub in_out : (E : List Link) (cues v n t : ℕ) → Memᴰ t (cues_after (is_out E v) cues n) ↔ ((n < t) × (t ≤ cues) × Leads E v t)
unfolding is_out
in_out E cues v n t = in_after (is_out E v) cues (λ u. Leads E v u) (λ u. linked E v u) n t

pub in_in : (E : List Link) (cues v n t : ℕ) → Memᴰ t (cues_after (is_into E v) cues n) ↔ ((n < t) × (t ≤ cues) × Leads E t v)
unfolding is_into
in_in E cues v n t = in_after (is_into E v) cues (λ u. Leads E u v) (λ u. linked E u v) n t

-- Of two entries of a rising list the later one is greater, so that none stands in it twice.
pub rising-at : {xs : List ℕ} → Rising xs → (i j : ℕ) → i < j → j < length xs → get_or xs i 0 < get_or xs j 0
rising-at none i j h l = absurd (omega arith)
rising-at (more {x} {xs} low r) i zero h l = absurd (omega arith)
rising-at (more {x} {xs} low r) zero (suc j) h l = low (get_or xs j 0) (get_d_mem xs j (omega arith))
rising-at (more {x} {xs} low r) (suc i) (suc j) h l = rising-at r i j (omega arith) (omega arith)
