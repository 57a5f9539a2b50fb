-- The lines of a wait file by their numbers, and what the model's two searches over them find: the first line that is bad, or that none is.
use Prim.Native.Nat.{ℕ, suc, ◌+◌, ◌≤◌, ◌<◌}
use mathlib.Core.Path.{◌≡◌, refl, ◌∙◌}
use mathlib.Core.Bool.{true, false}
use mathlib.Core.Logic.{◌⊎◌, inl, inr}
use mathlib.Core.List.{List, [], ◌∷◌}
use native.Mathlib.Omega.{arith}
use native.Mathlib.Decide.{dec_lt}
use lib.ListN.{length}
use Rattle.model.specs.Waits.{is_outside, first_outside, first_not_above}
use Rattle.basics.proofs.Choices.{lt_then, lt_else, true_then, true_else}
use Rattle.shows.specs.Files.{value-then, no_value}
use Rattle.shows.specs.SmallFiles.{SpellsTable, no_line, line_then_lem, LineIs, this, next, FirstOf}
use Rattle.demands.specs.Waits.{wait_ends, OutsideRange, OutsideAt, NotAbove}

-- Lines of two values each.
pub data Pairs : List (List ℕ) → Type 0 where
  no_pair : Pairs []
  pair : {vss : List (List ℕ)} (label wait : ℕ) → Pairs vss → Pairs ((label ∷ wait ∷ []) ∷ vss)

pub spelled_pairs : {t : List ℕ} {vss : List (List ℕ)} → SpellsTable wait_ends t vss → Pairs vss
spelled_pairs no_line = no_pair
spelled_pairs (line_then_lem (value-then {v = a} s (value-then {v = b} r no_value)) u) = pair a b (spelled_pairs u)

-- A line by its number: the first, or one behind it.
abbrev Behind : List ℕ → List (List ℕ) → ℕ → List ℕ → Type 0
Behind vs vss k ws = ((k ≡ 2) × (vs ≡ ws)) ⊎ ((j : ℕ) × (k ≡ suc j) × LineIs vss j ws)

line_cases : {vs ws : List ℕ} {vss : List (List ℕ)} {k : ℕ} → LineIs (vs ∷ vss) k ws → Behind vs vss k ws
line_cases this = inl (refl, refl)
line_cases (next {n = n} i) = inr (n, refl, i)

pub line_two : {vss : List (List ℕ)} {k : ℕ} {ws : List ℕ} → LineIs vss k ws → (2 ≤ k) × (1 ≤ length vss)
line_two this = (omega arith, omega arith)
line_two (next i) = (omega (arith, line_two i), omega arith)

-- Only one line can be the first.
pub first_one : (P : ℕ → Type 0) (m n : ℕ) → FirstOf P m → FirstOf P n → m ≡ n
first_one P m n a b = go (dec_lt m n) (dec_lt n m)
  where
    go : Dec (m < n) → Dec (n < m) → m ≡ n
    go (yes h) k = absurd (b.before m h a.bad)
    go (no h) (yes k) = absurd (a.before n k b.bad)
    go (no h) (no k) = omega arith

-- A search that starts with number n in the place of 0: nothing is bad and it ends in 0, or it finds the first that is.
abbrev pub Found : (ℕ → Type 0) → ℕ → ℕ → Type 0
Found P n r = ((r ≡ 0) × ((k : ℕ) → P k → ⊥)) ⊎ ((m : ℕ) × (r ≡ n + m) × FirstOf P m)

-- One line in front of others: Here says that it is bad, Q which of the others are.
module _ (P Q : ℕ → Type 0) (Here : Type 0) (cases : (k : ℕ) → P k → ((k ≡ 2) × Here) ⊎ ((j : ℕ) × (k ≡ suc j) × Q j)) where
  found_here : (n r : ℕ) → ((j : ℕ) → Q j → 2 ≤ j) → P 2 → r ≡ n + 2 → Found P n r
  found_here n r far p e = inr (2, e, record { bad = p; before = λ m h x. at m h (cases m x) })
    where
      at : (m : ℕ) → m < 2 → ((m ≡ 2) × Here) ⊎ ((j : ℕ) × (m ≡ suc j) × Q j) → ⊥
      at m h (inl (q, x)) = omega arith
      at m h (inr (j, q, x)) = omega (arith, far j x)

  found-behind : (n r : ℕ) → ((j : ℕ) → Q j → P (suc j)) → (Here → ⊥) → Found Q (suc n) r → Found P n r
  found-behind n r later fine (inl (e, none)) = inl (e, λ k x. at k (cases k x))
    where
      at : (k : ℕ) → ((k ≡ 2) × Here) ⊎ ((j : ℕ) × (k ≡ suc j) × Q j) → ⊥
      at k (inl (q, x)) = fine x
      at k (inr (j, q, x)) = none j x
  found-behind n r later fine (inr (m, e, f)) =
      inr (suc m, omega arith, record { bad = later m f.bad; before = λ k h x. at k h (cases k x) })
    where
      at : (k : ℕ) → k < suc m → ((k ≡ 2) × Here) ⊎ ((j : ℕ) × (k ≡ suc j) × Q j) → ⊥
      at k h (inl (q, x)) = fine x
      at k h (inr (j, q, x)) = f.before j (omega arith) x

-- 16. The test of the ranges, the lines that do not pass it, and the search for the first.
out_says : (label wait : ℕ) → ((is_outside label wait ≡ true) × OutsideRange label wait) ⊎ ((is_outside label wait ≡ false) × (OutsideRange label wait → ⊥))
unfolding is_outside
out_says label wait = go (dec_lt label 1) (dec_lt 254 label) (dec_lt 6000 wait)
  where
    go : Dec (label < 1) → Dec (254 < label) → Dec (6000 < wait)
        → ((is_outside label wait ≡ true) × OutsideRange label wait) ⊎ ((is_outside label wait ≡ false) × (OutsideRange label wait → ⊥))
    go (yes a) b c = inl (lt_then _ _ _ _ a, inl (omega arith))
    go (no a) (yes b) c = inl (lt_else _ _ _ _ (omega arith) ∙ lt_then _ _ _ _ b, inr (inl b))
    go (no a) (no b) (yes c) = inl (lt_else _ _ _ _ (omega arith) ∙ lt_else _ _ _ _ (omega arith) ∙ lt_then _ _ _ _ c, inr (inr c))
    go (no a) (no b) (no c) = inr (lt_else _ _ _ _ (omega arith) ∙ lt_else _ _ _ _ (omega arith) ∙ lt_else _ _ _ _ (omega arith), none)
      where
        none : OutsideRange label wait → ⊥
        none (inl e) = omega arith
        none (inr (inl e)) = omega arith
        none (inr (inr e)) = omega arith

out_cases : (a b : ℕ) (vss : List (List ℕ)) (k : ℕ) → OutsideAt ((a ∷ b ∷ []) ∷ vss) k
    → ((k ≡ 2) × OutsideRange a b) ⊎ ((j : ℕ) × (k ≡ suc j) × OutsideAt vss j)
out_cases a b vss k (l, w, i, y) = at (line_cases i)
  where
    at : Behind (a ∷ b ∷ []) vss k (l ∷ w ∷ []) → ((k ≡ 2) × OutsideRange a b) ⊎ ((j : ℕ) × (k ≡ suc j) × OutsideAt vss j)
    at (inl (e, q)) =
        let u : l ≡ a = cc in
        let v : w ≡ b = cc in
        let o : OutsideRange l w = y in
        inl (e, rw (u, v) at o)
    at (inr (j, e, p)) = inr (j, e, (l, w, p, y))

pub out_found : {vss : List (List ℕ)} → Pairs vss → (n : ℕ) → Found (OutsideAt vss) n (first_outside (n + 2) vss)
unfolding first_outside
out_found no_pair n = inl (refl, λ k p. let (l, w, i, x) = p in omega (arith, line_two i))
out_found (pair {vss = vss} a b ps) n = go (out_found ps (suc n)) (out_says a b)
  where
    later : suc (n + 2) ≡ suc n + 2
    later = omega arith

    go : Found (OutsideAt vss) (suc n) (first_outside (suc n + 2) vss)
        → ((is_outside a b ≡ true) × OutsideRange a b) ⊎ ((is_outside a b ≡ false) × (OutsideRange a b → ⊥))
        → Found (OutsideAt ((a ∷ b ∷ []) ∷ vss)) n (first_outside (n + 2) ((a ∷ b ∷ []) ∷ vss))
    go below (inl (t, x)) =
        found_here _ _ _ (out_cases a b vss) n _ (λ j p. let (l, w, i, y) = p in (line_two i).0) (a, b, this, x) (true_then _ _ _ t)
    go below (inr (t, x)) =
        found-behind _ _ _ (out_cases a b vss) n _ (λ j p. let (l, w, i, y) = p in (l, w, next i, y)) x (rw (true_else _ _ _ t, later) below)

-- 17. A line whose label isn't above the one before, where b stands before the first, and the search for the first.
abbrev pub LowFrom : ℕ → List (List ℕ) → ℕ → Type 0
LowFrom b vss k = ((label wait : ℕ) × (k ≡ 2) × LineIs vss k (label ∷ wait ∷ []) × (label ≤ b)) ⊎ NotAbove vss k

pub low-two : (b : ℕ) (vss : List (List ℕ)) (k : ℕ) → LowFrom b vss k → (2 ≤ k) × (1 ≤ length vss)
low-two b vss k (inl (l, w, e, i, h)) = line_two i
low-two b vss k (inr (m, l, w, c, o, e, i, j, h)) = line_two j

low-later : (b a c : ℕ) (vss : List (List ℕ)) (j : ℕ) → LowFrom a vss j → LowFrom b ((a ∷ c ∷ []) ∷ vss) (suc j)
low-later b a c vss j (inl (l, w, e, i, h)) = inr (2, l, w, a, c, omega arith, this, next i, h)
low-later b a c vss j (inr (m, l, w, d, o, e, i, k, h)) = inr (suc m, l, w, d, o, omega arith, next i, next k, h)

low-cases : (b a c : ℕ) (vss : List (List ℕ)) (k : ℕ) → LowFrom b ((a ∷ c ∷ []) ∷ vss) k
    → ((k ≡ 2) × (a ≤ b)) ⊎ ((j : ℕ) × (k ≡ suc j) × LowFrom a vss j)
low-cases b a c vss k (inl (l, w, e, i, h)) = at (line_cases i)
  where
    at : Behind (a ∷ c ∷ []) vss k (l ∷ w ∷ []) → ((k ≡ 2) × (a ≤ b)) ⊎ ((j : ℕ) × (k ≡ suc j) × LowFrom a vss j)
    at (inl (f, q)) = let u : a ≡ l = cc in inl (f, omega arith)
    at (inr (j, f, p)) = absurd (omega (arith, line_two p))
low-cases b a c vss k (inr (m, l, w, d, o, e, i, n, h)) = at (line_cases n) (line_cases i)
  where
    at : Behind (a ∷ c ∷ []) vss k (l ∷ w ∷ []) → Behind (a ∷ c ∷ []) vss m (d ∷ o ∷ [])
        → ((k ≡ 2) × (a ≤ b)) ⊎ ((j : ℕ) × (k ≡ suc j) × LowFrom a vss j)
    at (inl (f, q)) s = absurd (omega (arith, line_two i))
    at (inr (j, f, p)) (inl (g, q)) = let u : a ≡ d = cc in inr (j, f, inl (l, w, omega arith, p, omega arith))
    at (inr (j, f, p)) (inr (r, g, q)) = inr (j, f, inr (r, l, w, d, o, omega arith, q, p, h))

pub low-found : {vss : List (List ℕ)} → Pairs vss → (b n : ℕ) → Found (LowFrom b vss) n (first_not_above b (n + 2) vss)
unfolding first_not_above
low-found no_pair b n = inl (refl, λ k p. omega (arith, (low-two b [] k p).1))
low-found (pair {vss = vss} a c ps) b n = go (low-found ps a (suc n)) (dec_lt b a)
  where
    later : suc (n + 2) ≡ suc n + 2
    later = omega arith

    go : Found (LowFrom a vss) (suc n) (first_not_above a (suc n + 2) vss) → Dec (b < a)
        → Found (LowFrom b ((a ∷ c ∷ []) ∷ vss)) n (first_not_above b (n + 2) ((a ∷ c ∷ []) ∷ vss))
    go below (no h) =
        found_here _ _ _ (low-cases b a c vss) n _ (λ j p. (low-two a vss j p).0) (inl (a, c, refl, this, omega arith)) (lt_else _ _ _ _ (omega arith))
    go below (yes h) = found-behind _ _ _ (low-cases b a c vss) n _ (low-later b a c vss) (λ k. omega arith) (rw (lt_then b a _ _ h, later) below)

-- Where every label is 1 at least, nothing need stand before the first.
pub low-is : (vss : List (List ℕ)) → ((k : ℕ) → OutsideAt vss k → ⊥) → (k : ℕ) → LowFrom 0 vss k → NotAbove vss k
low-is vss none k (inl (l, w, e, i, h)) = absurd (none k (l, w, i, inl (omega arith)))
low-is vss none k (inr p) = p
