-- Which row wins: the order is one in which of two different rows and paths one wins, and the best of some origins is the one that wins over all others.
use Prim.Native.Nat.{ℕ, ◌<◌}
use native.Mathlib.Omega.{arith}
use native.Mathlib.Decide.{dec_lt}
use mathlib.Core.Path.{◌≡◌, refl, sym, ◌∙◌, ap, ap₂}
use mathlib.Core.Bool.{Bool, true, false}
use mathlib.Core.Logic.{◌⊎◌, inl, inr}
use mathlib.Core.List.Memᴰ
use mathlib.Core.List.{List, [], ◌∷◌, Memᴰ}
use lib.ListN.{length, get_or, drop}
use lib.Dec.{ltb}
use borrow.Author.Tests.{lt-ltb, ltb-true}
use Rattle.model.specs.Behind.{Origin, Behind, Stands, Missing, depth_wins, steps_win, better, winner, best}
use Rattle.model.specs.Choice.{if_lt, if_true}
use Rattle.basics.proofs.Choices.{lt_then, lt_else, true_then, true_else}
use Rattle.demands.specs.Acceptance.{Below, here, later}
use Rattle.demands.specs.RowBehind.{DepthWins, Wins, by-depth, by-step, by_row}
use Rattle.demands.proofs.Tests.{Says, never, in_words, decided}

-- What is decided by a test.
abbrev Decided : Bool → Type 0 → Type 0
Decided t P = ((t ≡ true) × P) ⊎ ((t ≡ false) × (P → ⊥))

-- One list comes before another: not each before the other, and from one to the next.
pub below_both : {ks ls : List ℕ} → Below ks ls → Below ls ks → ⊥
below_both (here h) (here i) = omega arith
below_both (here h) (later e q) = omega arith
below_both (later e p) (here i) = omega arith
below_both (later e p) (later f q) = below_both p q

below_next : {ks ls ms : List ℕ} → Below ks ls → Below ls ms → Below ks ms
below_next (here {x = x} h) (here {y = z} i) = let l : x < z = omega arith in here l
below_next (here {x = x} h) (later {y = z} e q) = let l : x < z = omega arith in here l
below_next (later {x = x} e p) (here {y = z} i) = let l : x < z = omega arith in here l
below_next (later e p) (later f q) = later (e ∙ f) (below_next p q)

-- Two of one length: one comes before the other, or they are the same.
below-either : (ks ls : List ℕ) → length ks ≡ length ls → (ks ≡ ls) ⊎ (Below ks ls ⊎ Below ls ks)
below-either [] [] h = inl refl
below-either [] (l ∷ ls) h = absurd (omega arith)
below-either (k ∷ ks) [] h = absurd (omega arith)
below-either (k ∷ ks) (l ∷ ls) h = go (below-either ks ls (omega arith)) (dec_lt k l) (dec_lt l k)
  where
    go : (ks ≡ ls) ⊎ (Below ks ls ⊎ Below ls ks) → Dec (k < l) → Dec (l < k)
        → (k ∷ ks ≡ l ∷ ls) ⊎ (Below (k ∷ ks) (l ∷ ls) ⊎ Below (l ∷ ls) (k ∷ ks))
    go b (yes a) d = inr (inl (here a))
    go b (no a) (yes d) = inr (inr (here d))
    go (inl e) (no a) (no d) = let f : k ≡ l = omega arith in inl (ap₂ ◌∷◌ f e)
    go (inr (inl b)) (no a) (no d) = let f : k ≡ l = omega arith in inr (inl (later f b))
    go (inr (inr b)) (no a) (no d) = let f : l ≡ k = omega arith in inr (inr (later f b))

-- One row wins over another: not each over the other,
pub wins-both : (ks ls : List ℕ) (m n : ℕ) → Wins ks m ls n → Wins ls n ks m → ⊥
wins-both ks ls m n (by-depth a) (by-depth b) = omega arith
wins-both ks ls m n (by-depth a) (by-step e b) = omega arith
wins-both ks ls m n (by-depth a) (by_row e b) = omega (arith, ap length e)
wins-both ks ls m n (by-step e a) (by-depth b) = omega arith
wins-both ks ls m n (by-step e a) (by-step f b) = below_both a b
wins-both ks ls m n (by-step e a) (by_row f b) = let c : Below ks ks = rw f at a in below_both c c
wins-both ks ls m n (by_row e a) (by-depth b) = omega (arith, ap length e)
wins-both ks ls m n (by_row e a) (by-step f b) = let c : Below ls ls = rw e at b in below_both c c
wins-both ks ls m n (by_row e a) (by_row f b) = omega arith

-- from one to the next,
wins-next : (ks ls ms : List ℕ) (a b c : ℕ) → Wins ks a ls b → Wins ls b ms c → Wins ks a ms c
wins-next ks ls ms a b c (by-depth x) (by-depth y) = by-depth (omega arith)
wins-next ks ls ms a b c (by-depth x) (by-step e y) = by-depth (omega arith)
wins-next ks ls ms a b c (by-depth x) (by_row e y) = by-depth (omega (arith, ap length e))
wins-next ks ls ms a b c (by-step e x) (by-depth y) = by-depth (omega arith)
wins-next ks ls ms a b c (by-step e x) (by-step f y) = by-step (e ∙ f) (below_next x y)
wins-next ks ls ms a b c (by-step e x) (by_row f y) = by-step (e ∙ ap length f) (rw f at x)
wins-next ks ls ms a b c (by_row e x) (by-depth y) = by-depth (omega (arith, ap length e))
wins-next ks ls ms a b c (by_row e x) (by-step f y) = by-step (ap length e ∙ f) (rw e y)
wins-next ks ls ms a b c (by_row e x) (by_row f y) = by_row (e ∙ f) (omega arith)

-- and one of two, unless they are the same.
depth-says : (a b : ℕ) → Says (depth_wins a b) (DepthWins a b)
unfolding depth_wins
depth-says a b = (ltb-true _ _, lt-ltb _ _)

abbrev Depth : List ℕ → List ℕ → Type 0
Depth ks ls = Decided (depth_wins (length ks) (length ls)) (DepthWins (length ks) (length ls))

depth-known : (ks ls : List ℕ) → Depth ks ls
depth-known ks ls = decided _ (depth-says (length ks) (length ls))

wins-either : (ks ls : List ℕ) (m n : ℕ) → ((ks ≡ ls) × (m ≡ n)) ⊎ (Wins ks m ls n ⊎ Wins ls n ks m)
wins-either ks ls m n = go (depth-known ks ls) (depth-known ls ks)
  where
    row : ks ≡ ls → Dec (m < n) → Dec (n < m) → ((ks ≡ ls) × (m ≡ n)) ⊎ (Wins ks m ls n ⊎ Wins ls n ks m)
    row e (yes h) d = inr (inl (by_row e h))
    row e (no h) (yes d) = inr (inr (by_row (sym e) d))
    row e (no h) (no d) = inl (e, omega arith)

    step : length ks ≡ length ls → (ks ≡ ls) ⊎ (Below ks ls ⊎ Below ls ks) → ((ks ≡ ls) × (m ≡ n)) ⊎ (Wins ks m ls n ⊎ Wins ls n ks m)
    step e (inl h) = row h (dec_lt m n) (dec_lt n m)
    step e (inr (inl b)) = inr (inl (by-step e b))
    step e (inr (inr b)) = inr (inr (by-step (sym e) b))

    go : Depth ks ls → Depth ls ks → ((ks ≡ ls) × (m ≡ n)) ⊎ (Wins ks m ls n ⊎ Wins ls n ks m)
    go (inl a) d = inr (inl (by-depth a.1))
    go (inr a) (inl d) = inr (inr (by-depth d.1))
    go (inr (t, a)) (inr (u, d)) = let e : length ks ≡ length ls = omega arith in step e (below-either ks ls e)

-- The model's test of two origins says which wins: by their steps,
steps-say : (ks ls : List ℕ) (b : Bool) (R : Type 0) → length ks ≡ length ls → Says b R → Says (steps_win ks ls b) (Below ks ls ⊎ ((ks ≡ ls) × R))
unfolding steps_win
steps-say [] [] b R h s = in_words s (λ r. inr (refl, r)) (λ w. none w)
  where
    none : Below [] [] ⊎ (◌≡◌ {A = List ℕ} [] [] × R) → R
    none (inl w) = elim w [ ]
    none (inr w) = w.1
steps-say [] (l ∷ ls) b R h s = absurd (omega arith)
steps-say (k ∷ ks) [] b R h s = absurd (omega arith)
steps-say (k ∷ ks) (l ∷ ls) b R h s = go (steps-say ks ls b R (omega arith) s) (dec_lt k l) (dec_lt l k)
  where
    heads : k ∷ ks ≡ l ∷ ls → k ≡ l
    heads e = ap (λ (ms : List ℕ). get_or ms 0 0) e

    tails : k ∷ ks ≡ l ∷ ls → ks ≡ ls
    tails e = ap (drop 1) e

    above : l < k → Below (k ∷ ks) (l ∷ ls) ⊎ ((k ∷ ks ≡ l ∷ ls) × R) → ⊥
    above d (inl (here a)) = omega arith
    above d (inl (later e a)) = omega arith
    above d (inr (e, r)) = omega (arith, heads e)

    to : k ≡ l → Below ks ls ⊎ ((ks ≡ ls) × R) → Below (k ∷ ks) (l ∷ ls) ⊎ ((k ∷ ks ≡ l ∷ ls) × R)
    to e (inl a) = inl (later e a)
    to e (inr (f, r)) = inr (ap₂ ◌∷◌ e f, r)

    from : k ≡ l → Below (k ∷ ks) (l ∷ ls) ⊎ ((k ∷ ks ≡ l ∷ ls) × R) → Below ks ls ⊎ ((ks ≡ ls) × R)
    from e (inl (here a)) = absurd (omega arith)
    from e (inl (later f a)) = inl a
    from e (inr (f, r)) = inr (tails f, r)

    go : Says (steps_win ks ls b) (Below ks ls ⊎ ((ks ≡ ls) × R)) → Dec (k < l) → Dec (l < k)
        → Says (steps_win (k ∷ ks) (l ∷ ls) b) (Below (k ∷ ks) (l ∷ ls) ⊎ ((k ∷ ks ≡ l ∷ ls) × R))
    go t (yes a) d = rw (lt_then k l true (if_lt l k false (steps_win ks ls b)) a) (λ e. inl (here a), λ w. refl)
    go t (no a) (yes d) =
        rw (lt_else k l true (if_lt l k false (steps_win ks ls b)) (omega arith), lt_then l k false (steps_win ks ls b) d) (never (above d))
    go t (no a) (no d) =
        let e : k ≡ l = omega arith in
        rw (lt_else k l true (if_lt l k false (steps_win ks ls b)) (omega arith), lt_else l k false (steps_win ks ls b) (omega arith))
        (in_words t (to e) (from e))

-- and as a whole.
abbrev pub Beats : Origin → Origin → Type 0
Beats x y = Wins x.path x.row y.path y.row

module _ (x y : Origin) where
  abbrev higher : Bool
  higher = depth_wins (length x.path) (length y.path)

  abbrev lower : Bool
  lower = depth_wins (length y.path) (length x.path)

  abbrev by-steps : Bool
  by-steps = steps_win x.path y.path (ltb x.row y.row)

  better-says : Says (better x y) (Beats x y)
  unfolding better
  better-says = go (depth-known x.path y.path) (depth-known y.path x.path)
    where
      to : length x.path ≡ length y.path → Below x.path y.path ⊎ ((x.path ≡ y.path) × (x.row < y.row)) → Beats x y
      to e (inl b) = by-step e b
      to e (inr b) = by_row b.0 b.1

      from : length x.path ≡ length y.path → Beats x y → Below x.path y.path ⊎ ((x.path ≡ y.path) × (x.row < y.row))
      from e (by-depth h) = absurd (omega arith)
      from e (by-step f b) = inl b
      from e (by_row f h) = inr (f, h)

      go : Depth x.path y.path → Depth y.path x.path → Says (better x y) (Beats x y)
      go (inl (t, a)) d = rw (true_then higher true (if_true lower false by-steps) t) (λ e. by-depth a, λ w. refl)
      go (inr (t, a)) (inl (u, d)) =
          rw (true_else higher true (if_true lower false by-steps) t, true_then lower false by-steps u)
          (never (λ w. wins-both x.path y.path x.row y.row w (by-depth d)))
      go (inr (t, a)) (inr (u, d)) =
          let e : length x.path ≡ length y.path = omega arith in
          rw (true_else higher true (if_true lower false by-steps) t, true_else lower false by-steps u)
          (in_words
          (steps-say x.path y.path (ltb x.row y.row) (x.row < y.row) e (ltb-true _ _, lt-ltb _ _))
          (to e) (from e))

-- The best of some origins: there is none, or it is one of them and wins over all others.
pub data BestOf (os : List Origin) (b : Behind) : Type 0 where
  no_best : ((z : Origin) → Memᴰ z os → ⊥) → b ≡ Missing → BestOf os b
  the_best : (o : Origin) → Memᴰ o os → ((z : Origin) → Memᴰ z os → (z ≡ o) ⊎ Beats o z) → b ≡ Stands o → BestOf os b

pub best_of : (os : List Origin) → BestOf os (best os)
unfolding best winner
best_of [] = no_best (λ z i. Memᴰ.not-nil i) refl
best_of (x ∷ os) = go (best_of os)
  where
    same : (y z : Origin) → (y.path ≡ z.path) × (y.row ≡ z.row) → y ≡ z
    same y z (e, f) = ap₂ (λ (path : List ℕ) (row : ℕ). record { path = path; row = row }) e f

    -- The first is not beaten by the best of the others: it is that one, or wins over it and all that it wins over.
    kept : (y : Origin) → ((z : Origin) → Memᴰ z os → (z ≡ y) ⊎ Beats y z) → (Beats y x → ⊥) → (z : Origin) → Memᴰ z os
        → (z ≡ x) ⊎ Beats x z
    kept y h n z i = at (wins-either y.path x.path y.row x.row) (h z i)
      where
        at : ((y.path ≡ x.path) × (y.row ≡ x.row)) ⊎ (Beats y x ⊎ Beats x y) → (z ≡ y) ⊎ Beats y z → (z ≡ x) ⊎ Beats x z
        at (inl e) (inl f) = inl (f ∙ same y x e)
        at (inl e) (inr w) = inr (rw (same y x e) at w)
        at (inr (inl b)) w = absurd (n b)
        at (inr (inr b)) (inl f) = inr (rw f b)
        at (inr (inr b)) (inr w) = inr (wins-next _ _ _ _ _ _ b w)

    go : BestOf os (best os) → BestOf (x ∷ os) (best (x ∷ os))
    go (no_best n e) = the_best x (Memᴰ.head refl) (λ z i. at (Memᴰ.cases_cons i)) (ap (winner (Stands x)) e)
      where
        at : {z : Origin} → (z ≡ x) ⊎ Memᴰ z os → (z ≡ x) ⊎ Beats x z
        at (inl f) = inl f
        at (inr j) = absurd (n _ j)
    go (the_best y i h e) = at (decided _ (better-says y x))
      where
        first : Beats y x → {z : Origin} → (z ≡ x) ⊎ Memᴰ z os → (z ≡ y) ⊎ Beats y z
        first b (inl f) = inr (rw f b)
        first b (inr j) = h _ j

        second : (Beats y x → ⊥) → {z : Origin} → (z ≡ x) ⊎ Memᴰ z os → (z ≡ x) ⊎ Beats x z
        second n (inl f) = inl f
        second n (inr j) = kept y h n _ j

        at : Decided (better y x) (Beats y x) → BestOf (x ∷ os) (best (x ∷ os))
        at (inl (t, b)) =
            the_best y (Memᴰ.tail i) (λ z j. first b (Memᴰ.cases_cons j)) (ap (winner (Stands x)) e ∙ true_then (better y x) _ _ t)
        at (inr (t, b)) =
            the_best x (Memᴰ.head refl) (λ z j. second b (Memᴰ.cases_cons j)) (ap (winner (Stands x)) e ∙ true_else (better y x) _ _ t)
