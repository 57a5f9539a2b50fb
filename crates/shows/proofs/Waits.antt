-- What is known of the waits of a lawful wait file: one for each label, and none above the largest.
use Prim.Native.Nat.{ℕ, zero, suc, ◌≤◌}
use mathlib.Core.Path.{◌≡◌, refl, sym, ◌∙◌}
use mathlib.Core.Bool.{Bool, true, false, false≢true}
use mathlib.Core.List.{List, [], ◌∷◌}
use native.Mathlib.Omega.{arith}
use native.Mathlib.Decide.{ℕ_discrete}
use lib.ListN.{get_or, set, replicate, length-set, length-replicate}
use lib.Seq.{get_or-set_same, get_or-set_other}
use Rattle.model.specs.Limits.{max_followed, max_wait}
use Rattle.model.specs.Tables.{Table, Lines, Breaks, table_read}
use Rattle.model.specs.Waits.{WaitTable, Unfit, wait_names, wait_ends, is_outside, first_outside, first_not_above, waits_with, no_waits, waits_or, waits_in, wait_file}
use Rattle.basics.proofs.Choices.{true_then, true_else, lt_second, eq_first}
use Rattle.shows.specs.Waits.{AreWaits}

-- A line that is not outside has a label with a place, and a wait that is small enough.
inside : (label wait : ℕ) → is_outside label wait ≡ false → (label ≤ max_followed) × (wait ≤ max_wait)
unfolding is_outside
inside label wait e =
    let (a, p) = lt_second _ _ _ _ _ (λ q. false≢true (sym q)) e in
    let (b, q) = lt_second _ _ _ _ _ (λ q. false≢true (sym q)) p in
    let (c, r) = lt_second _ _ _ _ _ (λ q. false≢true (sym q)) q in
    (b, c)

-- Its wait at the place of its label, and those of lines of which none is outside.
put_fit : (ws : List ℕ) (label wait : ℕ) → AreWaits ws → label ≤ max_followed → wait ≤ max_wait → AreWaits (set ws label wait)
put_fit ws label wait a h k = record { size = length-set ws label wait ∙ a.size; most = most }
  where
    most : (i : ℕ) → get_or (set ws label wait) i 0 ≤ max_wait
    most i = go (ℕ_discrete i label)
      where
        go : Dec (i ≡ label) → get_or (set ws label wait) i 0 ≤ max_wait
        go (yes e) = rw (e, get_or-set_same ws label wait 0 (omega (arith, a.size))) k
        go (no e) = rw (get_or-set_other ws label i wait 0 e) (a.most i)

put_all : (vss : List (List ℕ)) (n : ℕ) (ws : List ℕ) → AreWaits ws → first_outside (suc n) vss ≡ 0 → AreWaits (waits_with ws vss)
unfolding first_outside waits_with
put_all [] n ws a e = a
put_all (vs ∷ vss) n ws a e = go (λ b q. put_all vss (suc n) _ b q) (is_outside (get_or vs 0 0) (get_or vs 1 0)) refl
  where
    go : (AreWaits (set ws (get_or vs 0 0) (get_or vs 1 0)) → first_outside (suc (suc n)) vss ≡ 0 → AreWaits (waits_with (set ws (get_or vs 0 0) (get_or vs 1 0)) vss))
        → (t : Bool) → is_outside (get_or vs 0 0) (get_or vs 1 0) ≡ t → AreWaits (waits_with (set ws (get_or vs 0 0) (get_or vs 1 0)) vss)
    go below true p = absurd (omega (arith, sym (true_then _ _ _ p) ∙ e))
    go below false p = let (h, k) = inside _ _ p in below (put_fit ws _ _ a h k) (sym (true_else _ _ _ p) ∙ e)

-- Of no line: all are 0.
zeros : (n i : ℕ) → ◌≡◌ {A = ℕ} (get_or (replicate n 0) i 0) 0
zeros zero i = refl
zeros (suc n) zero = refl
zeros (suc n) (suc i) = zeros n i

no_fit : AreWaits no_waits
unfolding no_waits
no_fit = record { size = length-replicate {A = ℕ} (suc max_followed) 0; most = λ i. rw (zeros (suc max_followed) i) (omega arith) }

unfit : (n l : ℕ) (ws : List ℕ) → Unfit n l ≡ WaitTable ws → ⊥
unfit n l ws e = let z : ◌≡◌ {A = ℕ} 0 1 = cc in omega arith

pub waits_fit : (f ws : List ℕ) → wait_file f ≡ WaitTable ws → AreWaits ws
unfolding wait_file waits_in waits_or
waits_fit f ws e = go (table_read wait_names wait_ends f) refl
  where
    go : (k : Table) → table_read wait_names wait_ends f ≡ k → AreWaits ws
    go (Breaks n) p = absurd (unfit 15 n ws (rw p at e))
    go (Lines vss) p =
        let o : waits_or (waits_with no_waits vss) (first_outside 2 vss) (first_not_above 0 2 vss) ≡ WaitTable ws = rw p at e in
        let (z, q) = eq_first _ _ _ _ _ (unfit 16 _ ws) o in
        let (y, r) = eq_first _ _ _ _ _ (unfit 17 _ ws) q in
        let t : waits_with no_waits vss ≡ ws = cc in
        rw t at (put_all vss 1 no_waits no_fit z)
