-- What the model says of a wait file is what is demanded of its bytes: it is accepted just where it is lawful, and 15, 16 and 17 are each given just where
-- their sentence is the first that is broken, with the first line that breaks it.
use Prim.Native.Nat.{ℕ}
use mathlib.Core.Path.{◌≡◌, refl, sym, ◌∙◌, ap}
use mathlib.Core.Logic.{inl, inr, ◌↔◌}
use mathlib.Core.List.{List}
use native.Mathlib.Omega.{arith}
use Rattle.model.specs.Tables.{Table, Lines, Breaks, table_read}
use Rattle.model.specs.Waits as model
use Rattle.model.specs.Waits.{WaitFile, WaitTable, Unfit, first_outside, first_not_above, waits_with, no_waits, waits_or, waits_in, wait_file}
use Rattle.basics.proofs.Choices.{eq_then, eq_else}
use Rattle.shows.specs.SmallFiles.{BreaksAt, FirstOf}
use Rattle.demands.specs.Waits.{wait_names, wait_ends, Spells, OutsideAt, NotAbove, LawfulWaits}
use Rattle.demands.proofs.WaitTexts.{lines_are, breaks_are}
use Rattle.demands.proofs.WaitLines.{spelled_pairs, line_two, first_one, Found, out_found, LowFrom, low-two, low-found, low-is}

-- What a wait file comes to, sentence by sentence.
pub data Outcome (f : List ℕ) (w : WaitFile) : Type 0 where
  broken : (n : ℕ) → w ≡ Unfit 15 n → BreaksAt wait_names wait_ends f n → Outcome f w
  outside : (n : ℕ) (vss : List (List ℕ)) → w ≡ Unfit 16 n → Spells f vss → FirstOf (OutsideAt vss) n → Outcome f w
  fallen : (n : ℕ) (vss : List (List ℕ)) → w ≡ Unfit 17 n → Spells f vss → ((m : ℕ) → OutsideAt vss m → ⊥) → FirstOf (NotAbove vss) n → Outcome f w
  lawful : (vss : List (List ℕ)) → w ≡ WaitTable (waits_with no_waits vss) → LawfulWaits f vss → Outcome f w

-- What is made of lines.
module _ (f : List ℕ) (vss : List (List ℕ)) (s : Spells f vss) where
  made : wait_file f ≡ waits_or (waits_with no_waits vss) (first_outside 2 vss) (first_not_above 0 2 vss)
  unfolding wait_file waits_in
  made = rw ((lines_are f vss).1 s)

  outs : Found (OutsideAt vss) 0 (first_outside 2 vss)
  outs = out_found (spelled_pairs s.values) 0

  lows : Found (LowFrom 0 vss) 0 (first_not_above 0 2 vss)
  lows = low-found (spelled_pairs s.values) 0 0

  made-outside : (n : ℕ) → FirstOf (OutsideAt vss) n → wait_file f ≡ Unfit 16 n
  unfolding waits_or
  made-outside n p = go outs
    where
      go : Found (OutsideAt vss) 0 (first_outside 2 vss) → wait_file f ≡ Unfit 16 n
      go (inl (z, none)) = absurd (none n p.bad)
      go (inr (m, e, q)) =
          let g : m ≡ n = first_one _ m n q p in
          let (l, w, i, x) = p.bad in
          let k : first_outside 2 vss ≡ n = omega arith in
          made ∙ eq_else _ _ _ _ (λ u. omega (arith, line_two i)) ∙ ap (Unfit 16) k

  module _ (none : (m : ℕ) → OutsideAt vss m → ⊥) where
    no_out : first_outside 2 vss ≡ 0
    no_out = go outs
      where
        go : Found (OutsideAt vss) 0 (first_outside 2 vss) → first_outside 2 vss ≡ 0
        go (inl (z, n)) = z
        go (inr (m, e, q)) = absurd (none m q.bad)

    first-low : (m : ℕ) → FirstOf (LowFrom 0 vss) m → FirstOf (NotAbove vss) m
    first-low m q = record { bad = low-is vss none m q.bad; before = λ k h x. q.before k h (inr x) }

    made-fallen : (n : ℕ) → FirstOf (NotAbove vss) n → wait_file f ≡ Unfit 17 n
    unfolding waits_or
    made-fallen n p = go lows
      where
        go : Found (LowFrom 0 vss) 0 (first_not_above 0 2 vss) → wait_file f ≡ Unfit 17 n
        go (inl (z, nil)) = absurd (nil n (inr p.bad))
        go (inr (m, e, q)) =
            let g : m ≡ n = first_one _ m n (first-low m q) p in
            let k : first_not_above 0 2 vss ≡ n = omega arith in
            let t = (low-two 0 vss m q.bad).0 in
            made ∙ eq_then _ _ _ _ no_out ∙ eq_else _ _ _ _ (λ u. omega arith) ∙ ap (Unfit 17) k

    made-lawful : ((m : ℕ) → NotAbove vss m → ⊥) → wait_file f ≡ WaitTable (waits_with no_waits vss)
    unfolding waits_or
    made-lawful up = go lows
      where
        go : Found (LowFrom 0 vss) 0 (first_not_above 0 2 vss) → wait_file f ≡ WaitTable (waits_with no_waits vss)
        go (inl (z, nil)) = made ∙ eq_then _ _ _ _ no_out ∙ eq_then _ _ _ _ z
        go (inr (m, e, q)) = absurd (up m (low-is vss none m q.bad))

  lines-outcome : Outcome f (wait_file f)
  lines-outcome = go outs lows
    where
      go : Found (OutsideAt vss) 0 (first_outside 2 vss) → Found (LowFrom 0 vss) 0 (first_not_above 0 2 vss) → Outcome f (wait_file f)
      go (inr (m, e, q)) l = outside m vss (made-outside m q) s q
      go (inl (z, none)) (inl (y, nil)) =
          lawful vss (made-lawful none (λ m x. nil m (inr x))) (record { spells = s; in_range_is = none; rising = λ m x. nil m (inr x) })
      go (inl (z, none)) (inr (m, e, q)) = fallen m vss (made-fallen none m (first-low none m q)) s none (first-low none m q)

-- The model's word is an outcome, and no other is.
made-broken : (f : List ℕ) (n : ℕ) → table_read model.wait_names model.wait_ends f ≡ Breaks n → wait_file f ≡ Unfit 15 n
unfolding wait_file waits_in
made-broken f n e = rw e

file-outcome : (f : List ℕ) → Outcome f (wait_file f)
file-outcome f = go (table_read model.wait_names model.wait_ends f) refl
  where
    go : (k : Table) → table_read model.wait_names model.wait_ends f ≡ k → Outcome f (wait_file f)
    go (Lines vss) e = lines-outcome f vss ((lines_are f vss).0 e)
    go (Breaks n) e = broken n (made-broken f n e) ((breaks_are f n).0 e)

outcome-file : (f : List ℕ) (w : WaitFile) → Outcome f w → wait_file f ≡ w
outcome-file f w (broken n e b) = made-broken f n ((breaks_are f n).1 b) ∙ sym e
outcome-file f w (outside n vss e s p) = made-outside f vss s n p ∙ sym e
outcome-file f w (fallen n vss e s none p) = made-fallen f vss s none n p ∙ sym e
outcome-file f w (lawful vss e l) = made-lawful f vss l.spells l.in_range_is l.rising ∙ sym e

pub wait-file : (f : List ℕ) (w : WaitFile) → (wait_file f ≡ w) ↔ Outcome f w
wait-file f w = (λ e. rw e at (file-outcome f), outcome-file f w)
