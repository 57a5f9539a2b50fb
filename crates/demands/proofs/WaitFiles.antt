-- The model says of each wait file what is demanded.
use Prim.Native.Nat.{ℕ, ◌≤◌}
use mathlib.Core.Path.{◌≡◌, refl, sym}
use mathlib.Core.Logic.{◌⊎◌, inl, inr, ◌↔◌}
use mathlib.Core.List.{List}
use native.Mathlib.Omega.{arith}
use lib.ListN.{get_or}
use Rattle.model.specs.Waits.{WaitFile, WaitTable, Unfit, waits_with, no_waits, wait_file}
use Rattle.demands.specs.Waits.{Spells, LawfulWaits, Waits, Malformed, Outside, NotRising}
use Rattle.demands.proofs.Waits.{Outcome, broken, outside, fallen, lawful, wait-file}
use Rattle.demands.proofs.LabelWaits.{fit, table-lines, table-waits, waits_are}

-- What is said of a file: each refusal just where its sentence says so, and no other; accepted just where it is lawful; and then each label has one wait,
-- the one in its place of the table.
pub record ReadsWaits (f : List ℕ) (w : WaitFile) : Type 0 where
  pub malformed : (n : ℕ) → (w ≡ Unfit 15 n) ↔ Malformed f n
  pub out_of_range : (n : ℕ) → (w ≡ Unfit 16 n) ↔ Outside f n
  pub not-above : (n : ℕ) → (w ≡ Unfit 17 n) ↔ NotRising f n
  pub no_other : (number n : ℕ) → w ≡ Unfit number n → (number ≡ 15) ⊎ (number ≡ 16) ⊎ (number ≡ 17)
  pub accepted : ((ws : List ℕ) × (w ≡ WaitTable ws)) ↔ ((vss : List (List ℕ)) × LawfulWaits f vss)
  pub waits : (ws : List ℕ) (vss : List (List ℕ)) → w ≡ WaitTable ws → Spells f vss → (label wait : ℕ) → 1 ≤ label → label ≤ 254
      → Waits vss label wait ↔ (wait ≡ get_or ws label 0)

pub reads_waits : (f : List ℕ) → ReadsWaits f (wait_file f)
reads_waits f = record {
  malformed = λ n. (λ e. malformed n ((wait-file f _).0 e), λ b. (wait-file f _).1 (broken n refl b));
  out_of_range = λ n. (λ e. ranged n ((wait-file f _).0 e), λ b. let (vss, s, p) = b in (wait-file f _).1 (outside n vss refl s p));
  not-above = λ n. (λ e. low n ((wait-file f _).0 e), λ b. let (vss, s, none, p) = b in (wait-file f _).1 (fallen n vss refl s none p));
  no_other = λ number n e. other number n ((wait-file f _).0 e);
  accepted = (
    λ a. let (ws, e) = a in let (vss, l, q) = table-lines f ws e in (vss, l),
    λ a. let (vss, l) = a in (waits_with no_waits vss, (wait-file f _).1 (lawful vss refl l)),
  );
  waits = λ ws vss e s label wait h k. (waits_are f ws vss e s label wait k, λ q. rw q (table-waits f ws vss e s label k));
}
  where
    malformed : (n : ℕ) → Outcome f (Unfit 15 n) → Malformed f n
    malformed n (broken m q b) = let u : m ≡ n = cc in rw u at b
    malformed n (outside m vss q s p) = let z : ◌≡◌ {A = ℕ} 15 16 = cc in absurd (omega arith)
    malformed n (fallen m vss q s none p) = let z : ◌≡◌ {A = ℕ} 15 17 = cc in absurd (omega arith)
    malformed n (lawful vss q l) = absurd (fit 15 n _ (sym q))

    ranged : (n : ℕ) → Outcome f (Unfit 16 n) → Outside f n
    ranged n (broken m q b) = let z : ◌≡◌ {A = ℕ} 16 15 = cc in absurd (omega arith)
    ranged n (outside m vss q s p) = let u : m ≡ n = cc in (vss, s, rw u at p)
    ranged n (fallen m vss q s none p) = let z : ◌≡◌ {A = ℕ} 16 17 = cc in absurd (omega arith)
    ranged n (lawful vss q l) = absurd (fit 16 n _ (sym q))

    low : (n : ℕ) → Outcome f (Unfit 17 n) → NotRising f n
    low n (broken m q b) = let z : ◌≡◌ {A = ℕ} 17 15 = cc in absurd (omega arith)
    low n (outside m vss q s p) = let z : ◌≡◌ {A = ℕ} 17 16 = cc in absurd (omega arith)
    low n (fallen m vss q s none p) = let u : m ≡ n = cc in (vss, s, none, rw u at p)
    low n (lawful vss q l) = absurd (fit 17 n _ (sym q))

    other : (number n : ℕ) → Outcome f (Unfit number n) → (number ≡ 15) ⊎ (number ≡ 16) ⊎ (number ≡ 17)
    other number n (broken m q b) = let u : number ≡ 15 = cc in inl u
    other number n (outside m vss q s p) = let u : number ≡ 16 = cc in inr (inl u)
    other number n (fallen m vss q s none p) = let u : number ≡ 17 = cc in inr (inr u)
    other number n (lawful vss q l) = absurd (fit number n _ (sym q))
