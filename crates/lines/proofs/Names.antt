-- The line of names at the start of a text.
use Prim.Native.Nat.{ℕ, ◌≤◌}
use mathlib.Core.Path.{◌≡◌, refl, sym, ◌∙◌, ap}
use mathlib.Core.Bool.{Bool, true, false, false≢true}
use mathlib.Core.List.{List, ◌++◌}
use native.Mathlib.Omega.{arith}
use lib.ListN.{length, take, drop, take-append-drop, length-append}
use lib.Seq.{take_at}
use Rattle.std.proofs.Common.{nat_eq}
use Rattle.std.specs.List.{starts_with as list_starts_with}
use Rattle.std.proofs.lemmas.Bool.Decides.{Decides-eqb}
use Rattle.std.proofs.lemmas.Slice.Eq as Eq
use Rattle.basics.proofs.Choices.{lt_else, lt_second}
use Rattle.shows.proofs.Files.{same_refl, same-is}
use Rattle.lines.specs.Scanning.{starts_with}

-- A text starts with names just where it is these names and something behind them.
pub starts_with_lem : (names g : List ℕ) → starts_with names (names ++ g) ≡ true
unfolding starts_with
starts_with_lem names g =
    lt_else _ _ _ _ (omega (arith, length-append names g)) ∙ rw (take_at names g (length names) refl) (same_refl names)

pub starts_is : (names f : List ℕ) → starts_with names f ≡ true → f ≡ names ++ drop (length names) f
unfolding starts_with
starts_is names f e =
    let (h, q) = lt_second _ _ _ _ _ false≢true e in
    let t : take (length names) f ≡ names = same-is _ _ q in
    sym (take-append-drop (length names) f) ∙ ap (λ (l : List ℕ). l ++ drop (length names) f) t

pub starts_long : (names f : List ℕ) → starts_with names f ≡ true → length names ≤ length f
unfolding starts_with
starts_long names f e = let (h, q) = lt_second _ _ _ _ _ false≢true e in h

-- So the library's test of a text's beginning is the definition's.
pub starts_same : (names f : List ℕ) (t : Bool) → t ≡ list_starts_with nat_eq f names → t ≡ starts_with names f
starts_same names f t e = go t (starts_with names f) refl refl
  where
    test : (t ≡ true → f ≡ names ++ drop (length names) f) × ((rest : List ℕ) → f ≡ names ++ rest → t ≡ true)
    test = Eq.starts_is Decides-eqb f names t e

    go : (u v : Bool) → t ≡ u → starts_with names f ≡ v → t ≡ starts_with names f
    go true v p q = p ∙ sym (ap (starts_with names) (test.0 p) ∙ starts_with_lem names (drop (length names) f))
    go false true p q = absurd (false≢true (sym p ∙ test.1 (drop (length names) f) (starts_is names f q)))
    go false false p q = p ∙ sym q
