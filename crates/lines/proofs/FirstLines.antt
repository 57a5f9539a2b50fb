-- The first line of the text from a place on, by what is found there: for any reader of lines.
use Prim.Native.Nat.{ℕ, ◌<◌}
use mathlib.Core.Path.{◌≡◌, refl, sym, ◌∙◌, ap}
use mathlib.Core.Bool.{Bool, true, false, false≢true}
use mathlib.Core.List.{List, [], ◌∷◌, ◌++◌, flatten}
use native.Mathlib.Omega.{arith}
use lib.ListN.{length, drop, length-drop}
use Rattle.model.specs.Text.{LineValues, Values as Says, Malformed as Mute, values_of, lines_of}
use Rattle.model.specs.Verdicts.{same}
use Rattle.basics.specs.Members.{Each}
use Rattle.basics.specs.Values.{Other}
use Rattle.shows.specs.Files.{OneLine}
use Rattle.shows.proofs.Files.{same-is}
use Rattle.shows.proofs.Lines.{line_read, line_spelled, spelled_line, lines-first, lines-flatten}
use Rattle.lines.specs.Scanning.{Values, Broken, line_at, starts_with}
use Rattle.lines.proofs.Names.{starts_with_lem}
use Rattle.lines.proofs.LineTexts.{line_text_lem, line_found}

-- A text that is not at its end has a line.
first_any : (f : List ℕ) (at : ℕ) → at < length f → (l : List ℕ) × (ls : List (List ℕ)) × (lines_of (drop at f) ≡ l ∷ ls)
unfolding flatten
first_any f at h = go (lines_of (drop at f)) refl
  where
    go : (ms : List (List ℕ)) → lines_of (drop at f) ≡ ms → (l : List ℕ) × (ls : List (List ℕ)) × (lines_of (drop at f) ≡ l ∷ ls)
    go [] q =
        let d : length (drop at f) ≡ 0 = ap length (sym (lines-flatten (drop at f)) ∙ ap flatten q) in
        absurd (omega (arith, length-drop at f))
    go (l ∷ ls) q = (l, ls, q)

-- A line that is found is the first, and says its values; where none is found the first says nothing.
module _ (es : List ℕ) (el : OneLine es) (o : Each Other es) (f : List ℕ) (at : ℕ) where
  pub first_found : (vs : List ℕ) (next : ℕ) → line_at es f at ≡ Values vs next
      → (l : List ℕ) × (lines_of (drop at f) ≡ l ∷ lines_of (drop next f)) × (values_of es l ≡ Says vs)
  first_found vs next p =
      let t = line_text_lem es f at vs next p in
      (t.line, ap lines_of t.bytes ∙ lines-first (spelled_line el t.spells) (drop next f), line_read o t.spells)

  pub first-none : at < length f → line_at es f at ≡ Broken
      → (l : List ℕ) × (ls : List (List ℕ)) × (lines_of (drop at f) ≡ l ∷ ls) × (values_of es l ≡ Mute)
  unfolding flatten
  first-none h p = let (l, ls, q) = first_any f at h in (l, ls, q, mute l ls q (values_of es l) refl)
    where
      mute : (l : List ℕ) (ls : List (List ℕ)) → lines_of (drop at f) ≡ l ∷ ls → (k : LineValues) → values_of es l ≡ k → values_of es l ≡ Mute
      mute l ls q Mute r = r
      mute l ls q (Says vs) r =
          let d : drop at f ≡ l ++ flatten ls = sym (lines-flatten (drop at f)) ∙ ap flatten q in
          let (next, g) = line_found f at (flatten ls) (line_spelled es l vs r) o d in
          let z : ◌≡◌ {A = ℕ} 0 1 = cc in
          absurd (omega arith)

-- A text that does not start with a line of names has another line first, if any.
pub first-unnamed : (names f l : List ℕ) (ls : List (List ℕ)) → lines_of f ≡ l ∷ ls → starts_with names f ≡ false → same l names ≡ false
unfolding flatten
first-unnamed names f l ls q e = go (same l names) refl
  where
    go : (t : Bool) → same l names ≡ t → same l names ≡ false
    go false p = p
    go true p =
        let w : names ++ flatten ls ≡ f = rw (← same-is l names p) (ap flatten (sym q) ∙ lines-flatten f) in
        absurd (false≢true (sym e ∙ (rw w at (starts_with_lem names (flatten ls)))))
