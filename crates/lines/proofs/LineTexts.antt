-- A line at a place, as a text of it that stands there; and how lines are counted.
use Prim.Native.Nat.{ℕ, ◌+◌, ◌≤◌}
use mathlib.Core.Path.{◌≡◌, refl, sym, ◌∙◌}
use mathlib.Core.List.{List, [], ◌∷◌, ◌++◌, append_assoc}
use native.Mathlib.Omega.{arith}
use lib.ListN.{length, drop}
use Rattle.std.proofs.Common.{Option, Some, None}
use Rattle.basics.specs.Members.{Each}
use Rattle.basics.specs.Values.{Other}
use Rattle.shows.specs.Files.{SpellsLine, no_value, value-then}
use Rattle.values.specs.Fields.{value_at}
use Rattle.values.proofs.Texts.{value-text, text-value}
use Rattle.lines.specs.Scanning.{ValueFound, Values, Broken, behind, line_at}
use Rattle.lines.proofs.LineScan.{line_first, line_none}

-- A line at a place is a text of it that stands there.
pub record LineText (es f : List ℕ) (at : ℕ) (vs : List ℕ) (next : ℕ) : Type 0 where
  pub line : List ℕ
  pub spells : SpellsLine es line vs
  pub bytes : drop at f ≡ line ++ drop next f
  pub on : at + length es ≤ next
  pub inside : at ≤ length f → next ≤ length f

found-is : (v : ℕ) (k : ValueFound) (vs : List ℕ) (next : ℕ) → behind (v ∷ []) k ≡ Values vs next
    → (ws : List ℕ) × (k ≡ Values ws next) × (vs ≡ v ∷ ws)
unfolding behind
found-is v (Values ws n) vs next e = (ws, (cc), (cc))
found-is v Broken vs next e = let z : ◌≡◌ {A = ℕ} 0 1 = cc in absurd (omega arith)

pub line_text_lem : (es f : List ℕ) (at : ℕ) (vs : List ℕ) (next : ℕ) → line_at es f at ≡ Values vs next → LineText es f at vs next
unfolding line_at
line_text_lem [] f at vs next p =
    let e : vs ≡ [] = cc in
    let n : at ≡ next = cc in
    rw (e, ← n) (record { line = []; spells = no_value; bytes = refl; on = omega arith; inside = λ h. h })
line_text_lem (e ∷ es) f at vs next p = go (λ n ws. line_text_lem es f n ws next) (value_at f e at) refl
  where
    go : ((n : ℕ) (ws : List ℕ) → line_at es f n ≡ Values ws next → LineText es f n ws next) → (m : Option (ℕ × ℕ)) → value_at f e at ≡ m
        → LineText (e ∷ es) f at vs next
    go rec (Some (v, n)) q =
        let (ws, r, w) = found-is v (line_at es f n) vs next (sym (line_first e es f at v n q) ∙ p) in
        let t = value-text f e at v n q in
        let l = rec n ws r in
        rw w
        (record {
          line = t.text ++ (e ∷ l.line);
          spells = value-then t.spells l.spells;
          bytes = t.bytes ∙ rw l.bytes (sym (append_assoc t.text (e ∷ l.line) (drop next f)));
          on = omega arith;
          inside = λ h. l.inside t.inside;
        })
    go rec None q =
        let b : Broken ≡ Values vs next = sym (line_none e es f at q) ∙ p in
        let z : ◌≡◌ {A = ℕ} 0 1 = cc in
        absurd (omega arith)

-- Lines are counted in as many bits as places. Each takes a byte at least, so a count that is at most the place up to which the lines go stays so behind one
-- line more, and no place is past the end of the text: the count of the lines of a text that can be lent never overflows.
pub line_counted : (es f : List ℕ) (at : ℕ) (vs : List ℕ) (next : ℕ) → line_at es f at ≡ Values vs next → 1 ≤ length es
    → (count : ℕ) → count ≤ at → at ≤ length f → (count + 1 ≤ next) × (next ≤ length f)
line_counted es f at vs next p h count few inside =
    let t = line_text_lem es f at vs next p in
    (omega (arith, t.on), t.inside inside)

-- And where a text of a line stands, the line is found.
pub line_found : {es l vs : List ℕ} (f : List ℕ) (at : ℕ) (rest : List ℕ) → SpellsLine es l vs → Each Other es → drop at f ≡ l ++ rest
    → (next : ℕ) × (line_at es f at ≡ Values vs next)
unfolding line_at behind
line_found f at rest no_value o p = (at, refl)
line_found f at rest (value-then {e = e} {es = es} {t = t} {l = l} {v = v} s r) o p =
    let (n, q, d) = text-value f e at v t (l ++ rest) s o.0 (p ∙ append_assoc t (e ∷ l) rest) in
    let (next, k) = line_found f n rest r o.1 d in
    (next, line_first e es f at v n q ∙ rw k)
