-- One pass over lines says what the model's passes say, line by line.
use Prim.Native.Nat.{ℕ, suc, ◌+◌, ◌≤◌}
use mathlib.Core.Path.{◌≡◌, refl, ◌∙◌, ap}
use mathlib.Core.Bool.{Bool, true, false, cond}
use mathlib.Core.List.{List, []}
use native.Mathlib.Omega.{arith}
use lib.Dec.{ltb}
use lib.ListN.{get_or, set}
use Rattle.std.proofs.Common.{Option, Some, None, Result, Ok, Err}
use Rattle.std.specs.Option.{option_or}
use Rattle.std.specs.Bool.{then_some}
use Rattle.model.specs.Choice.{if_lt, if_true}
use Rattle.model.specs.Tables.{Table, Lines, Breaks, line_then}
use Rattle.model.specs.Waits.{WaitTable, Unfit, is_outside, first_outside, first_not_above, waits_with, no_waits, waits_or, waits_in}
use Rattle.basics.proofs.Choices.{eq_then, eq_else}
use Rattle.waits.specs.Passing.{is_low, earliest, with_line, judged_by, judged, known_or, waits_from, SaysWaits}
use Rattle.waits.specs.declared.Seen.{Seen}
use Rattle.model.specs.declared.LineRefusal.{LineRefusal}

-- What the code makes of the first lines of a kind.
pub earliest_is : (known : Option ℕ) (is : Bool) (line : ℕ) → option_or known (then_some is line) ≡ earliest known is line
unfolding earliest if_true
earliest_is (Some l) is line = refl
earliest_is None true line = refl
earliest_is None false line = refl

module _ (seen : Seen) where
  pub judged_outside : (l : ℕ) → seen.outside ≡ Some l → Err (record { number = 16; place = l }) ≡ judged seen
  unfolding judged judged_by
  judged_outside l e = rw e

  pub judged_low : (l : ℕ) → seen.outside ≡ None → seen.low ≡ Some l → Err (record { number = 17; place = l }) ≡ judged seen
  unfolding judged judged_by
  judged_low l e f = rw (e, f)

  pub judged_fit : seen.outside ≡ None → seen.low ≡ None → Ok tt ≡ judged seen
  unfolding judged judged_by
  judged_fit e f = rw (e, f)

-- Nothing is seen yet.
pub turn-begin : (seen : Seen) → seen.line ≡ 2 → seen.before ≡ 0 → seen.outside ≡ None → seen.low ≡ None → (k : Table)
    → waits_from seen no_waits k ≡ waits_in k
unfolding waits_from waits_in known_or
turn-begin seen l b o w (Lines vss) = rw (l, b, o, w)
turn-begin seen l b o w (Breaks n) = refl

-- The first line of a kind: known already, this one, or to come.
first_on : (known : Option ℕ) (line coming : ℕ) (t : Bool) → known_or known (if_true t line coming) ≡ known_or (earliest known t line) coming
unfolding known_or earliest if_true
first_on (Some l) line coming t = refl
first_on None line coming true = refl
first_on None line coming false = refl

-- So the first line of a kind is never 0.
pub first_some : (known : Option ℕ) (line : ℕ) (t : Bool) → 1 ≤ line → 1 ≤ known_or known 1 → 1 ≤ known_or (earliest known t line) 1
unfolding known_or earliest if_true
first_some (Some l) line t h k = k
first_some None line true h k = h
first_some None line false h k = k

-- Two ways to write a choice.
low-choice : (a b x y : ℕ) → if_lt a b x y ≡ if_true (is_low a b) y x
unfolding if_lt if_true is_low
low-choice a b x y = go (ltb a b)
  where
    go : (t : Bool) → cond t x y ≡ cond (cond t false true) y x
    go true = refl
    go false = refl

-- One line further.
pub turn_on : (seen : Seen) (label wait : ℕ) (ws vs : List ℕ) (k : Table) → label ≡ get_or vs 0 0 → wait ≡ get_or vs 1 0
    → waits_from seen ws (line_then vs k) ≡ waits_from (with_line seen label wait) (set ws label wait) k
unfolding waits_from line_then first_outside first_not_above waits_with with_line
turn_on seen label wait ws vs (Breaks m) a b = refl
turn_on seen label wait ws vs (Lines vss) a b =
    let n : seen.line + 1 ≡ suc seen.line = omega arith in
    let c = first_on seen.outside seen.line (first_outside (suc seen.line) vss) (is_outside label wait) in
    let d : known_or seen.low (if_lt seen.before label (first_not_above label (suc seen.line) vss) seen.line)
    ≡ known_or (earliest seen.low (is_low seen.before label) seen.line) (first_not_above label (suc seen.line) vss) =
    ap (known_or seen.low) (low-choice seen.before label _ seen.line)
    ∙ first_on seen.low seen.line (first_not_above label (suc seen.line) vss) (is_low seen.before label) in
    rw (← a, ← b, n, c, d)

-- No line is left.
pub turn_end : (seen : Seen) (ws : List ℕ) (r : Result Unit LineRefusal) → 1 ≤ known_or seen.outside 1 → 1 ≤ known_or seen.low 1 → r ≡ judged seen
    → SaysWaits (waits_from seen ws (Lines [])) r ws
unfolding waits_from waits_with first_outside first_not_above waits_or known_or judged judged_by SaysWaits
turn_end seen ws r h k q = go seen.outside seen.low h k q
  where
    go : (out low : Option ℕ) → 1 ≤ known_or out 1 → 1 ≤ known_or low 1 → r ≡ judged_by out low
        → SaysWaits (waits_or ws (known_or out 0) (known_or low 0)) r ws
    go None None h k q =
        let u : waits_or ws 0 0 ≡ WaitTable ws = eq_then 0 0 _ _ refl ∙ eq_then 0 0 _ _ refl in
        rw u (q, refl)
    go None (Some l) h k q =
        let some : 1 ≤ l = k in
        let u : waits_or ws 0 l ≡ Unfit 17 l = eq_then 0 0 _ _ refl ∙ eq_else l 0 _ _ (λ e. omega arith) in
        rw u q
    go (Some l) low h k q =
        let some : 1 ≤ l = h in
        let u : waits_or ws l (known_or low 0) ≡ Unfit 16 l = eq_else l 0 _ _ (λ e. omega arith) in
        rw u q
