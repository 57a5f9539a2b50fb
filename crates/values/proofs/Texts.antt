-- A value at a place is a text of it that stands there, and the byte behind that text.
use Prim.Native.Nat.{ℕ, ◌+◌, ◌≤◌, ◌<◌}
use mathlib.Core.Path.{◌≡◌, refl, sym, ◌∙◌, ap}
use mathlib.Core.Bool.{Bool, true, false}
use mathlib.Core.List.{List, [], ◌∷◌, ◌++◌}
use native.Mathlib.Omega.{arith}
use native.Mathlib.Numerals.{add-one}
use native.Mathlib.Decide.{dec_lt}
use lib.ListN.{length, get_or, drop, drop_of_length-le}
use lib.Seq.{drop-cons, drop-drop}
use Rattle.std.proofs.Common.{Option, Some, None}
use Rattle.model.specs.Values.{is_digit, run, after_run, decimal}
use Rattle.basics.specs.Values.{shown, SpellsValue, Other, Reads}
use Rattle.basics.proofs.Choices.{lt_then, lt_first, eq_then, eq_first, true_then, true_first}
use Rattle.basics.proofs.Digits.{spelled_read, read-spelled}
use Rattle.values.specs.Fields.{ended_at, value_at}

-- What follows a run of digits stands behind it.
after_run_lem : (bs : List ℕ) → after_run bs ≡ drop (length (run bs)) bs
unfolding run after_run
after_run_lem [] = refl
after_run_lem (b ∷ bs) = go (after_run_lem bs) (is_digit b) refl
  where
    go : after_run bs ≡ drop (length (run bs)) bs → (t : Bool) → is_digit b ≡ t
        → after_run (b ∷ bs) ≡ drop (length (run (b ∷ bs))) (b ∷ bs)
    go p true e = rw (e, run, after_run) p
    go p false e = rw (e, run, after_run)

after-at : (f : List ℕ) (at : ℕ) → after_run (drop at f) ≡ drop (at + length (run (drop at f))) f
after-at f at = after_run_lem (drop at f) ∙ drop-drop (length (run (drop at f))) at f

-- What stands at a place, and behind it.
drop-is : (f : List ℕ) (i e : ℕ) (rest : List ℕ) → drop i f ≡ e ∷ rest → (i < length f) × (get_or f i 0 ≡ e) × (drop (i + 1) f ≡ rest)
drop-is f i e rest p = go (dec_lt i (length f))
  where
    go : Dec (i < length f) → (i < length f) × (get_or f i 0 ≡ e) × (drop (i + 1) f ≡ rest)
    go (yes h) =
        let c : drop i f ≡ get_or f i 0 ∷ drop (i + 1) f = rw add-one (drop-cons f i 0 h) in
        (h, (cc), (cc))
    go (no h) =
        let n : drop i f ≡ [] = drop_of_length-le f {i = i} (omega arith) in
        let z : ◌≡◌ {A = ℕ} 0 1 = cc in
        absurd (omega arith)

-- What text a value at a place is.
pub record ValueText (f : List ℕ) (e at v next : ℕ) : Type 0 where
  pub text : List ℕ
  pub spells : SpellsValue text v
  pub bytes : drop at f ≡ text ++ (e ∷ drop next f)
  pub on : at < next
  pub inside : next ≤ length f

pub value-text : (f : List ℕ) (e at v next : ℕ) → value_at f e at ≡ Some (v, next) → ValueText f e at v next
unfolding value_at ended_at
value-text f e at v next p =
    let i = at + length (run (drop at f)) in
    let (is, q) = true_first _ _ _ _ bad p in
    let (h, r) = lt_first _ _ _ _ _ bad q in
    let (b, s) = eq_first _ _ _ _ _ bad r in
    let (spells, d) = read-spelled (drop at f) is in
    let pair : (decimal 0 (run (drop at f)), i + 1) ≡ (v, next) = cc in
    let n : decimal 0 (run (drop at f)) ≡ v = ap (λ (w : ℕ × ℕ). w.0) pair in
    let m : i + 1 ≡ next = ap (λ (w : ℕ × ℕ). w.1) pair in
    let c : after_run (drop at f) ≡ e ∷ drop next f = after-at f at ∙ drop-cons f i 0 h ∙ rw (b, ← m, add-one) in
    record {
      text = shown (run (drop at f));
      spells = rw n at spells;
      bytes = sym (rw c at d);
      on = omega arith;
      inside = omega arith;
    }
  where
    bad : ◌≡◌ {A = Option (ℕ × ℕ)} None (Some (v, next)) → ⊥
    bad x = cc

pub text-value : (f : List ℕ) (e at v : ℕ) (t rest : List ℕ) → SpellsValue t v → Other e → drop at f ≡ t ++ (e ∷ rest)
    → (next : ℕ) × (value_at f e at ≡ Some (v, next)) × (drop next f ≡ rest)
unfolding value_at ended_at
text-value f e at v t rest s o p =
    let i = at + length (run (drop at f)) in
    let r : Reads (drop at f) v (e ∷ rest) = rw p (spelled_read (e ∷ rest) s o) in
    let (k, b, c) = drop-is f i e rest (sym (after-at f at) ∙ r.after) in
    (i + 1, true_then _ _ _ r.value ∙ lt_then _ _ _ _ k ∙ eq_then _ _ _ _ b ∙ rw r.number, c)
