-- A value at a place of a text, digit by digit.
use Prim.Native.Nat.{ℕ, zero, suc, ◌+◌, ◌*◌, ◌-◌, ◌≤◌, ◌<◌}
use mathlib.Core.Path.{◌≡◌, refl, sym, ◌∙◌}
use mathlib.Core.Bool.{Bool, true, false}
use mathlib.Core.List.{List, [], ◌∷◌}
use native.Mathlib.Omega.{arith}
use native.Mathlib.Numerals.{add-one}
use native.Mathlib.Decide.{dec_lt}
use lib.ListN.{length, get_or, drop, drop_of_length-le}
use lib.Seq.{drop-cons}
use Rattle.std.proofs.Common.{Option, Some, None}
use Rattle.model.specs.Limits.{max_value, max_digits}
use Rattle.model.specs.Choice.{if_lt, if_true}
use Rattle.model.specs.Values.{digit_zero, is_digit, run, decimal, is_value}
use Rattle.basics.proofs.Choices.{lt_then, lt_else, lt_first, lt_second, true_then, true_else}
use Rattle.basics.proofs.Digits.{digit-is_digit, is-value, decimal-first}
use Rattle.values.specs.Fields.{figure, figure_at, digit_of, ended_at, value_at}

-- A byte that is a digit, and one that is not.
figure-is : (b d : ℕ) → d ≡ figure b → d < 10 → b ≡ digit_zero + d
unfolding figure
figure-is b d e h =
    let (low, f) = lt_second _ _ _ _ _ ten (sym e) in
    let (high, g) = lt_second _ _ _ _ _ ten f in
    omega arith
  where
    ten : 10 ≡ d → ⊥
    ten z = omega arith

figure-not : (b : ℕ) → 10 ≤ figure b → is_digit b ≡ false
unfolding figure is_digit
figure-not b h = go (dec_lt b 48) (dec_lt 57 b)
  where
    go : Dec (b < 48) → Dec (57 < b) → is_digit b ≡ false
    go (yes l) k = lt_then _ _ _ _ l
    go (no l) (yes k) = lt_else _ _ _ _ (omega arith) ∙ lt_then _ _ _ _ k
    go (no l) (no k) =
        let e : figure b ≡ b - 48 = lt_else _ _ _ _ (omega arith) ∙ lt_else _ _ _ _ (omega arith) in
        absurd (omega arith)

-- A byte that is a digit is found, and what is found of a number below 10 is that number.
pub digit-found : (f : List ℕ) (i b d : ℕ) → i < length f → b ≡ get_or f i 0 → 48 ≤ b → b ≤ 57 → d ≡ b - 48 → Some d ≡ digit_of (figure_at f i)
unfolding digit_of figure_at figure
digit-found f i b d h e low high q =
    let g : figure_at f i ≡ d = lt_then _ _ _ _ h ∙ rw (← e) (lt_else _ _ _ _ low ∙ lt_else _ _ _ _ high ∙ sym q) in
    rw g (sym (lt_then d 10 (Some d) None (omega arith)))

pub digit-some : (r : Option ℕ) (n d : ℕ) → r ≡ digit_of n → r ≡ Some d → (d ≡ n) × (d < 10)
unfolding digit_of
digit-some r n d p q =
    let (h, e) = lt_first n 10 (Some n) None (Some d) none (sym p ∙ q) in
    let m : n ≡ d = cc in
    (sym m, omega arith)
  where
    none : ◌≡◌ {A = Option ℕ} None (Some d) → ⊥
    none z = cc

pub digit-none : (r : Option ℕ) (n : ℕ) → r ≡ digit_of n → r ≡ None → 10 ≤ n
unfolding digit_of
digit-none r n p q = let (h, e) = lt_second n 10 (Some n) None None some (sym p ∙ q) in h
  where
    some : ◌≡◌ {A = Option ℕ} (Some n) None → ⊥
    some z = cc

-- The run of digits from a place on.
module _ (f : List ℕ) (i d : ℕ) (e : d ≡ figure_at f i) where
  found : d < 10 → (i < length f) × (d ≡ figure (get_or f i 0))
  unfolding figure_at
  found h = let (k, g) = lt_first _ _ _ _ _ ten (sym e) in (k, sym g)
    where
      ten : 10 ≡ d → ⊥
      ten z = omega arith

  run_on : d < 10 → run (drop i f) ≡ d ∷ run (drop (i + 1) f)
  unfolding run
  run_on h =
      let (k, g) = found h in
      let b : get_or f i 0 ≡ digit_zero + d = figure-is _ d g h in
      let t : is_digit (get_or f i 0) ≡ true = rw b (digit-is_digit d h) in
      let m : get_or f i 0 - digit_zero ≡ d = omega arith in
      rw (add-one, drop-cons f i 0 k, run, t, m)

  run-off : 10 ≤ d → run (drop i f) ≡ []
  unfolding run figure_at
  run-off h = go (dec_lt i (length f))
    where
      go : Dec (i < length f) → run (drop i f) ≡ []
      go (yes k) =
          let g : d ≡ figure (get_or f i 0) = e ∙ lt_then _ _ _ _ k in
          rw (drop-cons f i 0 k, figure-not (get_or f i 0) (rw g at h), run)
      go (no k) = rw (drop_of_length-le f {i = i} (omega arith))

-- There, by the digit that is found.
module _ (f : List ℕ) (i : ℕ) (r : Option ℕ) (e : r ≡ digit_of (figure_at f i)) where
  pub next-in : (d : ℕ) → r ≡ Some d → i + 1 ≤ length f
  next-in d q = let (p, h) = digit-some r _ d e q in let (k, g) = found f i d p h in omega arith

  pub digit-small : (d : ℕ) → r ≡ Some d → d < 10
  digit-small d q = (digit-some r _ d e q).1

  digit-on : (d : ℕ) → r ≡ Some d → run (drop i f) ≡ d ∷ run (drop (i + 1) f)
  digit-on d q = let (p, h) = digit-some r _ d e q in run_on f i d p h

  digit-off : r ≡ None → run (drop i f) ≡ []
  digit-off q = run-off f i (figure_at f i) refl (digit-none r _ e q)

-- What is left of a value whose first n digits, from place at on, stand for v, where ds are the digits behind them.
unfoldable pub value_rest : List ℕ → ℕ → ℕ → ℕ → ℕ → List ℕ → Option (ℕ × ℕ)
value_rest f e at n v ds =
    if_lt max_digits (n + length ds) None (if_lt max_value (decimal v ds) None (ended_at f e (at + (n + length ds)) (decimal v ds)))

-- 10 to the power n. A number of n digits is below it, and one of five digits is no large number.
unfoldable pub tens : ℕ → ℕ
tens zero = 1
tens (suc n) = tens n * 10

pub tens_first : (d : ℕ) → d < 10 → d < tens 1
unfolding tens
tens_first d h = omega arith

pub tens_more : (n v d : ℕ) → v < tens n → d < 10 → v * 10 + d < tens (n + 1)
unfolding tens
tens_more n v d h k = let e : n + 1 ≡ suc n = omega arith in rw e (omega arith)

pub tens_few : (n v : ℕ) → v < tens n → n ≤ max_digits → v < 100000
unfolding tens
tens_few zero v h k = omega arith
tens_few (suc zero) v h k = omega arith
tens_few (suc (suc zero)) v h k = omega arith
tens_few (suc (suc (suc zero))) v h k = omega arith
tens_few (suc (suc (suc (suc zero)))) v h k = omega arith
tens_few (suc (suc (suc (suc (suc zero))))) v h k = omega arith
tens_few (suc (suc (suc (suc (suc (suc n)))))) v h k = absurd (omega arith)

-- A run of some digits by the two tests of a value.
value-tests : (ds : List ℕ) (x : Option (ℕ × ℕ)) → 1 ≤ length ds
    → if_true (is_value ds) x None ≡ if_lt max_digits (length ds) None (if_lt max_value (decimal 0 ds) None x)
unfolding is_value
value-tests ds x some = go (dec_lt max_digits (length ds)) (dec_lt max_value (decimal 0 ds))
  where
    on : (y : Bool) → if_lt (length ds) 1 false y ≡ y
    on y = lt_else (length ds) 1 false y some

    go : Dec (max_digits < length ds) → Dec (max_value < decimal 0 ds)
        → if_true (is_value ds) x None ≡ if_lt max_digits (length ds) None (if_lt max_value (decimal 0 ds) None x)
    go (yes k) m = true_else _ _ _ (on _ ∙ lt_then _ _ _ _ k) ∙ sym (lt_then _ _ _ _ k)
    go (no k) (yes m) =
        let few : length ds ≤ max_digits = omega arith in
        true_else _ _ _ (on _ ∙ lt_else _ _ _ _ few ∙ lt_then _ _ _ _ m) ∙ sym (lt_else _ _ _ _ few ∙ lt_then _ _ _ _ m)
    go (no k) (no m) =
        let few : length ds ≤ max_digits = omega arith in
        let small : decimal 0 ds ≤ max_value = omega arith in
        true_then _ _ _ (is-value ds some few small) ∙ sym (lt_else _ _ _ _ few ∙ lt_else _ _ _ _ small)

-- A value begins with a digit, and goes on from there.
module _ (f : List ℕ) (e at : ℕ) (r : Option ℕ) (p : r ≡ digit_of (figure_at f at)) where
  pub value_none : r ≡ None → None ≡ value_at f e at
  unfolding value_at is_value
  value_none q = rw (digit-off f at r p q) (sym (true_else _ _ _ (lt_then _ _ _ _ (omega arith))))

  pub value-begin : (d : ℕ) → r ≡ Some d → value_at f e at ≡ value_rest f e at 1 d (run (drop (at + 1) f))
  unfolding value_at value_rest
  value-begin d q =
      let ds : List ℕ = run (drop (at + 1) f) in
      let n : suc (length ds) ≡ 1 + length ds = omega arith in
      rw (digit-on f at r p d q) (value-tests (d ∷ ds) _ (omega arith) ∙ rw (decimal-first d ds, n))

-- It has n digits so far, and r is what is found behind them.
module _ (f : List ℕ) (at n : ℕ) (r : Option ℕ) (q : r ≡ digit_of (figure_at f (at + n))) (d : ℕ) (h : r ≡ Some d) where
  pub more-in : at + (n + 1) ≤ length f
  more-in = omega (arith, next-in f (at + n) r q d h)

  pub less-in : length f - (at + (n + 1)) < length f - (at + n)
  less-in = omega (arith, more-in)

module _
    (f : List ℕ) (e at n v : ℕ) (r : Option ℕ)
    (p : value_at f e at ≡ value_rest f e at n v (run (drop (at + n) f))) (q : r ≡ digit_of (figure_at f (at + n)))
  where
    pub value-turn : (d : ℕ) → r ≡ Some d → value_at f e at ≡ value_rest f e at (n + 1) (v * 10 + d) (run (drop (at + (n + 1)) f))
    unfolding value_rest decimal
    value-turn d h =
        let i : at + n + 1 ≡ at + (n + 1) = omega arith in
        let k : n + suc (length (run (drop (at + (n + 1)) f))) ≡ n + 1 + length (run (drop (at + (n + 1)) f)) = omega arith in
        p ∙ rw (digit-on f (at + n) r q d h, i, k)

    pub value-long : (d : ℕ) → r ≡ Some d → max_digits ≤ n → None ≡ value_at f e at
    unfolding value_rest
    value-long d h b = sym (value-turn d h ∙ lt_then _ _ _ _ (omega arith))

    pub value-big : r ≡ None → n ≤ max_digits → max_value < v → None ≡ value_at f e at
    unfolding value_rest decimal
    value-big h k b = sym (p ∙ rw (digit-off f (at + n) r q h) (lt_else _ _ _ _ (omega arith) ∙ lt_then _ _ _ _ b))

    pub value-done : (x : Option (ℕ × ℕ)) → r ≡ None → n ≤ max_digits → v ≤ max_value → x ≡ ended_at f e (at + n) v → x ≡ value_at f e at
    unfolding value_rest decimal
    value-done x h k b g =
        let m : n + 0 ≡ n = omega arith in
        g ∙ sym (p ∙ rw (digit-off f (at + n) r q h, m) (lt_else _ _ _ _ k ∙ lt_else _ _ _ _ b))
