-- Digits: what spells a value is read as that value, what is read as a value spells it, and a value is written as it is spelled without
-- padding.
use Prim.Native.Nat.{ℕ, zero, suc, ◌+◌, ◌*◌, ◌-◌, ◌/◌, ◌%◌, ◌≤◌, ◌<◌}
use mathlib.Core.Path.{◌≡◌, refl, sym, ◌∙◌, ap}
use mathlib.Core.Bool.{Bool, true, false, false≢true}
use mathlib.Core.List.{List, [], ◌∷◌, ◌++◌, append-nil, append_assoc}
use native.Mathlib.Omega.{arith}
use native.Mathlib.Decide.{dec_lt}
use lib.ListN.{length, get_or, length-append, replicate}
use Rattle.model.specs.Limits.{max_value, max_digits}
use Rattle.model.specs.Values.{digit_zero, is_digit, run, after_run, decimal, is_value, digit_at, digits}
use Rattle.basics.specs.Members.{Each}
use Rattle.basics.specs.Values.{Digit, shown, SpellsValue, NoDigit, Reads}
use Rattle.basics.proofs.Every.{each_append}
use Rattle.basics.proofs.Choices.{lt_then, lt_else, lt_second, passed-not_lt}

-- A byte is a digit just where it lies between the first and the last digit.
pub digit-is_digit : (d : ℕ) → Digit d → is_digit (digit_zero + d) ≡ true
unfolding is_digit
digit-is_digit d h = lt_else _ _ _ _ (omega arith) ∙ lt_else _ _ _ _ (omega arith)

digit_is : (b : ℕ) → is_digit b ≡ true → (digit_zero ≤ b) × (b < digit_zero + 10)
unfolding is_digit
digit_is b e =
    let (low, f) = lt_second _ _ _ _ _ false≢true e in
    let (high, _) = lt_second _ _ _ _ _ false≢true f in
    omega arith

-- Digits before anything that goes on with none are the run, and that is what follows it.
run-shown : (ds rest : List ℕ) → Each Digit ds → NoDigit rest → run (shown ds ++ rest) ≡ ds
unfolding run
run-shown [] [] h g = refl
run-shown [] (b ∷ bs) h g = rw (g, run)
run-shown (d ∷ ds) rest h g =
    let e : digit_zero + d - digit_zero ≡ d = omega arith in
    rw (digit-is_digit d h.0, run, e) (ap (λ (r : List ℕ). d ∷ r) (run-shown ds rest h.1 g))

after_run-shown : (ds rest : List ℕ) → Each Digit ds → NoDigit rest → after_run (shown ds ++ rest) ≡ rest
unfolding after_run
after_run-shown [] [] h g = refl
after_run-shown [] (b ∷ bs) h g = rw (g, after_run)
after_run-shown (d ∷ ds) rest h g = rw (digit-is_digit d h.0, after_run) (after_run-shown ds rest h.1 g)

-- Any bytes are their run of digits and what follows it.
record Parted (bs : List ℕ) : Type 0 where
  each : Each Digit (run bs)
  whole : shown (run bs) ++ after_run bs ≡ bs

parted : (bs : List ℕ) → Parted bs
unfolding run after_run
parted [] = record { each = tt; whole = refl }
parted (b ∷ bs) = go (parted bs) (is_digit b) refl
  where
    go : Parted bs → (t : Bool) → is_digit b ≡ t → Parted (b ∷ bs)
    go p true e =
        let (low, high) = digit_is b e in
        let f : digit_zero + (b - digit_zero) ≡ b = omega arith in
        let d : b - digit_zero < 10 = omega arith in
        record {
          each = rw (e, run) (d, p.each);
          whole = rw (e, run, after_run, f) (ap (λ (r : List ℕ). b ∷ r) p.whole);
        }
    go p false e =
        record { each = rw (e, run) tt; whole = rw (e, run, after_run) }

-- A run of digits is a value where it has one to five digits and its number is no more than the greatest.
value-is : (ds : List ℕ) → is_value ds ≡ true → (1 ≤ length ds) × (length ds ≤ max_digits) × (decimal 0 ds ≤ max_value)
unfolding is_value
value-is ds e =
    let (some, f) = passed-not_lt (length ds) 1 _ e in
    let (few, g) = passed-not_lt max_digits (length ds) _ f in
    (some, few, (passed-not_lt max_value (decimal 0 ds) _ g).0)

pub is-value : (ds : List ℕ) → 1 ≤ length ds → length ds ≤ max_digits → decimal 0 ds ≤ max_value → is_value ds ≡ true
unfolding is_value
is-value ds some few small = lt_else _ _ _ _ some ∙ lt_else _ _ _ _ few ∙ lt_else _ _ _ _ small

-- The number that digits stand for: with nothing before the first, it grows from there, and a last one counts once.
pub decimal-first : (d : ℕ) (ds : List ℕ) → decimal 0 (d ∷ ds) ≡ decimal d ds
unfolding decimal
decimal-first d ds = let e : 0 * 10 + d ≡ d = omega arith in rw e

decimal-grows : (v : ℕ) (ds : List ℕ) → v ≤ decimal v ds
unfolding decimal
decimal-grows v [] = omega arith
decimal-grows v (d ∷ ds) = omega (arith, decimal-grows (v * 10 + d) ds)

pub decimal-last : (v : ℕ) (ds : List ℕ) (d : ℕ) → decimal v (ds ++ (d ∷ [])) ≡ decimal v ds * 10 + d
unfolding decimal
decimal-last v [] d = refl
decimal-last v (c ∷ ds) d = decimal-last (v * 10 + c) ds d

-- The digits of a number by how many there are.
one : (v : ℕ) → v < 10 → digits v ≡ digit_at 1 v ∷ []
unfolding digits
one v h = lt_then _ _ _ _ h

two : (v : ℕ) → 10 ≤ v → v < 100 → digits v ≡ digit_at 10 v ∷ digit_at 1 v ∷ []
unfolding digits
two v g h = lt_else _ _ _ _ g ∙ lt_then _ _ _ _ h

three : (v : ℕ) → 100 ≤ v → v < 1000 → digits v ≡ digit_at 100 v ∷ digit_at 10 v ∷ digit_at 1 v ∷ []
unfolding digits
three v g h = lt_else _ _ _ _ (omega arith) ∙ lt_else _ _ _ _ g ∙ lt_then _ _ _ _ h

four : (v : ℕ) → 1000 ≤ v → v < 10000 → digits v ≡ digit_at 1000 v ∷ digit_at 100 v ∷ digit_at 10 v ∷ digit_at 1 v ∷ []
unfolding digits
four v g h = lt_else _ _ _ _ (omega arith) ∙ lt_else _ _ _ _ (omega arith) ∙ lt_else _ _ _ _ g ∙ lt_then _ _ _ _ h

five : (v : ℕ) → 10000 ≤ v
    → digits v ≡ digit_at 10000 v ∷ digit_at 1000 v ∷ digit_at 100 v ∷ digit_at 10 v ∷ digit_at 1 v ∷ []
unfolding digits
five v g = lt_else _ _ _ _ (omega arith) ∙ lt_else _ _ _ _ (omega arith) ∙ lt_else _ _ _ _ (omega arith) ∙ lt_else _ _ _ _ g

-- One more digit moves the others up by a place.
last : (w d : ℕ) → Digit d → digit_at 1 (w * 10 + d) ≡ digit_zero + d
unfolding digit_at
last w d h = omega arith

up : (p q w d : ℕ) → (w * 10 + d) / q ≡ w / p → digit_at q (w * 10 + d) ≡ digit_at p w
unfolding digit_at
up p q w d e = rw e

-- One more digit stands behind the digits of the number before it.
more : (w d : ℕ) → 0 < w → w < 10000 → Digit d → digits (w * 10 + d) ≡ digits w ++ ((digit_zero + d) ∷ [])
more w d g h k = go (dec_lt w 10) (dec_lt w 100) (dec_lt w 1000)
  where
    tens : digit_at 10 (w * 10 + d) ≡ digit_at 1 w
    tens = up 1 10 w d (omega arith)

    hundreds : digit_at 100 (w * 10 + d) ≡ digit_at 10 w
    hundreds = up 10 100 w d (omega arith)

    thousands : digit_at 1000 (w * 10 + d) ≡ digit_at 100 w
    thousands = up 100 1000 w d (omega arith)

    myriads : digit_at 10000 (w * 10 + d) ≡ digit_at 1000 w
    myriads = up 1000 10000 w d (omega arith)

    go : Dec (w < 10) → Dec (w < 100) → Dec (w < 1000) → digits (w * 10 + d) ≡ digits w ++ ((digit_zero + d) ∷ [])
    go (yes a) b c = rw (one w a, two (w * 10 + d) (omega arith) (omega arith), last w d k, tens)
    go (no a) (yes b) c =
        rw (two w (omega arith) b, three (w * 10 + d) (omega arith) (omega arith), last w d k, tens, hundreds)
    go (no a) (no b) (yes c) =
        rw (three w (omega arith) c, four (w * 10 + d) (omega arith) (omega arith), last w d k, tens, hundreds, thousands)
    go (no a) (no b) (no c) =
        rw (four w (omega arith) h, five (w * 10 + d) (omega arith), last w d k, tens, hundreds, thousands, myriads)

-- A number is written as the digits that stand for it.
spelled : (w : ℕ) (ds : List ℕ) → 0 < w → Each Digit ds → decimal w ds ≤ max_value
    → digits (decimal w ds) ≡ digits w ++ shown ds
unfolding decimal
spelled w [] g h k = sym (append-nil (digits w))
spelled w (d ∷ ds) g h k =
    let small : w * 10 + d ≤ decimal (w * 10 + d) ds = decimal-grows (w * 10 + d) ds in
    spelled (w * 10 + d) ds (omega arith) h.1 k
    ∙ rw (more w d g (omega arith) h.0) (append_assoc (digits w) ((digit_zero + d) ∷ []) (shown ds))

-- A digit alone.
alone : (d : ℕ) → Digit d → digits d ≡ shown (d ∷ [])
unfolding digit_at
alone d h = let e : d / 1 % 10 ≡ d = omega arith in one d h ∙ rw e

-- A text is zeros, or none, and then the digits that a value is written with.
pub record WithZeros (t : List ℕ) (v : ℕ) : Type 0 where
  pub zeros : ℕ
  pub text : t ≡ replicate zeros digit_zero ++ digits v

-- So are the digits of a number.
shown-zeros : (ds : List ℕ) → Each Digit ds → 1 ≤ length ds → decimal 0 ds ≤ max_value → WithZeros (shown ds) (decimal 0 ds)
unfolding decimal
shown-zeros [] h some small = absurd (omega arith)
shown-zeros (d ∷ []) h some small = rw (decimal-first d []) (record { zeros = 0; text = sym (alone d h.0) })
shown-zeros (zero ∷ c ∷ cs) h some small =
    let p = shown-zeros (c ∷ cs) h.1 (omega arith) small in
    record { zeros = suc p.zeros; text = ap (λ (t : List ℕ). digit_zero ∷ t) p.text }
shown-zeros (suc d ∷ c ∷ cs) h some small =
    let e = decimal-first (suc d) (c ∷ cs) in
    let w = spelled (suc d) (c ∷ cs) (omega arith) h.1 (rw e at small) in
    rw e (record { zeros = 0; text = sym (w ∙ ap (λ (t : List ℕ). t ++ shown (c ∷ cs)) (alone (suc d) h.0)) })

-- The bytes of digits: as many, and those of a last digit behind the others.
pub shown-length : (ds : List ℕ) → length (shown ds) ≡ length ds
shown-length [] = refl
shown-length (d ∷ ds) = ap suc (shown-length ds)

shown-last : (ds : List ℕ) (d : ℕ) → shown (ds ++ (d ∷ [])) ≡ shown ds ++ ((digit_zero + d) ∷ [])
shown-last [] d = refl
shown-last (c ∷ ds) d = ap (λ (t : List ℕ). (digit_zero + c) ∷ t) (shown-last ds d)

-- Every value is written as digits that stand for it: those of its tens, and its last digit.
record Written (v : ℕ) : Type 0 where
  ds : List ℕ
  each : Each Digit ds
  number : decimal 0 ds ≡ v
  text : digits v ≡ shown ds

written : (n v : ℕ) → v < n → v ≤ max_value → Written v
unfolding decimal
written zero v g h = absurd (omega arith)
written (suc n) v g h = go (λ k. written n (v / 10) (omega arith) (omega arith)) (dec_lt v 10)
  where
    go : (10 ≤ v → Written (v / 10)) → Dec (v < 10) → Written v
    go tens (yes k) = record { ds = v ∷ []; each = (k, tt); number = decimal-first v []; text = alone v k }
    go tens (no k) =
        let w = tens (omega arith) in
        let e : v / 10 * 10 + v % 10 ≡ v = omega arith in
        let d : v % 10 < 10 = omega arith in
        record {
          ds = w.ds ++ (v % 10 ∷ []);
          each = each_append Digit w.ds (v % 10 ∷ []) w.each (d, tt);
          number = decimal-last 0 w.ds (v % 10) ∙ rw w.number e;
          text =
              (rw e at (more (v / 10) (v % 10) (omega arith) (omega arith) d))
              ∙ ap (λ (t : List ℕ). t ++ ((digit_zero + v % 10) ∷ [])) w.text
              ∙ sym (shown-last w.ds (v % 10));
        }

-- There are one to five of them, and the first is 0 only if it is alone.
pub record Shaped (t : List ℕ) : Type 0 where
  pub some : 1 ≤ length t
  pub few : length t ≤ max_digits
  pub lead : get_or t 0 0 ≡ digit_zero → length t ≡ 1

pub digits-shaped : (v : ℕ) → v ≤ max_value → Shaped (digits v)
unfolding digit_at
digits-shaped v small = go (dec_lt v 10) (dec_lt v 100) (dec_lt v 1000) (dec_lt v 10000)
  where
    go : Dec (v < 10) → Dec (v < 100) → Dec (v < 1000) → Dec (v < 10000) → Shaped (digits v)
    go (yes a) b c d = rw (one v a) (record { some = omega arith; few = omega arith; lead = λ z. refl })
    go (no a) (yes b) c d = rw (two v (omega arith) b) (record { some = omega arith; few = omega arith; lead = λ z. omega arith })
    go (no a) (no b) (yes c) d = rw (three v (omega arith) c) (record { some = omega arith; few = omega arith; lead = λ z. omega arith })
    go (no a) (no b) (no c) (yes d) = rw (four v (omega arith) d) (record { some = omega arith; few = omega arith; lead = λ z. omega arith })
    go (no a) (no b) (no c) (no d) = rw (five v (omega arith)) (record { some = omega arith; few = omega arith; lead = λ z. omega arith })

-- So a value is written as a text of it,
pub digits-spell : (v : ℕ) → v ≤ max_value → SpellsValue (digits v) v
digits-spell v h =
    let w = written (suc v) v (omega arith) h in
    let n : length (digits v) ≡ length w.ds = ap length w.text ∙ shown-length w.ds in
    let d = digits-shaped v h in
    record {
      figures = w.ds;
      text = w.text;
      each = w.each;
      some = omega (arith, d.some);
      few = omega (arith, d.few);
      number = w.number;
      limit = h;
    }

-- every text of it is its digits, with zeros before them or none, and so none is shorter.
pub spelled_zeros : {t : List ℕ} {v : ℕ} → SpellsValue t v → WithZeros t v
spelled_zeros s =
    let e = s.number in
    rw (← e, s.text) (shown-zeros s.figures s.each s.some (rw e s.limit))

pub digits-shortest : {t : List ℕ} {v : ℕ} → SpellsValue t v → length (digits v) ≤ length t
digits-shortest {v = v} s =
    let p = spelled_zeros s in
    rw (p.text, length-append (replicate p.zeros digit_zero) (digits v)) (omega arith)

-- Spelled, then read: the run of a value's text says the value, and what stood behind the text follows.
pub spelled_read : {t : List ℕ} {v : ℕ} (rest : List ℕ) → SpellsValue t v → NoDigit rest → Reads (t ++ rest) v rest
spelled_read {t} {v} rest s g =
    let e : run (t ++ rest) ≡ s.figures = rw s.text (run-shown s.figures rest s.each g) in
    let n = s.number in
    record {
      value = rw e (is-value s.figures s.some s.few (rw n s.limit));
      number = rw e n;
      after = rw s.text (after_run-shown s.figures rest s.each g);
    }

-- Read, then spelled: bytes that begin with a value are a text of it and what follows.
pub read-spelled : (bs : List ℕ) → is_value (run bs) ≡ true → SpellsValue (shown (run bs)) (decimal 0 (run bs)) × (shown (run bs) ++ after_run bs ≡ bs)
read-spelled bs e =
    let p = parted bs in
    let (some, few, small) = value-is (run bs) e in (
      record {
        figures = run bs;
        text = refl;
        each = p.each;
        some = some;
        few = few;
        number = refl;
        limit = small;
      },
      p.whole,
    )

-- A value up to 999 has at most three digits.
pub digits-three : (v : ℕ) → v ≤ 999 → length (digits v) ≤ 3
digits-three v h = go (dec_lt v 10) (dec_lt v 100)
  where
    go : Dec (v < 10) → Dec (v < 100) → length (digits v) ≤ 3
    go (yes a) b = rw (one v a) (omega arith)
    go (no a) (yes b) = rw (two v (omega arith) b) (omega arith)
    go (no a) (no b) = rw (three v (omega arith) (omega arith)) (omega arith)
