-- Laws of the tests of one row: of its columns, and of each loop, how it begins, goes on, stops and ends.
use Prim.Native.Nat.{ℕ, zero, suc, ◌+◌, ◌-◌, ◌≤◌, ◌<◌}
use native.Mathlib.Omega.{arith}
use native.Mathlib.Decide.{ℕ_discrete, dec_lt}
use mathlib.Core.Path.{◌≡◌, refl, sym, ◌∙◌, ap}
use mathlib.Core.Bool.{Bool, true, false, not, cond, ◌&&◌, ◌||◌, true≢false}
use mathlib.Core.List.{List, [], ◌∷◌, ◌++◌}
use lib.ListN.{length, get_or, take, drop}
use lib.Dec.{eqb, ltb}
use lib.Bits.{bit_or, or_add_and, and_le_l, and_le_r}
use Rattle.std.proofs.lemmas.List.{take_more, drop_more, take_all, drop_all, take-append-drop, length-take-le}
use borrow.Author.Tests.{eq-eqb, ne_eqb}
use Rattle.std.specs.List.{list_all, list_any}
use Rattle.std.specs.Prelude.{Result, Ok, Err}
use Rattle.model.specs.Choice.{if_lt, if_eq, if_true}
use Rattle.model.specs.Rules.{every, is_cue, is_zero, differs, distinct, is_below}
use Rattle.basics.proofs.Choices.{lt_then, lt_else, eq_then, eq_else, true_then, true_else, true_yes, true_no, lt_bool, ifs}
use Rattle.rules.specs.Cells.{cells, key_below}
use Rattle.rules.specs.Faults.{named_fault, or_else}
use Rattle.rules.specs.Numbers.{said, number, kind_number, KindGiven}
use Rattle.rules.specs.declared.faults.Kind.{Kind}
use Rattle.rules.specs.declared.faults.Kind.TheVariants.{Opening, Link, Use}
use Rattle.rules.specs.declared.faults.Fault.{Fault}
use Rattle.rules.specs.declared.faults.Fault.TheVariants.{Place, Range, Repeated, Order}

-- Columns that are lent, by their places.
pub cells-part : (xs : List ℕ) (p n : ℕ) → p + n ≤ length xs → take n (drop p xs) ≡ cells xs p n
unfolding cells
cells-part xs p zero h = refl
cells-part xs p (suc n) h =
    let e : suc p ≡ p + 1 = omega arith in
    rw (drop_more xs p 0 (omega arith)) (ap (λ (l : List ℕ). get_or xs p 0 ∷ l) (cells-part xs (p + 1) n (omega arith)))

pub columns-part : (xs : List ℕ) (p n : ℕ) → p + 11 ≤ length xs → n ≡ 8 → take n (drop (p + 3) xs) ≡ cells xs (p + 3) 8
columns-part xs p n h e = rw e (cells-part xs (p + 3) 8 (omega arith))

pub length-cells : (xs : List ℕ) (p n : ℕ) → length (cells xs p n) ≡ n
unfolding cells
length-cells xs p zero = refl
length-cells xs p (suc n) = ap suc (length-cells xs (p + 1) n)

pub take_cells : (xs : List ℕ) (p n i : ℕ) → i ≤ n → take i (cells xs p n) ≡ cells xs p i
unfolding cells
take_cells xs p n zero h = refl
take_cells xs p zero (suc i) h = absurd (omega arith)
take_cells xs p (suc n) (suc i) h = ap (λ (l : List ℕ). get_or xs p 0 ∷ l) (take_cells xs (p + 1) n i (omega arith))

pub drop_cells : (xs : List ℕ) (p n i : ℕ) → i ≤ n → drop i (cells xs p n) ≡ cells xs (p + i) (n - i)
unfolding cells
drop_cells xs p n zero h = let e : p + 0 ≡ p = omega arith in let f : n - 0 ≡ n = omega arith in rw (e, f)
drop_cells xs p zero (suc i) h = absurd (omega arith)
drop_cells xs p (suc n) (suc i) h =
    let e : p + 1 + i ≡ p + suc i = omega arith in
    let f : n - i ≡ suc n - suc i = omega arith in
    rw (← e, ← f) (drop_cells xs (p + 1) n i (omega arith))

-- A test of all of them, as the library has it.
pub every-all : (ok : ℕ → Bool) (l : List ℕ) → list_all ok l ≡ every ok l
unfolding every if_true
every-all ok [] = refl
every-all ok (x ∷ l) = go (every-all ok l) (ok x)
  where
    go : list_all ok l ≡ every ok l → (t : Bool) → (t && list_all ok l) ≡ cond t (every ok l) false
    go h true = h
    go h false = refl

-- The tests themselves.
pub cue-low : (cues x : ℕ) → x < 1 → is_cue cues x ≡ false
unfolding is_cue
cue-low cues x h = lt_then _ _ _ _ h

pub cue-high : (cues x : ℕ) → 1 ≤ x → cues < x → is_cue cues x ≡ false
unfolding is_cue
cue-high cues x l h = lt_else _ _ _ _ l ∙ lt_then _ _ _ _ h

pub cue-yes : (cues x : ℕ) → 1 ≤ x → x ≤ cues → is_cue cues x ≡ true
unfolding is_cue
cue-yes cues x l h = lt_else _ _ _ _ l ∙ lt_else _ _ _ _ h

pub zero-yes : (x : ℕ) → x ≡ 0 → is_zero x ≡ true
unfolding is_zero
zero-yes x e = eq_then _ _ _ _ e

pub zero-no : (x : ℕ) → (x ≡ 0 → ⊥) → is_zero x ≡ false
unfolding is_zero
zero-no x n = eq_else _ _ _ _ n

pub differs-yes : (x y : ℕ) → (x ≡ y → ⊥) → differs x y ≡ true
unfolding differs
differs-yes x y n = eq_else _ _ _ _ n

pub differs-no : (x y : ℕ) → x ≡ y → differs x y ≡ false
unfolding differs
differs-no x y e = eq_then _ _ _ _ e

-- Of the columns those behind the first m are 0: what is left to test after the first i, if all that was read is 0.
eq_bool : (a b : ℕ) → eqb a b ≡ if_eq a b true false
unfolding if_eq
eq_bool a b = bool (eqb a b)
  where
    bool : (t : Bool) → t ≡ cond t true false
    bool true = refl
    bool false = refl

or_test : (a b : ℕ) (t : Bool) → if_eq (bit_or a b) 0 t false ≡ if_eq a 0 (if_eq b 0 t false) false
or_test a b t = go (ℕ_discrete a 0) (ℕ_discrete b 0)
  where
    go : Dec (a ≡ 0) → Dec (b ≡ 0) → if_eq (bit_or a b) 0 t false ≡ if_eq a 0 (if_eq b 0 t false) false
    go (yes x) (yes y) =
        eq_then _ _ _ _ (omega (arith, or_add_and a b)) ∙ sym (eq_then a 0 _ _ x ∙ eq_then b 0 _ _ y)
    go (yes x) (no y) =
        eq_else _ _ _ _ (λ e. omega (arith, or_add_and a b, and_le_l a b)) ∙ sym (eq_then a 0 _ _ x ∙ eq_else b 0 _ _ y)
    go (no x) d = eq_else _ _ _ _ (λ e. omega (arith, or_add_and a b, and_le_r a b)) ∙ sym (eq_else a 0 _ _ x)

module _ (cs : List ℕ) (m : ℕ) where
  abbrev pub ZeroRest : ℕ → ℕ → Type 0
  ZeroRest i all = every is_zero (drop m cs) ≡ if_eq all 0 (every is_zero (drop (m + (i - m)) cs)) false

  pub zeros_begin : ZeroRest 0 0
  zeros_begin = let e : m + (0 - m) ≡ m = omega arith in rw e (sym (eq_then 0 0 _ _ refl))

  zeros_next : (i : ℕ) → m ≤ i → i < length cs
      → every is_zero (drop (m + (i - m)) cs) ≡ if_eq (get_or cs i 0) 0 (every is_zero (drop (m + (i + 1 - m)) cs)) false
  unfolding every
  zeros_next i h k =
      let f : m + (i - m) ≡ i = omega arith in
      let g : m + (i + 1 - m) ≡ i + 1 = omega arith in
      rw (f, g, drop_more cs i 0 k) (go (get_or cs i 0) (ℕ_discrete (get_or cs i 0) 0) _)
    where
      go : (x : ℕ) → Dec (x ≡ 0) → (t : Bool) → if_true (is_zero x) t false ≡ if_eq x 0 t false
      go x (yes z) t = true_then _ _ _ (zero-yes x z) ∙ sym (eq_then _ _ _ _ z)
      go x (no z) t = true_else _ _ _ (zero-no x z) ∙ sym (eq_else _ _ _ _ z)

  pub zeros_on : (i all w : ℕ) → ZeroRest i all → i < length cs → w ≡ if_lt i m 0 (get_or cs i 0) → ZeroRest (i + 1) (bit_or all w)
  zeros_on i all w e k q = go (dec_lt i m)
    where
      go : Dec (i < m) → ZeroRest (i + 1) (bit_or all w)
      go (yes h) =
          let n : w ≡ 0 = q ∙ lt_then _ _ _ _ h in
          let f : i + 1 - m ≡ i - m = omega arith in
          rw f (e ∙ sym (or_test all w _ ∙ ap (λ (t : Bool). if_eq all 0 t false) (eq_then w 0 _ _ n)))
      go (no h) =
          let n : w ≡ get_or cs i 0 = q ∙ lt_else _ _ _ _ (omega arith) in
          e ∙ ap (λ (t : Bool). if_eq all 0 t false) (zeros_next i (omega arith) k ∙ rw (← n)) ∙ sym (or_test all w _)

  pub zeros_done : (i all : ℕ) → ZeroRest i all → length cs ≤ i → m ≤ length cs → eqb all 0 ≡ every is_zero (drop m cs)
  unfolding every
  zeros_done i all e h k = eq_bool all 0 ∙ sym (e ∙ rw (drop_all (m + (i - m)) cs (omega arith)))

-- Distinct numbers: one more that differs from all before it.
differs-both : (x y : ℕ) → differs x y ≡ differs y x
unfolding differs
differs-both x y = go (ℕ_discrete x y)
  where
    go : Dec (x ≡ y) → if_eq x y false true ≡ if_eq y x false true
    go (yes e) = eq_then _ _ _ _ e ∙ sym (eq_then _ _ _ _ (sym e))
    go (no n) = eq_else _ _ _ _ n ∙ sym (eq_else _ _ _ _ (λ e. n (sym e)))

every-last : (ok : ℕ → Bool) (l : List ℕ) (x : ℕ) → every ok (l ++ (x ∷ [])) ≡ if_true (every ok l) (ok x) false
unfolding every if_true
every-last ok [] x = go (ok x)
  where
    go : (t : Bool) → if_true t true false ≡ if_true true t false
    go true = refl
    go false = refl
every-last ok (y ∷ l) x = ap (λ (t : Bool). if_true (ok y) t false) (every-last ok l x) ∙ go (ok y)
  where
    go : (t : Bool) → if_true t (if_true (every ok l) (ok x) false) false ≡ if_true (if_true t (every ok l) false) (ok x) false
    go true = refl
    go false = refl

distinct-last : (l : List ℕ) (x : ℕ) → distinct (l ++ (x ∷ [])) ≡ if_true (every (differs x) l) (distinct l) false
unfolding every distinct if_true
distinct-last [] x = refl
distinct-last (y ∷ l) x =
    rw (every-last (differs y) l x, distinct-last l x, differs-both y x)
    (go (every (differs y) l) (differs x y) (every (differs x) l) (distinct l))
  where
    go : (a b c d : Bool) → if_true (if_true a b false) (if_true c d false) false ≡ if_true (if_true b c false) (if_true a d false) false
    go true true true d = refl
    go true true false d = refl
    go true false true d = refl
    go true false false d = refl
    go false true true d = refl
    go false true false d = refl
    go false false true d = refl
    go false false false d = refl

-- One that stands among them: some number does not differ from it.
eqb-both : (x y : ℕ) → eqb x y ≡ eqb y x
eqb-both x y = go (ℕ_discrete x y)
  where
    go : Dec (x ≡ y) → eqb x y ≡ eqb y x
    go (yes e) = eq-eqb x y e ∙ sym (eq-eqb y x (sym e))
    go (no n) = ne_eqb x y n ∙ sym (ne_eqb y x (λ e. n (sym e)))

any-every : (x : ℕ) (l : List ℕ) → list_any (λ (y : ℕ). eqb y x) l ≡ not (every (differs x) l)
unfolding every if_true differs if_eq
any-every x [] = refl
any-every x (y ∷ l) = rw (eqb-both y x) (go (any-every x l) (eqb x y))
  where
    go : list_any (λ (z : ℕ). eqb z x) l ≡ not (every (differs x) l) → (t : Bool)
        → (t || list_any (λ (z : ℕ). eqb z x) l) ≡ not (cond (cond t false true) (every (differs x) l) false)
    go h true = refl
    go h false = h

every-front : (ok : ℕ → Bool) (l m : List ℕ) → every ok l ≡ false → every ok (l ++ m) ≡ false
unfolding every if_true
every-front ok [] m e = absurd (true≢false e)
every-front ok (x ∷ l) m e = go (every-front ok l m) (ok x) e
  where
    go : (every ok l ≡ false → every ok (l ++ m) ≡ false) → (t : Bool) → cond t (every ok l) false ≡ false → cond t (every ok (l ++ m)) false ≡ false
    go h true f = h f
    go h false f = refl

distinct-front : (l m : List ℕ) → distinct l ≡ false → distinct (l ++ m) ≡ false
unfolding distinct if_true
distinct-front [] m e = absurd (true≢false e)
distinct-front (x ∷ l) m e = go (distinct-front l m) (every (differs x) l) refl e
  where
    none : (t : Bool) → cond t false false ≡ false
    none true = refl
    none false = refl

    go : (distinct l ≡ false → distinct (l ++ m) ≡ false) → (t : Bool) → every (differs x) l ≡ t → cond t (distinct l) false ≡ false
        → cond (every (differs x) (l ++ m)) (distinct (l ++ m)) false ≡ false
    go h true q f = rw (h f) (none (every (differs x) (l ++ m)))
    go h false q f = rw (every-front (differs x) l m q)

not-none : (t u : Bool) → t ≡ not u → t ≡ false → u ≡ true
not-none t true e f = refl
not-none t false e f = absurd (true≢false (sym e ∙ f))

not-some : (t u : Bool) → t ≡ not u → t ≡ true → u ≡ false
not-some t false e f = refl
not-some t true e f = absurd (true≢false (sym f ∙ e))

module _ (l : List ℕ) where
  pub distinct-one : distinct (take 1 l) ≡ true
  unfolding every distinct if_true
  distinct-one = go l
    where
      go : (l : List ℕ) → distinct (take 1 l) ≡ true
      go [] = refl
      go (x ∷ l) = refl

  pub distinct-on : (i : ℕ) (t : Bool) → distinct (take i l) ≡ true → i < length l → t ≡ list_any (λ (y : ℕ). eqb y (get_or l i 0)) (take i l) → t ≡ false
      → distinct (take (i + 1) l) ≡ true
  distinct-on i t e h q f =
      rw (take_more l i 0 h) (distinct-last (take i l) (get_or l i 0) ∙ true_then _ _ _ (not-none t _ (q ∙ any-every _ _) f) ∙ e)

  pub distinct-stop : (i : ℕ) (t : Bool) → i < length l → t ≡ list_any (λ (y : ℕ). eqb y (get_or l i 0)) (take i l) → t ≡ true → false ≡ distinct l
  distinct-stop i t h q f =
      let g : distinct (take (i + 1) l) ≡ false =
      rw (take_more l i 0 h) (distinct-last (take i l) (get_or l i 0) ∙ true_else _ _ _ (not-some t _ (q ∙ any-every _ _) f)) in
      sym (ap distinct (sym (take-append-drop (i + 1) l)) ∙ distinct-front (take (i + 1) l) (drop (i + 1) l) g)

  pub distinct-done : (i : ℕ) → length l ≤ i → distinct (take i l) ≡ true → true ≡ distinct l
  distinct-done i h e = sym (ap distinct (sym (take_all i l h)) ∙ e)

-- The order of two keys, of columns and a label: what is left of both, the first i columns taken off, says it, as long as these are the same.
module _ (x y : List ℕ) (a b : ℕ) where
  abbrev pub KeyRest : ℕ → Type 0
  KeyRest i = is_below (x ++ (a ∷ [])) (y ++ (b ∷ [])) ≡ is_below (drop i x ++ (a ∷ [])) (drop i y ++ (b ∷ []))

  key_turn : length x ≡ length y → (i : ℕ) → KeyRest i → i < length x
      → is_below (x ++ (a ∷ [])) (y ++ (b ∷ []))
      ≡ if_lt (get_or x i 0) (get_or y i 0) true
      (if_eq (get_or x i 0) (get_or y i 0) (is_below (drop (i + 1) x ++ (a ∷ [])) (drop (i + 1) y ++ (b ∷ []))) false)
  unfolding is_below
  key_turn e i k h = k ∙ rw (drop_more x i 0 h, drop_more y i 0 (omega (arith, e, h))) refl

  pub key_found : length x ≡ length y → (i : ℕ) → KeyRest i → i < length x → (get_or x i 0 ≡ get_or y i 0 → ⊥) → ltb (get_or x i 0) (get_or y i 0) ≡ is_below (x ++ (a ∷ [])) (y ++ (b ∷ []))
  key_found e i k h n = lt_bool _ _ ∙ sym (key_turn e i k h ∙ ap (if_lt (get_or x i 0) (get_or y i 0) true) (eq_else _ _ _ _ n))

  pub key_on : length x ≡ length y → (i : ℕ) → KeyRest i → i < length x → get_or x i 0 ≡ get_or y i 0 → KeyRest (i + 1)
  key_on e i k h q = key_turn e i k h ∙ lt_else _ _ _ _ (omega (arith, q)) ∙ eq_then _ _ _ _ q

  eq_last : if_eq a b false false ≡ false
  eq_last = go (ℕ_discrete a b)
    where
      go : Dec (a ≡ b) → if_eq a b false false ≡ false
      go (yes p) = eq_then _ _ _ _ p
      go (no n) = eq_else _ _ _ _ n

  pub key_done : length x ≡ length y → (i : ℕ) → KeyRest i → length x ≤ i → ltb a b ≡ is_below (x ++ (a ∷ [])) (y ++ (b ∷ []))
  unfolding is_below
  key_done e i k h = lt_bool a b ∙ sym (k ∙ rw (drop_all i x h, drop_all i y (omega (arith, e, h))) (ap (if_lt a b true) eq_last))

-- The columns of a link or a use: what the code finds of them, check by check.
module _ (xs : List ℕ) (p many cues : ℕ) (l : List ℕ) (e : l ≡ cells xs (p + 3) 8) (h : many ≤ 8) where
  taken : take many l ≡ cells xs (p + 3) many
  taken = rw e (take_cells xs (p + 3) 8 many h)

  left : drop many l ≡ cells xs (p + 3 + many) (8 - many)
  left = rw e (drop_cells xs (p + 3) 8 many h)

  pub columns-eight : (length l ≡ 8) × (many ≤ 8)
  columns-eight = (rw e (length-cells xs (p + 3) 8), h)

  pub part-long : many ≡ length (take many l)
  part-long = sym (length-take-le many l (rw columns-eight.0 h))

  module _ (t : Bool) (q : t ≡ every (is_cue cues) (take many l)) where
    pub named_out : t ≡ false → 6 ≡ named_fault xs p many cues
    unfolding named_fault
    named_out f = true_no _ t _ _ _ (rw taken at q) f refl

    module _ (f : t ≡ true) (u : Bool) (q' : u ≡ every is_zero (drop many l)) where
      pub named_idle : u ≡ false → 6 ≡ named_fault xs p many cues
      unfolding named_fault
      named_idle f' = true_yes _ t _ _ _ (rw taken at q) f (true_no _ u _ _ _ (rw left at q') f' refl)

      module _ (f' : u ≡ true) (v : Bool) (q'' : v ≡ distinct (take many l)) where
        pub named_twice : v ≡ false → 7 ≡ named_fault xs p many cues
        unfolding named_fault
        named_twice g = true_yes _ t _ _ _ (rw taken at q) f (true_yes _ u _ _ _ (rw left at q') f' (true_no _ v _ _ _ (rw taken at q'') g refl))

        pub named_fine : v ≡ true → 0 ≡ named_fault xs p many cues
        unfolding named_fault
        named_fine g = true_yes _ t _ _ _ (rw taken at q) f (true_yes _ u _ _ _ (rw left at q') f' (true_yes _ v _ _ _ (rw taken at q'') g refl))

-- The seven behind the own cues of an opening.
pub open_zeros : (xs l : List ℕ) (p : ℕ) (t : Bool) → l ≡ cells xs (p + 3) 8 → t ≡ every is_zero (drop 1 l) → t ≡ every is_zero (cells xs (p + 4) 7)
open_zeros xs l p t e q =
    let f : p + 4 ≡ p + 3 + 1 = omega arith in
    rw f (rw (e, drop_cells xs (p + 3) 8 1 (omega arith)) at q)

-- Two parts of as many columns.
pub parts-alike : (xs : List ℕ) (p q n : ℕ) (l m : List ℕ) → l ≡ cells xs (p + 3) 8 → m ≡ cells xs (q + 3) 8 → n ≤ 8 → length (take n l) ≡ length (take n m)
parts-alike xs p q n l m e f h = sym (part-long xs p n 0 l e h) ∙ part-long xs q n 0 m f h

-- The order of two rows' keys, of n columns or of all.
module _ (xs : List ℕ) (p q : ℕ) (l m : List ℕ) (e : l ≡ cells xs (p + 3) 8) (f : m ≡ cells xs (q + 3) 8) (a b : ℕ) (t : Bool) where
  pub key-part : (n : ℕ) → n ≤ 8 → t ≡ is_below (take n l ++ (a ∷ [])) (take n m ++ (b ∷ [])) → a ≡ get_or xs (p + 2) 0 → b ≡ get_or xs (q + 2) 0
      → t ≡ key_below xs (p + 3) (q + 3) n (get_or xs (p + 2) 0) (get_or xs (q + 2) 0)
  unfolding key_below
  key-part n k w g h = rw (e, f, g, h, take_cells xs (p + 3) 8 n k, take_cells xs (q + 3) 8 n k) at w

  pub key-whole : t ≡ is_below (l ++ (a ∷ [])) (m ++ (b ∷ [])) → a ≡ get_or xs (p + 2) 0 → b ≡ get_or xs (q + 2) 0
      → t ≡ key_below xs (p + 3) (q + 3) 8 (get_or xs (p + 2) 0) (get_or xs (q + 2) 0)
  unfolding key_below
  key-whole w g h = rw (e, f, g, h) at w

pub wholes-alike : (xs : List ℕ) (p q : ℕ) (l m : List ℕ) → l ≡ cells xs (p + 3) 8 → m ≡ cells xs (q + 3) 8 → length l ≡ length m
wholes-alike xs p q l m e f = rw (e, f) (length-cells xs (p + 3) 8 ∙ sym (length-cells xs (q + 3) 8))

-- What the kind of a row says of its number.
pub kind_known : (n m : ℕ) (r : Result Kind Fault) (k : Kind) → KindGiven n r → r ≡ Ok k → kind_number k ≡ m → n ≡ m
kind_known n m r k g e w = sym (rw e at g) ∙ w

pub kind_unknown : (n : ℕ) (r : Result Kind Fault) (f : Fault) → KindGiven n r → r ≡ Err f → (f ≡ Place) × (2 < n)
kind_unknown n r f g e = rw e at g

pub no_use : (n : ℕ) (r : Result Kind Fault) → KindGiven n r → (r ≡ Ok Use → ⊥) → n ≡ 2 → ⊥
no_use n (Ok Opening) g m e = omega arith
no_use n (Ok Link) g m e = omega arith
no_use n (Ok Use) g m e = m refl
no_use n (Err f) g m e = omega (arith, g.1)

pub the_use : (n : ℕ) (r : Result Kind Fault) → KindGiven n r → r ≡ Ok Use → n ≡ 2
the_use n r g e = sym (rw e at g)

-- A fault that was found stands; where none was, the next check speaks.
module _ {A B : Type 0} (x : Result A Fault) (y : Result B Fault) where
  pub found : (f : Fault) (r next : ℕ) → said x ≡ r → x ≡ Err f → y ≡ Err f → said y ≡ or_else r next
  unfolding or_else
  found f r next e q z = rw z (rw q at e ∙ sym (eq_else r 0 next r (λ v. some f (rw q at e ∙ v))))
    where
      some : (f : Fault) → number f ≡ 0 → ⊥
      some Place z = omega arith
      some Range z = omega arith
      some Repeated z = omega arith
      some Order z = omega arith

  pub not_found : (a : A) (r next : ℕ) → said x ≡ r → x ≡ Ok a → said y ≡ next → said y ≡ or_else r next
  unfolding or_else
  not_found a r next e q z = z ∙ sym (eq_then r 0 next r (sym e ∙ ap said q))

-- The branches of a fault.
pub ruleset faults = (ifs, found, not_found, open_zeros)
