-- Lines: a line is read to some values just where it spells them, no text of them is shorter than the one that is written, and a file is its
-- lines.
use Prim.Native.Nat.{ℕ, zero, suc, ◌+◌, ◌*◌, ◌≤◌}
use mathlib.Core.Path.{◌≡◌, refl, ◌∙◌, ap}
use mathlib.Core.List.{List, [], ◌∷◌, ◌++◌, flatten}
use native.Mathlib.Omega.{arith}
use native.Mathlib.Decide.{ℕ_discrete}
use lib.ListN.{length, length-append, take}
use Rattle.model.specs.Choice.{if_lt}
use Rattle.model.specs.Limits.{row_size}
use Rattle.model.specs.Values.{digit_zero, is_digit, run, after_run, digits}
use Rattle.model.specs.Text.{comma, line_feed, names, ends, LineValues, Values, Malformed, value_then, ended_by, values_of, into_first, lines_of, line_text}
use Rattle.basics.specs.Members.{Each}
use Rattle.basics.specs.Values.{shown, SpellsValue, Small, Other}
use Rattle.shows.specs.Files.{SpellsLine, no_value, value-then, ends_of, Plain, OneLine, ended, longer}
use Rattle.basics.proofs.Choices.{eq_then, eq_else, true_then, eq_first, true_first}
use Rattle.basics.proofs.Digits.{spelled_read, read-spelled, digits-spell, digits-shortest, digits-three}

-- A line that spells some values says them.
pub line_read : {es l vs : List ℕ} → Each Other es → SpellsLine es l vs → values_of es l ≡ Values vs
unfolding values_of value_then ended_by
line_read o no_value = eq_then _ _ _ _ refl
line_read o (value-then {e = e} {l = l} {v = v} s r) =
    let k = spelled_read (e ∷ l) s o.0 in
    true_then _ _ _ k.value ∙ rw (k.number, k.after) (ap (value_then v) (eq_then _ _ _ _ refl ∙ line_read o.1 r))

-- What a line says, step by step: it is not malformed, a value stands before the rest, and a byte ends the value.
unsaid : (vs : List ℕ) → Malformed ≡ Values vs → ⊥
unsaid vs e = let z : ◌≡◌ {A = ℕ} 0 1 = cc in omega arith

then_is : (v : ℕ) (k : LineValues) (vs : List ℕ) → value_then v k ≡ Values vs
    → (ws : List ℕ) × (k ≡ Values ws) × (vs ≡ v ∷ ws)
unfolding value_then
then_is v (Values ws) vs e = (ws, refl, cc)
then_is v Malformed vs e = absurd (unsaid vs e)

ended_is : (e : ℕ) (bs : List ℕ) (k : List ℕ → LineValues) (vs : List ℕ) → ended_by e bs k ≡ Values vs
    → (rest : List ℕ) × (bs ≡ e ∷ rest) × (k rest ≡ Values vs)
unfolding ended_by
ended_is e [] k vs p = absurd (unsaid vs p)
ended_is e (b ∷ bs) k vs p =
    let (q, r) = eq_first _ _ _ _ _ (unsaid vs) p in
    (bs, ap (λ (c : ℕ). c ∷ bs) q, r)

-- Nothing stands behind the last end.
empty : (l : List ℕ) → length l ≡ 0 → [] ≡ l
empty [] e = refl
empty (x ∷ l) e = absurd (omega arith)

-- A line that says some values spells them.
pub line_spelled : (es l vs : List ℕ) → values_of es l ≡ Values vs → SpellsLine es l vs
unfolding values_of
line_spelled [] l vs e =
    let (p, q) = eq_first _ _ _ _ _ (unsaid vs) e in
    let n : [] ≡ vs = cc in
    rw (← n, ← empty l p) no_value
line_spelled (c ∷ es) l vs e =
    let (v, p) = true_first _ _ _ _ (unsaid vs) e in
    let (ws, q, f) = then_is _ _ vs p in
    let (rest, g, r) = ended_is c (after_run l) (values_of es) ws q in
    let (s, d) = read-spelled l v in
    let t : shown (run l) ++ (c ∷ rest) ≡ l = rw g at d in
    rw (t, ← f) at (value-then {e = c} s (line_spelled es rest ws r))

-- What it spells: a value for each end, and each at most the greatest.
pub spelled_many : {es l vs : List ℕ} → SpellsLine es l vs → length vs ≡ length es
spelled_many no_value = refl
spelled_many (value-then s r) = ap suc (spelled_many r)

pub spelled_small : {es l vs : List ℕ} → SpellsLine es l vs → Each Small vs
spelled_small no_value = tt
spelled_small (value-then s r) = (s.limit, spelled_small r)

-- The line that is written for some values spells them, and none that does is shorter.
pub text-spelled : (es vs : List ℕ) → length vs ≡ length es → Each Small vs → SpellsLine es (line_text es vs) vs
unfolding line_text
text-spelled [] [] e h = no_value
text-spelled [] (v ∷ vs) e h = absurd (omega arith)
text-spelled (c ∷ es) [] e h = absurd (omega arith)
text-spelled (c ∷ es) (v ∷ vs) e h = value-then (digits-spell v h.0) (text-spelled es vs (omega arith) h.1)

pub text-shortest : {es l vs : List ℕ} → SpellsLine es l vs → length (line_text es vs) ≤ length l
unfolding line_text
text-shortest no_value = omega arith
text-shortest (value-then {e = e} {es = es} {t = t} {l = l} {vs = vs} {v = v} s r) =
    rw (length-append (digits v) (e ∷ line_text es vs), length-append t (e ∷ l)) (omega (arith, digits-shortest s, text-shortest r))

-- The first line of a file, where the file begins with one.
pub lines-first : {l : List ℕ} → OneLine l → (bs : List ℕ) → lines_of (l ++ bs) ≡ l ∷ lines_of bs
unfolding lines_of into_first
lines-first ended bs = eq_then _ _ _ _ refl
lines-first (longer {b = b} {l = l} p o) bs = eq_else _ _ _ _ p ∙ ap (into_first b) (lines-first o bs)

-- Its lines are all of a file.
into-flatten : (b : ℕ) (ls : List (List ℕ)) → flatten (into_first b ls) ≡ b ∷ flatten ls
unfolding into_first flatten
into-flatten b [] = refl
into-flatten b (l ∷ ls) = refl

pub lines-flatten : (f : List ℕ) → flatten (lines_of f) ≡ f
unfolding lines_of flatten
lines-flatten [] = refl
lines-flatten (b ∷ bs) = go (lines-flatten bs) (ℕ_discrete b line_feed)
  where
    go : flatten (lines_of bs) ≡ bs → Dec (b ≡ line_feed) → flatten (lines_of (b ∷ bs)) ≡ b ∷ bs
    go h (yes e) = ap flatten (eq_then b line_feed _ _ e) ∙ ap (λ (r : List ℕ). b ∷ r) h
    go h (no e) = ap flatten (eq_else b line_feed _ _ e) ∙ into-flatten b (lines_of bs) ∙ ap (λ (r : List ℕ). b ∷ r) h

-- Bytes with no line feed before a line make a line with it.
pub line_behind : (bs : List ℕ) {l : List ℕ} → Each Plain bs → OneLine l → OneLine (bs ++ l)
line_behind [] p o = o
line_behind (b ∷ bs) p o = longer p.0 (line_behind bs p.1 o)

-- The line of names and the ends of a line of values are lines, and no end is a digit.
pub names-line : OneLine names
unfolding names
names-line = line_behind (take 32 names) (omega arith) ended

-- For any count of values, and for the eleven of a row.
pub ends_of-line : (n : ℕ) → OneLine (ends_of (suc n))
unfolding ends_of
ends_of-line zero = ended
ends_of-line (suc n) = longer plain (ends_of-line n)
  where
    plain : Plain comma
    plain e = omega arith

pub ends_of-other : (n : ℕ) → Each Other (ends_of n)
unfolding ends_of is_digit if_lt
ends_of-other zero = tt
ends_of-other (suc zero) = (refl, tt)
ends_of-other (suc (suc n)) = (refl, ends_of-other (suc n))

pub ends-are : ends ≡ ends_of row_size
unfolding ends ends_of
ends-are = refl

pub ends-line : OneLine ends
ends-line = rw ends-are (ends_of-line 10)

pub ends-other : Each Other ends
ends-other = rw ends-are (ends_of-other row_size)

-- No digit is a line feed.
shown-plain : (ds : List ℕ) → Each Plain (shown ds)
shown-plain [] = tt
shown-plain (d ∷ ds) = (plain, shown-plain ds)
  where
    plain : Plain (digit_zero + d)
    plain e = omega arith

value-plain : {t : List ℕ} {v : ℕ} → SpellsValue t v → Each Plain t
value-plain s = rw s.text (shown-plain s.figures)

-- A line of values is one line where the bytes behind the values are.
pub spelled_line : {es l vs : List ℕ} → OneLine es → SpellsLine es l vs → OneLine l
spelled_line ended (value-then {t = t} s no_value) = line_behind t (value-plain s) ended
spelled_line (longer p o) (value-then {t = t} s r) = line_behind t (value-plain s) (longer p (spelled_line o r))

-- A line of values up to 999 has at most four bytes for each.
pub text-short : (es vs : List ℕ) → Each (λ v. v ≤ 999) vs → length (line_text es vs) ≤ 4 * length es
unfolding line_text
text-short [] vs h = omega arith
text-short (e ∷ es) [] h = omega arith
text-short (e ∷ es) (v ∷ vs) h =
    rw (length-append (digits v) (e ∷ line_text es vs)) (omega (arith, digits-three v h.0, text-short es vs h.1))
