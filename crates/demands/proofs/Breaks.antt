-- Which refusal of the text a file gets: 1, 2 and 3 of document 01, each exactly where its fact holds.
use Prim.Native.Nat.{ℕ, suc, ◌+◌, ◌≤◌, ◌<◌}
use native.Mathlib.Omega.{arith}
use native.Mathlib.Decide.{dec_lt}
use mathlib.Core.Path.{◌≡◌, refl, sym, ◌∙◌, ap}
use mathlib.Core.Logic.{◌↔◌}
use mathlib.Core.Bool.{Bool, true, false, false≢true}
use mathlib.Core.List.{List, [], ◌∷◌, ◌++◌, flatten, append-nil, append_assoc}
use lib.ListN.{length, length-append}
use Rattle.model.specs.Limits.{max_bytes}
use Rattle.model.specs.Text.{names, ends, LineValues, Values, Malformed, values_of, lines_of}
use Rattle.model.specs.Rows.{row_count}
use Rattle.model.specs.Verdicts.{refusal, Numbers, Reading, Unread, row_then, read_lines, same, read_all, read_file}
use Rattle.model.specs.declared.Refusal.{Refusal}
use Rattle.basics.proofs.Choices.{lt_then, lt_else, true_else}
use Rattle.shows.specs.Files.{SpellsLine, SpellsLines, no_line, line_then_lem}
use Rattle.shows.proofs.Lines.{line_read, line_spelled, spelled_many, spelled_line, lines-first, lines-flatten, names-line, ends-line, ends-other}
use Rattle.shows.proofs.Files.{says_first, same_refl, same-is, names-first}
use Rattle.demands.specs.Acceptance.{Check}
use Rattle.demands.specs.Files.{BreaksAt, ReadRefusal, of_length, of-names, of-line}

-- A text begins with no line of values just where its first line is malformed.
abbrev NoLine : List ℕ → Type 0
NoLine t = (l vs u : List ℕ) → SpellsLine ends l vs → t ≡ l ++ u → ⊥

malformed-none : (t l : List ℕ) (ls : List (List ℕ)) → lines_of t ≡ l ∷ ls → values_of ends l ≡ Malformed → NoLine t
malformed-none t l ls e m k vs u s p =
    let q : l ∷ ls ≡ k ∷ lines_of u = sym e ∙ ap lines_of p ∙ lines-first (spelled_line ends-line s) u in
    let v = line_read ends-other s in
    let z : ◌≡◌ {A = ℕ} 0 1 = cc in
    omega arith

none-malformed : (t l : List ℕ) (ls : List (List ℕ)) → lines_of t ≡ l ∷ ls → NoLine t → values_of ends l ≡ Malformed
unfolding flatten
none-malformed t l ls e h = go (values_of ends l) refl
  where
    go : (k : LineValues) → values_of ends l ≡ k → k ≡ Malformed
    go (Values vs) p = absurd (h l vs (flatten ls) (line_spelled ends l vs p) (sym (lines-flatten t) ∙ ap flatten e))
    go Malformed p = refl

-- Behind the line of names and some lines of values, text t of file f begins at line n.
record From (f t : List ℕ) (n : ℕ) : Type 0 where
  before : List ℕ
  numbers : List ℕ
  values : SpellsLines before numbers
  text : f ≡ names ++ (before ++ t)
  place : n ≡ row_count numbers + 2

-- So it does behind the line of names alone.
starts : (f t : List ℕ) → f ≡ names ++ t → From f t 2
unfolding row_count
starts f t e = record { before = []; numbers = []; values = no_line; text = e; place = refl }

-- One more line of values at the end.
lines-last : {t xs l vs : List ℕ} → SpellsLines t xs → SpellsLine ends l vs → SpellsLines (t ++ l) (xs ++ vs)
lines-last {l = m} {vs = ws} no_line s = rw (append-nil m, append-nil ws) at (line_then_lem s no_line)
lines-last {l = m} {vs = ws} (line_then_lem {l = l} {t = t} {vs = vs} {xs = xs} r k) s =
    rw (append_assoc l t m, append_assoc vs xs ws) (line_then_lem r (lines-last k s))

goes_on_is : (f l vs t : List ℕ) (n : ℕ) → From f (l ++ t) n → SpellsLine ends l vs → From f t (suc n)
unfolding row_count ends
goes_on_is f l vs t n r s =
    record {
      before = r.before ++ l;
      numbers = r.numbers ++ vs;
      values = lines-last r.values s;
      text = r.text ∙ ap (λ (u : List ℕ). names ++ u) (sym (append_assoc r.before l t));
      place = omega (arith, r.place, spelled_many s, length-append r.numbers vs);
    }

-- If t begins with no line of values, the file breaks there.
breaks_at : (f t : List ℕ) (n : ℕ) → From f t n → 1 ≤ length t → NoLine t → BreaksAt f n
breaks_at f t n r h k =
    record {
      before = r.before;
      numbers = r.numbers;
      values = r.values;
      broken = t;
      text = r.text;
      some = h;
      no_line_begins = k;
      place = r.place;
    }

-- Lines that are read to a refusal: it is 3, and falls on the first line that is malformed.
break_of : (n : ℕ) (ls : List (List ℕ)) (q : Refusal) (f t : List ℕ) → read_lines n ls ≡ Unread q → lines_of t ≡ ls → From f t n
    → (q.number ≡ 3) × BreaksAt f q.place
unfolding read_lines row_then lines_of flatten refusal
break_of n [] q f t p e r = absurd (let z : ◌≡◌ {A = ℕ} 0 1 = cc in omega arith)
break_of n (l ∷ ls) q f t p e r = go (λ u. break_of (suc n) ls q f u) (values_of ends l) refl
  where
    whole : t ≡ l ++ flatten ls
    whole = sym (lines-flatten t) ∙ ap flatten e

    some : (t : List ℕ) → lines_of t ≡ l ∷ ls → 1 ≤ length t
    some [] e = absurd (let z : ◌≡◌ {A = ℕ} 0 1 = cc in omega arith)
    some (b ∷ bs) e = omega arith

    later : (vs : List ℕ) (k : Reading) → row_then vs k ≡ Unread q → k ≡ Unread q
    later vs (Numbers xs) h = absurd (let z : ◌≡◌ {A = ℕ} 0 1 = cc in omega arith)
    later vs (Unread x) h = h

    go : ((u : List ℕ) → read_lines (suc n) ls ≡ Unread q → lines_of u ≡ ls → From f u (suc n) → (q.number ≡ 3) × BreaksAt f q.place)
        → (k : LineValues) → values_of ends l ≡ k → (q.number ≡ 3) × BreaksAt f q.place
    go below (Values vs) v =
        let s = line_spelled ends l vs v in
        let g : l ∷ lines_of (flatten ls) ≡ l ∷ ls = sym (lines-first (spelled_line ends-line s) (flatten ls)) ∙ ap lines_of (sym whole) ∙ e in
        below (flatten ls) (later vs _ (sym (says_first n l vs ls v) ∙ p)) (cc) (goes_on_is f l vs (flatten ls) n (rw whole at r) s)
    go below Malformed v =
        let u : Unread (refusal 3 n) ≡ Unread q = sym (rw (read_lines, v)) ∙ p in
        let g : refusal 3 n ≡ q = cc in
        rw (← g) (refl, breaks_at f t n r (some t e) (malformed-none t l ls e v))

-- And back: a text that begins with no line of values is refused at its first line,
broken-here : (n : ℕ) (t : List ℕ) → 1 ≤ length t → NoLine t → read_lines n (lines_of t) ≡ Unread (refusal 3 n)
unfolding read_lines flatten
broken-here n t h k = go (lines_of t) refl
  where
    go : (ls : List (List ℕ)) → lines_of t ≡ ls → read_lines n ls ≡ Unread (refusal 3 n)
    go [] e = let z : length t ≡ 0 = ap length (sym (lines-flatten t) ∙ ap flatten e) in absurd (omega arith)
    go (l ∷ ls) e = rw (none-malformed t l ls e k, read_lines)

-- and behind some lines of values at the line that follows them.
broken-later : (n line : ℕ) {before numbers : List ℕ} (t : List ℕ) → SpellsLines before numbers → 1 ≤ length t → NoLine t
    → line ≡ row_count numbers + n → read_lines n (lines_of (before ++ t)) ≡ Unread (refusal 3 line)
unfolding row_then row_count ends
broken-later n line t no_line h k c = let e : line ≡ n = omega arith in rw e (broken-here n t h k)
broken-later n line t (line_then_lem {l = l} {t = u} {vs = vs} {xs = xs} s r) h k c =
    let e : lines_of (l ++ u ++ t) ≡ l ∷ lines_of (u ++ t) = rw (append_assoc l u t) (lines-first (spelled_line ends-line s) (u ++ t)) in
    let d : line ≡ row_count xs + suc n = omega (arith, spelled_many s, length-append vs xs) in
    ap (read_lines n) e
    ∙ says_first n l vs (lines_of (u ++ t)) (line_read ends-other s)
    ∙ ap (row_then vs) (broken-later (suc n) line t r h k d)

-- A file begins with the line of names, or it is refused for that.
abbrev Unnamed : List ℕ → Type 0
Unnamed f = (lines : List ℕ) → f ≡ names ++ lines → ⊥

data Begins (f : List ℕ) : Type 0 where
  named : (t : List ℕ) → f ≡ names ++ t → Begins f
  unnamed : Unnamed f → read_all (lines_of f) ≡ Unread (refusal 2 1) → Begins f

-- Where it does, the lines behind it are read.
named-read : (f t : List ℕ) → f ≡ names ++ t → read_all (lines_of f) ≡ read_lines 2 (lines_of t)
named-read f t e = rw e (names-first t)

-- One of the two is so.
begins : (f : List ℕ) → Begins f
unfolding read_all flatten
begins f = go (lines_of f) refl
  where
    first : (t : List ℕ) → f ≡ names ++ t → lines_of f ≡ names ∷ lines_of t
    first t e = ap lines_of e ∙ lines-first names-line t

    go : (ls : List (List ℕ)) → lines_of f ≡ ls → Begins f
    go [] e = unnamed (λ t p. let g = first t p in let z : ◌≡◌ {A = ℕ} 0 1 = cc in omega arith) (ap read_all e)
    go (l ∷ ls) e = by (same l names) refl
      where
        by : (b : Bool) → same l names ≡ b → Begins f
        by true s = named (flatten ls) (sym (lines-flatten f) ∙ ap flatten e ∙ ap (λ (k : List ℕ). k ++ flatten ls) (same-is l names s))
        by false s =
            unnamed
            (λ t p. let g = first t p in let k : l ≡ names = cc in false≢true (sym s ∙ ap (λ (m : List ℕ). same m names) k ∙ same_refl names))
            (ap read_all e ∙ true_else _ _ _ s)

-- What a refusal of the text, which is 1, 2 or 3, says of the text.
record Unreadable (f : List ℕ) (q : Refusal) : Type 0 where
  early : q.number ≤ 3
  known : (line : Check → ℕ → ℕ) → ReadRefusal line q
  long : q.number ≡ 1 → max_bytes < length f
  no_names : q.number ≡ 2 → (length f ≤ max_bytes) × Unnamed f
  breaks : q.number ≡ 3 → (length f ≤ max_bytes) × BreaksAt f q.place

unreadable : (f : List ℕ) (q : Refusal) → read_file f ≡ Unread q → Unreadable f q
unfolding read_file refusal
unreadable f q e = size (dec_lt max_bytes (length f))
  where
    same-refusal : (n p : ℕ) → Unread (refusal n p) ≡ Unread q → q ≡ refusal n p
    same-refusal n p u = cc

    number : (n p : ℕ) → q ≡ refusal n p → q.number ≡ n
    number n p g = ap (λ (x : Refusal). x.number) g

    first : length f ≤ max_bytes → read_all (lines_of f) ≡ Unread q → Begins f → Unreadable f q
    first h p (named t g) =
        let (n, b) = break_of 2 (lines_of t) q f t (sym (named-read f t g) ∙ p) refl (starts f t g) in
        record {
          early = omega arith;
          known = λ line. of-line q.place (ap (λ (k : ℕ). refusal k q.place) n);
          long = λ z. omega arith;
          no_names = λ z. absurd (omega arith);
          breaks = λ z. (h, b);
        }
    first h p (unnamed u g) =
        let w = same-refusal 2 1 (sym g ∙ p) in
        let n = number 2 1 w in
        record {
          early = omega arith;
          known = λ line. of-names w;
          long = λ z. omega arith;
          no_names = λ z. (h, u);
          breaks = λ z. absurd (omega arith);
        }

    size : Dec (max_bytes < length f) → Unreadable f q
    size (yes h) =
        let w = same-refusal 1 0 (sym (lt_then _ _ _ _ h) ∙ e) in
        let n = number 1 0 w in
        record {
          early = omega arith;
          known = λ line. of_length w;
          long = λ z. h;
          no_names = λ z. absurd (omega arith);
          breaks = λ z. absurd (omega arith);
        }
    size (no h) = let short : length f ≤ max_bytes = omega arith in first short (sym (lt_else _ _ _ _ short) ∙ e) (begins f)

-- So there are no others, and each is given exactly where its fact holds.
pub file-early : (f : List ℕ) (q : Refusal) → read_file f ≡ Unread q → q.number ≤ 3
file-early f q e = (unreadable f q e).early

pub file-refusal : (line : Check → ℕ → ℕ) (f : List ℕ) (q : Refusal) → read_file f ≡ Unread q → ReadRefusal line q
file-refusal line f q e = (unreadable f q e).known line

pub file-long : (f : List ℕ) → (read_file f ≡ Unread (refusal 1 0)) ↔ (max_bytes < length f)
unfolding read_file refusal
file-long f = (λ e. (unreadable f _ e).long refl, λ h. lt_then _ _ _ _ h)

pub file-unnamed : (f : List ℕ) → (read_file f ≡ Unread (refusal 2 1)) ↔ ((length f ≤ max_bytes) × Unnamed f)
unfolding read_file refusal
file-unnamed f = (λ e. (unreadable f _ e).no_names refl, λ (h, u). lt_else _ _ _ _ h ∙ back u (begins f))
  where
    back : Unnamed f → Begins f → read_all (lines_of f) ≡ Unread (refusal 2 1)
    back u (named t e) = absurd (u t e)
    back u (unnamed v e) = e

pub file-breaks : (f : List ℕ) (line : ℕ) → (read_file f ≡ Unread (refusal 3 line)) ↔ ((length f ≤ max_bytes) × BreaksAt f line)
unfolding read_file refusal
file-breaks f line = (λ e. (unreadable f _ e).breaks refl, λ (h, b). lt_else _ _ _ _ h ∙ back b)
  where
    back : BreaksAt f line → read_all (lines_of f) ≡ Unread (refusal 3 line)
    back b = named-read f _ b.text ∙ broken-later 2 line b.broken b.values b.some b.no_line_begins b.place
