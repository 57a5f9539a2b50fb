-- Files without padding: the one that is written for some rows is unpadded, and an unpadded file of these rows is that one.
use Prim.Native.Nat.{ℕ, zero, suc, ◌+◌, ◌-◌, ◌≤◌, ◌<◌}
use native.Mathlib.Omega.{arith}
use native.Mathlib.Decide.{dec_lt, ℕ_discrete}
use mathlib.Core.Path.{◌≡◌, refl, sym, ◌∙◌, ap, ap₂}
use mathlib.Core.Bool.{false≢true}
use mathlib.Core.Logic.{◌≢◌}
use mathlib.Core.List.{List, [], ◌∷◌, ◌++◌, append_assoc}
use lib.ListN.{length, get_or, take, replicate, length-append, get_or-append}
use lib.Seq.{get_or-append-add}
use Rattle.model.specs.Choice.{if_lt, if_eq, if_true}
use Rattle.model.specs.Values.{digit_zero, is_digit, run, after_run, decimal, is_value, digits}
use Rattle.model.specs.Text.{line_feed, names, ends, value_then, ended_by, values_of, into_first, lines_of, line_text}
use Rattle.model.specs.Rows.{rows_from, row_count, rows_of, row_lines, file_text}
use Rattle.model.specs.Lists.{overwrite}
use Rattle.model.specs.Verdicts.{verdict, Numbers, row_then, read_lines, same, read_all, read_file, Accepted}
use Rattle.model.specs.Questions.{answer, write_asked}
use Rattle.model.specs.Ring.{opening, padded_file}
use Rattle.basics.specs.Members.{Each}
use Rattle.basics.specs.Values.{Digit, shown, SpellsValue, Small, Other}
use Rattle.basics.proofs.Every.{each_at, each_append, each-parts}
use Rattle.basics.proofs.Digits.{digit-is_digit, shown-length, digits-shaped, digits-spell, spelled_zeros}
use Rattle.shows.specs.Files.{SpellsLine, no_value, value-then, SpellsLines, no_line, line_then_lem, SpellsFile, Rowed, none, row}
use Rattle.shows.proofs.Lines.{ends-other, spelled_many}
use Rattle.shows.proofs.Files.{row_lines_first, spelled_rows, spelled_values, file-reads, written-again}
use Rattle.shows.proofs.RoundTrips.{write-back}
use Rattle.demands.specs.Words.{IsDigit}
use Rattle.demands.specs.Acceptance.{Lawful}
use Rattle.demands.specs.Files.{LeadingZero, Unpadded, UnpaddedFile}
use Rattle.demands.proofs.Acceptance.{accepted-exactly}
use Rattle.demands.proofs.Ring.{opening-accepted}

-- A byte that the reader takes for no digit is none by `IsDigit`.
other_no_digit : (e : ℕ) → Other e → IsDigit e → ⊥
other_no_digit e o (low, high) =
    let d : digit_zero + (e - digit_zero) ≡ e = omega arith in
    false≢true (sym o ∙ (rw d at (digit-is_digit (e - digit_zero) (omega arith))))

-- What stands in bytes with a byte e in their middle: up to e, there, and behind it.
at-end : (x : List ℕ) (e : ℕ) (l : List ℕ) → get_or (x ++ (e ∷ l)) (length x) 0 ≡ e
at-end x e l = let z : length x + 0 ≡ length x = omega arith in (rw z at (get_or-append-add x (e ∷ l) 0 0))

up_to : (x : List ℕ) (e : ℕ) (l : List ℕ) (j : ℕ) → j ≤ length x → get_or (x ++ (e ∷ l)) j 0 ≡ get_or (x ++ (e ∷ [])) j 0
up_to x e l j h = go (dec_lt j (length x))
  where
    go : Dec (j < length x) → get_or (x ++ (e ∷ l)) j 0 ≡ get_or (x ++ (e ∷ [])) j 0
    go (yes k) = get_or-append x (e ∷ l) 0 j k ∙ sym (get_or-append x (e ∷ []) 0 j k)
    go (no k) = let m : j ≡ length x = omega arith in rw m (at-end x e l ∙ sym (at-end x e []))

module _ (x : List ℕ) (e : ℕ) (l : List ℕ) (o : Other e) where
  behind : (k : ℕ) → get_or (x ++ (e ∷ l)) (length x + suc k) 0 ≡ get_or l k 0
  behind k = get_or-append-add x (e ∷ l) (suc k) 0

  -- The bytes behind it are unpadded if all are, where e is no digit.
  unpadded-behind : Unpadded (x ++ (e ∷ l)) → Unpadded l
  unpadded-behind u i z = u (length x + suc i) (record { zero = behind i ∙ z.zero; begins = begins i z; goes_on_is = goes_on_is })
    where
      begins : (i : ℕ) → LeadingZero l i → 1 ≤ length x + suc i → IsDigit (get_or (x ++ (e ∷ l)) (length x + suc i - 1) 0) → ⊥
      begins zero z h d =
          let k : length x + suc 0 - 1 ≡ length x = omega arith in
          other_no_digit e o (rw (k, at-end x e l) at d)
      begins (suc i) z h d =
          let k : length x + suc (suc i) - 1 ≡ length x + suc i = omega arith in
          let m : suc i - 1 ≡ i = omega arith in
          z.begins (omega arith) (rw m (rw (k, behind i) at d))

      goes_on_is : IsDigit (get_or (x ++ (e ∷ l)) (length x + suc i + 1) 0)
      goes_on_is =
          let k : length x + suc i + 1 ≡ length x + suc (i + 1) = omega arith in
          rw (k, behind (i + 1)) z.goes_on_is

  -- All are unpadded if those up to e are, and those behind it.
  unpadded-join : Unpadded (x ++ (e ∷ [])) → Unpadded l → Unpadded (x ++ (e ∷ l))
  unpadded-join u w i z = go (dec_lt i (length x)) (ℕ_discrete i (length x))
    where
      later : (k : ℕ) → i ≡ length x + suc k → LeadingZero l k
      later k p =
          let q : length x + suc k + 1 ≡ length x + suc (k + 1) = omega arith in
          record {
            zero = sym (behind k) ∙ (rw p at z.zero);
            begins = begins k p;
            goes_on_is = rw (p, q, behind (k + 1)) at z.goes_on_is;
          }
        where
          begins : (k : ℕ) → i ≡ length x + suc k → 1 ≤ k → IsDigit (get_or l (k - 1) 0) → ⊥
          begins zero p h d = omega arith
          begins (suc k) p h d =
              let q : i - 1 ≡ length x + suc k = omega arith in
              let m : suc k - 1 ≡ k = omega arith in
              z.begins (omega arith) (rw (q, behind k) (rw m at d))

      go : Dec (i < length x) → Dec (i ≡ length x) → ⊥
      go (yes h) k =
          u i
          (record {
            zero = sym (up_to x e l i (omega arith)) ∙ z.zero;
            begins = λ m d. z.begins m (rw (up_to x e l (i - 1) (omega arith)) d);
            goes_on_is = rw (up_to x e l (i + 1) (omega arith)) at z.goes_on_is;
          })
      go (no h) (yes k) =
          let q : e ≡ digit_zero = sym (at-end x e l) ∙ (rw k at z.zero) in
          other_no_digit e o (omega arith)
      go (no h) (no k) = w (i - length x - 1) (later (i - length x - 1) (omega arith))

-- Digits are digits as bytes.
shown-digit : (ds : List ℕ) (i : ℕ) → Each Digit ds → i < length ds → IsDigit (get_or (shown ds) i 0)
shown-digit [] i h k = absurd (omega arith)
shown-digit (d ∷ ds) zero h k = let m = h.0 in omega arith
shown-digit (d ∷ ds) (suc i) h k = shown-digit ds i h.1 (omega arith)

-- So the bytes of a value's text are.
text-digit : {t : List ℕ} {v : ℕ} (e : ℕ) (l : List ℕ) (i : ℕ) → SpellsValue t v → i < length t → IsDigit (get_or (t ++ (e ∷ l)) i 0)
text-digit {t} e l i s h =
    let n : length t ≡ length s.figures = ap length s.text ∙ shown-length s.figures in
    let d = shown-digit s.figures i s.each (omega arith) in
    rw (get_or-append t (e ∷ l) 0 i h, s.text) d

-- A value that is written is unpadded, and where a text of it is unpadded, it is the one that is written.
digits-unpadded : (v e : ℕ) → Small v → Other e → Unpadded (digits v ++ (e ∷ []))
digits-unpadded v e h o i z = go i z (dec_lt i (1 + length (digits v)))
  where
    first : LeadingZero (digits v ++ (e ∷ [])) 0 → ⊥
    first z =
        let s = digits-shaped v h in
        let one : length (digits v) ≡ 1 = s.lead (sym (get_or-append (digits v) (e ∷ []) 0 0 s.some) ∙ z.zero) in
        let d : get_or (digits v ++ (e ∷ [])) 1 0 ≡ e = (rw one at (at-end (digits v) e [])) in
        other_no_digit e o (rw d at z.goes_on_is)

    go : (i : ℕ) → LeadingZero (digits v ++ (e ∷ [])) i → Dec (i < 1 + length (digits v)) → ⊥
    go zero z k = first z
    go (suc j) z (yes k) =
        let m : suc j - 1 ≡ j = omega arith in
        z.begins (omega arith) (rw m (text-digit e [] j (digits-spell v h) (omega arith)))
    go (suc j) z (no k) =
        let m : suc j ≡ length (digits v) + suc (j - length (digits v)) = omega arith in
        let q : get_or (digits v ++ (e ∷ [])) (suc j) 0 ≡ 0 = rw m (get_or-append-add (digits v) (e ∷ []) (suc (j - length (digits v))) 0) in
        let w = z.zero in
        omega arith

value-unpadded : {t : List ℕ} {v : ℕ} (e : ℕ) (l : List ℕ) → SpellsValue t v → Unpadded (t ++ (e ∷ l)) → digits v ≡ t
value-unpadded {t} {v} e l s u = go (spelled_zeros s).zeros (spelled_zeros s).text
  where
    go : (n : ℕ) → t ≡ replicate n digit_zero ++ digits v → digits v ≡ t
    go zero p = sym p
    go (suc n) p =
        let q : length t ≡ suc (length (replicate n digit_zero ++ digits v)) = ap length p in
        let long : 1 < length t = omega (arith, length-append (replicate n digit_zero) (digits v), (digits-shaped v s.limit).some) in
        let zero : get_or (t ++ (e ∷ l)) 0 0 ≡ digit_zero = rw p in
        absurd (u 0 (record { zero = zero; begins = λ h d. omega arith; goes_on_is = text-digit e l 1 s long }))

-- The same for a line, whatever follows it,
line_unpadded : {es l vs : List ℕ} (rest : List ℕ) → Each Other es → SpellsLine es l vs → Unpadded (l ++ rest)
    → (line_text es vs ≡ l) × Unpadded rest
unfolding line_text
line_unpadded rest o no_value u = (refl, u)
line_unpadded rest o (value-then {e = e} {t = t} {l = l} s r) u =
    let w : Unpadded (t ++ (e ∷ (l ++ rest))) = rw (append_assoc t (e ∷ l) rest) at u in
    let (p, q) = line_unpadded rest o.1 r (unpadded-behind t e (l ++ rest) o.0 w) in
    (rw (value-unpadded e (l ++ rest) s w, p), q)

text-unpadded : (es vs rest : List ℕ) → Each Other es → Each Small vs → Unpadded rest → Unpadded (line_text es vs ++ rest)
unfolding line_text
text-unpadded [] vs rest o h u = u
text-unpadded (e ∷ es) [] rest o h u = u
text-unpadded (e ∷ es) (v ∷ vs) rest o h u =
    rw (append_assoc (digits v) (e ∷ line_text es vs) rest)
    (unpadded-join (digits v) e (line_text es vs ++ rest) o.0 (digits-unpadded v e h.0 o.0) (text-unpadded es vs rest o.1 h.1 u))

-- for the lines of rows,
lines-unpadded : {t xs : List ℕ} → SpellsLines t xs → Unpadded t → row_lines (rows_of xs) ≡ t
unfolding row_lines rows_of rows_from row_count ends
lines-unpadded no_line u = refl
lines-unpadded (line_then_lem {l = l} {t = t} {vs = vs} {xs = xs} s r) u =
    let (p, w) = line_unpadded t ends-other s u in
    row_lines_first vs xs (spelled_many s) ∙ ap₂ ◌++◌ p (lines-unpadded r w)

rows-unpadded : {xs : List ℕ} → Rowed xs → Each Small xs → Unpadded (row_lines (rows_of xs))
unfolding row_lines rows_of rows_from row_count
rows-unpadded none h = λ i z. let w = z.zero in omega arith
rows-unpadded (row vs xs e r) h =
    let (p, q) = each-parts Small vs xs h in
    rw (row_lines_first vs xs e) (text-unpadded ends vs (row_lines (rows_of xs)) ends-other p (rows-unpadded r q))

-- and for a file, whose line of names has no 0.
names-parts : (t : List ℕ) → names ++ t ≡ take 32 names ++ (line_feed ∷ t)
unfolding names
names-parts t = refl

feed_other : Other line_feed
unfolding is_digit if_lt
feed_other = refl

names-unpadded : Unpadded (take 32 names ++ (line_feed ∷ []))
unfolding names
names-unpadded i z = each_at (λ b. b ≢ digit_zero) (take 32 names ++ (line_feed ∷ [])) (λ e. omega arith) no_zero i z.zero
  where
    no_zero : Each (λ b. b ≢ digit_zero) (take 32 names ++ (line_feed ∷ []))
    no_zero = each_append (λ b. b ≢ digit_zero) (take 32 names) (line_feed ∷ []) (omega arith) ((λ e. omega arith), tt)

-- An unpadded file is the one that is written for what it says; the file that is written for what some file says is unpadded; so there is just one.
pub text-is : {f xs : List ℕ} → UnpaddedFile f xs → file_text (rows_of xs) ≡ f
unfolding file_text
text-is {f} {xs} u =
    let s = u.spells in
    let l : List ℕ = s.lines in
    let w : Unpadded (take 32 names ++ (line_feed ∷ l)) = rw (← names-parts l, ← s.text) u.unpadded in
    ap (λ (t : List ℕ). names ++ t) (lines-unpadded s.values (unpadded-behind (take 32 names) line_feed l feed_other w)) ∙ sym s.text

pub text-file_unpadded : {f xs : List ℕ} → SpellsFile f xs → UnpaddedFile (file_text (rows_of xs)) xs
unfolding file_text
text-file_unpadded {f} {xs} s =
    let u = rows-unpadded (spelled_rows s.values) (spelled_values s.values) in
    record {
      spells = written-again s;
      unpadded = rw (names-parts (row_lines (rows_of xs))) (unpadded-join (take 32 names) line_feed _ feed_other names-unpadded u);
    }

pub one-file : {f g xs : List ℕ} → UnpaddedFile f xs → UnpaddedFile g xs → f ≡ g
one-file a b = sym (text-is a) ∙ text-is b

-- So writing what was read from an unpadded file gives the file (of the definitions; of the answers, see `RoundTrips`).
pub write_same : (f xs out : List ℕ) → read_file f ≡ Numbers xs → verdict xs ≡ Accepted → Unpadded f → length f ≤ length out
    → write_asked xs out ≡ answer (length f ∷ []) (overwrite f out)
write_same f xs out e v u h =
    let t = text-is (record { spells = (file-reads f xs).0 e; unpadded = u }) in
    rw t at (write-back f xs out e v h)

-- There are padded files that are read: that of a single opening row is one.
padded_read : read_file padded_file ≡ Numbers (opening 1)
unfolding if_lt if_eq if_true names ends is_digit run after_run decimal is_value value_then ended_by values_of into_first lines_of row_then read_lines same read_all read_file
padded_read = refl

pub padded_file_lem : SpellsFile padded_file (opening 1) × Lawful (opening 1) × (Unpadded padded_file → ⊥)
padded_file_lem = (
  (file-reads padded_file (opening 1)).0 padded_read,
  (accepted-exactly (opening 1)).0 opening-accepted,
  λ u. u 33 (record { zero = refl; begins = λ h d. omega arith; goes_on_is = omega arith }),
)
