-- Laws of the C functions.
use Prim.Native.Nat.{ℕ, ◌+◌, ◌*◌, ◌/◌, ◌%◌, ◌≤◌, ◌<◌, min}
use native.Mathlib.Omega.{arith}
use mathlib.Core.Path.{◌≡◌, refl, sym, ◌∙◌, ap}
use mathlib.Core.Bool.{Bool, true, false}
use mathlib.Core.List.{List, [], ◌∷◌}
use lib.ListN.{length, set}
use mir.Val.{bool_byte}
use Rattle.std.specs.Prelude.{Ok, Err, Some}
use Rattle.model.specs.Verdicts.{refusal, verdict, Numbers, read_file, file_verdict, numbers_of, Verdict, Accepted}
use Rattle.model.specs.Rows.{row_count}
use Rattle.model.specs.Lists.{overwrite}
use Rattle.model.specs.Answers.{Returned, returned, given, of_read, of_count, of_list, flag, halves, of_quickest, CountAnswer, ReadAnswer, ListAnswer, QuickestAnswer}
use Rattle.model.specs.Desk.{with_desk, desk_file_verdict}
use Rattle.model.specs.Questions.{Outcome, outcome, refuse, on_accepted, with_room, read_into, read_asked, desk_read_asked, count_asked}
use Rattle.shows.proofs.DeskTable.{with_length}
use Rattle.model.specs.declared.Refusal.{Refusal}
use Rattle.model.specs.declared.LineRefusal.{LineRefusal}
use Rattle.model.specs.declared.ShowSize.{ShowSize}
use Rattle.model.specs.declared.Listed.{Listed}
use Rattle.basics.proofs.Choices.{lt_then, lt_else}
use Rattle.shows.proofs.Accepted.{accepted-show}
use Rattle.shows.proofs.RoundTrips.{accepted-file}
use Rattle.show_c.specs.Interface.{code, IsRefused, given_after, with_given, short_of, Told, Wrote}

-- A refusal as one number, which is its code: its place is a number of 32 bits.
abbrev pub number : Refusal → ℕ
number f = f.number * 4294967296 + f.place

abbrev Narrow : Refusal → Type 0
Narrow f = f.place < 4294967296

number-code : (f : Refusal) → Narrow f → number f ≡ code (returned f)
unfolding code returned
number-code f h = omega arith

-- Values are no refusal.
no_values : (n : ℕ) (ns : List ℕ) (f : Refusal) → given (n ∷ ns) ≡ returned f → ⊥
unfolding given returned
no_values n ns f e = let q : length (n ∷ ns) ≡ 0 = ap (λ (r : Returned). length r.values) e in omega arith

-- What is said of rows where `given` is too short, from what their count would be.
short-value : (v : Verdict) (n : ℕ) (ns ws : List ℕ) → given (n ∷ ns) ≡ on_accepted v (λ f. returned f) (given ws) → 47244640256 ≡ short_of v
unfolding short_of on_accepted code returned refusal
short-value (Ok _) n ns ws e = refl
short-value (Err f) n ns ws e = absurd (no_values n ns f e)

short-refused : (v : Verdict) (f : Refusal) (w : ℕ) (ws : List ℕ) → Narrow f → returned f ≡ on_accepted v (λ f. returned f) (given (w ∷ ws))
    → number f ≡ short_of v
unfolding short_of on_accepted
short-refused (Ok _) f w ws h e = absurd (no_values w ws f (sym e))
short-refused (Err g) f w ws h e = number-code f h ∙ ap code e

pub count-short : (xs : List ℕ) (a : CountAnswer) (n : ℕ) → of_count a ≡ count_asked xs → a ≡ Ok n → 47244640256 ≡ short_of (verdict xs)
unfolding of_count count_asked
count-short xs a n e q = short-value (verdict xs) n [] _ (rw q at e)

pub no_count_short : (xs : List ℕ) (a : CountAnswer) (f : Refusal) (c : ℕ) → of_count a ≡ count_asked xs → a ≡ Err f → c ≡ number f → Narrow f
    → c ≡ short_of (verdict xs)
unfolding of_count count_asked
no_count_short xs a f c e q h k = h ∙ short-refused (verdict xs) f _ [] k (rw q at e)

-- A Bool as a number is its flag.
flag-byte : (b : Bool) → bool_byte b ≡ flag b
unfolding flag
flag-byte true = refl
flag-byte false = refl

-- What is told of an answer a that is b, read by `of`: of values, and of a refusal.
module _ {A : Type 0} (of : A → Returned) (a b : A) (c : ℕ) (g g' : List ℕ) where
  pub told-value : (vs : List ℕ) → (c ≡ 0) × (g' ≡ overwrite vs g) → of b ≡ given vs → a ≡ b → Told c g g' (of a)
  unfolding code given_after given
  told-value vs q e i = rw (i, e, q.0) (refl, q.1)

  pub told-refused : (f : Refusal) → g' ≡ g → c ≡ number f → Narrow f → of b ≡ returned f → a ≡ b → Told c g g' (of a)
  unfolding given_after returned overwrite
  told-refused f u q h e i = rw (i, e, u) (q ∙ number-code f h, refl)

-- The flag of a page is a number of its own.
pub told-page : (a : ListAnswer) (l : Listed) (m c : ℕ) (g g' : List ℕ) → m ≡ bool_byte l.more → (c ≡ 0) × (g' ≡ overwrite (l.written ∷ m ∷ []) g)
    → a ≡ Ok l → Told c g g' (of_list a)
unfolding of_list
told-page a l m c g g' k p q = told-value of_list a (Ok l) c g g' (l.written ∷ m ∷ []) p (rw (k, flag-byte l.more)) q

-- The halves of a sum are numbers of their own, and a refusal may have a place of more than 32 bits.
pub told-tenths : (a : QuickestAnswer) (n x y c : ℕ) (g g' : List ℕ) → (c ≡ 0) × (g' ≡ overwrite (1 ∷ x ∷ y ∷ []) g) → a ≡ Ok (Some n)
    → x ≡ n % 4294967296 → y ≡ n / 4294967296 → Told c g g' (of_quickest a)
unfolding of_quickest halves
told-tenths a n x y c g g' p q k l = told-value of_quickest a (Ok (Some n)) c g g' (1 ∷ x ∷ y ∷ []) p (rw (k, l)) q

pub told-placed : (a : QuickestAnswer) (r : LineRefusal) (c : ℕ) (g g' : List ℕ) → g' ≡ g → c ≡ r.number * 4294967296 + min r.place 4294967295 → a ≡ Err r
    → Told c g g' (of_quickest a)
unfolding of_quickest code given_after returned refusal overwrite
told-placed a r c g g' u q i = rw (i, u) (q, refl)

-- Whether `given` is long enough, for a question that writes no list, and for one that does.
module _ (g : List ℕ) (v : Verdict) where
  is-short : {A : Type 0} (refuse : Refusal → A) (a : A) → length g < 3 → with_given g v refuse a ≡ on_accepted v refuse (refuse (refusal 11 0))
  unfolding with_given
  is-short refuse a h = lt_then _ _ _ _ h

  is-long : {A : Type 0} (refuse : Refusal → A) (a : A) → 3 ≤ length g → with_given g v refuse a ≡ a
  unfolding with_given
  is-long refuse a h = lt_else _ _ _ _ h

  no_answer : (w : Verdict) → given_after (on_accepted w (λ f. returned f) (returned (refusal 11 0))) g ≡ g
  unfolding given_after on_accepted returned overwrite
  no_answer (Ok _) = refl
  no_answer (Err f) = refl

  told-short : (c : ℕ) → c ≡ short_of v → Told c g g (on_accepted v (λ f. returned f) (returned (refusal 11 0)))
  unfolding short_of
  told-short c e = (e, sym (no_answer v))

  pub tell_short : (r : Returned) (c : ℕ) → length g < 3 → c ≡ short_of v → Told c g g (with_given g v (λ f. returned f) r)
  tell_short r c h e = rw (is-short (λ f. returned f) r h) (told-short c e)

  pub tell : (r r' : Returned) (c : ℕ) (g' : List ℕ) → 3 ≤ length g → r' ≡ r → Told c g g' r' → Told c g g' (with_given g v (λ f. returned f) r)
  tell r r' c g' h e t = rw (is-long (λ f. returned f) r h, ← e) t

  refused-also : (lent : List ℕ) (w : Verdict)
      → on_accepted w (λ f. refuse f lent) (refuse (refusal 11 0) lent) ≡ outcome (on_accepted w (λ f. returned f) (returned (refusal 11 0))) lent
  unfolding on_accepted refuse
  refused-also lent (Ok _) = refl
  refused-also lent (Err f) = refl

  pub wrote_short : (lent : List ℕ) (o : Outcome) (c : ℕ) → length g < 3 → c ≡ short_of v → Wrote c g g lent (with_given g v (λ f. refuse f lent) o)
  wrote_short lent o c h e = rw (is-short (λ f. refuse f lent) o h, refused-also lent v) (told-short c e, refl)

  pub wrote : (lent : List ℕ) (o : Outcome) (r : Returned) (c : ℕ) (g' after : List ℕ) → 3 ≤ length g → outcome r after ≡ o → Told c g g' r
      → Wrote c g g' after (with_given g v (λ f. refuse f lent) o)
  wrote lent o r c g' after h e t = rw (is-long (λ f. refuse f lent) o h, ← e) (t, refl)

-- Reading: a list of one number has no room for a row.
one-short : (f : List ℕ) (xs : List ℕ) → file_verdict f ≡ Accepted → read_file f ≡ Numbers xs → 1 < length xs
unfolding row_count
one-short f xs v e =
    let (ys, q, w) = accepted-file f v in
    let same : xs ≡ ys = cc (sym e ∙ q) in
    let s = accepted-show ys w in
    rw same (omega (arith, s.rows.0))

none_read : (f : List ℕ) (x : ℕ) (v : Verdict) → file_verdict f ≡ v → (read_asked f (x ∷ [])).answer ≡ on_accepted v (λ r. returned r) (returned (refusal 11 0))
unfolding read_asked on_accepted read_into with_room refuse numbers_of
none_read f x (Ok _) e =
    let (ys, q, w) = accepted-file f e in
    rw (e, q, lt_then (length (x ∷ [])) (length ys) _ _ (one-short f ys e q))
none_read f x (Err r) e = rw e

none-read_desk : (f : List ℕ) (x : ℕ) (v : Verdict) → desk_file_verdict f ≡ v
    → (desk_read_asked f (x ∷ [])).answer ≡ on_accepted v (λ r. returned r) (returned (refusal 11 0))
unfolding desk_read_asked on_accepted read_into with_room refuse
none-read_desk f x (Ok _) e =
    let ys : List ℕ = numbers_of (read_file f) in
    rw (e, lt_then (length (x ∷ [])) (length (with_desk ys)) _ _ (omega (arith, with_length ys)))
none-read_desk f x (Err r) e = rw e

-- What is said of a file there.
abbrev NoneRead : ReadAnswer → Verdict → Type 0
NoneRead a v = of_read a ≡ on_accepted v (λ r. returned r) (returned (refusal 11 0))

module _ (f : List ℕ) (x : ℕ) (a : ReadAnswer) (after : List ℕ) where
  pub not-read_first : outcome (of_read a) after ≡ read_asked f (x ∷ []) → NoneRead a (file_verdict f)
  not-read_first e = ap (λ (o : Outcome). o.answer) e ∙ none_read f x (file_verdict f) refl

  pub not-read_second : outcome (of_read a) after ≡ desk_read_asked f (x ∷ []) → NoneRead a (desk_file_verdict f)
  not-read_second e = ap (λ (o : Outcome). o.answer) e ∙ none-read_desk f x (desk_file_verdict f) refl

pub not-read_refused : (a : ReadAnswer) (v : Verdict) → NoneRead a v → IsRefused (of_read a)
unfolding on_accepted
not-read_refused a (Ok _) e = record { told = refusal 11 0; said = e }
not-read_refused a (Err r) e = record { told = r; said = e }

pub not-read_code : (a : ReadAnswer) (v : Verdict) (c : ℕ) → NoneRead a v → c ≡ code (of_read a) → c ≡ short_of v
unfolding short_of
not-read_code a v c e h = h ∙ ap code e

-- An answer is no refusal; and the number of a refusal.
pub never_answered : (a : ReadAnswer) (z : ShowSize) (c : ℕ) → IsRefused (of_read a) → a ≡ Ok z → c ≡ code (of_read a)
unfolding of_read
never_answered a z c s q = absurd (no_values z.rows (z.blocks ∷ z.cues ∷ []) s.told (rw q at s.said))

pub not-read_is : (a : ReadAnswer) (r : Refusal) (c : ℕ) → a ≡ Err r → c ≡ number r → Narrow r → c ≡ code (of_read a)
unfolding of_read
not-read_is a r c q h k = rw q (h ∙ number-code r k)
