-- Which refusal each question about rows gives: first what it comes to for rows that keep the rules, check by check, then what it returns for any.
use Prim.Native.Nat.{ℕ, ◌≤◌, ◌<◌}
use native.Mathlib.Omega.{arith}
use native.Mathlib.Decide.{ℕ_discrete, dec_lt}
use mathlib.Core.Path.{◌≡◌, refl, ◌∙◌, ap}
use mathlib.Core.Logic.{◌⊎◌, inl, inr, ⊎_elim, ◌↔◌}
use mathlib.Core.List.Memᴰ
use mathlib.Core.List.{List, [], ◌∷◌, Memᴰ}
use lib.ListN.{length}
use Rattle.std.specs.Prelude.{Ok, Err}
use Rattle.model.specs.Rules.{is_cue}
use Rattle.model.specs.Blocks.{blocks_of, count}
use Rattle.model.specs.Behind.{Behind, Stands, Missing, behind}
use Rattle.model.specs.Waits.{WaitFile, wait_file}
use Rattle.model.specs.Verdicts.{refusal, verdict, Verdict, Accepted}
use Rattle.model.specs.Answers.{Returned, given, returned, of_write, of_count, of_locate, of_number, of_list, of_row, of_fewest, of_quickest, WriteAnswer, CountAnswer, NumberAnswer, LocateAnswer, ListAnswer, RowAnswer, FewestAnswer, QuickestAnswer}
use Rattle.model.specs.Questions.{Outcome, outcome, refuse, answer, on_accepted, with_room, with_cue, write_into, write_asked, count_asked}
use Rattle.model.specs.Questions.{located, locate_in, locate_asked, numbered, number_asked}
use Rattle.model.specs.Questions.{listed, list_in, out_asked, in_asked, row_found, row_in, row_asked, fewest_in, fewest_asked, quickest_under, quickest_in, quickest_asked}
use Rattle.model.specs.Asking.{AsksWrite, AsksCount, AsksLocate, AsksNumber, AsksOut, AsksIn, AsksRow, AsksFewest, AsksQuickest}
use Rattle.model.specs.declared.Refusal.{Refusal}
use Rattle.basics.proofs.Choices.{lt_then, lt_else, eq_then, eq_else}
use Rattle.shows.proofs.Outcomes.{has_room, no_room, has-cue, no_cue}
use Rattle.demands.specs.Acceptance.{Lawful, ChecksRows}
use Rattle.demands.specs.Files.{NoRoomFor}
use Rattle.demands.specs.Refusals.{TooShort, NoCue, SomeNoCue, Refuses}
use Rattle.demands.proofs.Stages.{numbers}
use Rattle.demands.proofs.Acceptance.{accepted-exactly, refused-is, checks_rows}
use Rattle.demands.proofs.Padding.{text-is}
use Rattle.demands.proofs.Writing.{says}
use Rattle.demands.proofs.Waits.{Outcome as Says, broken, outside, fallen, lawful, wait-file}

-- Whether a cue is one of the show's,
cue-known : (xs : List ℕ) (n : ℕ) → Dec (NoCue xs n)
cue-known xs n = go (ℕ_discrete n 0) (dec_lt (count (blocks_of xs)) n)
  where
    go : Dec (n ≡ 0) → Dec (count (blocks_of xs) < n) → Dec (NoCue xs n)
    go (yes z) d = yes (inl z)
    go (no z) (yes h) = yes (inr h)
    go (no z) (no h) = no (⊎_elim z h)

-- and what follows of a question about it: 12, or what comes next.
module _ (xs : List ℕ) (n : ℕ) (lent : List ℕ) (o : Outcome) where
  lacks_cue : NoCue xs n → with_cue (blocks_of xs) n lent o ≡ refuse (refusal 12 0) lent
  unfolding is_cue
  lacks_cue (inl z) = no_cue _ _ _ _ (lt_then _ _ _ _ (omega arith))
  lacks_cue (inr h) = no_cue _ _ _ _ (lt_else _ _ _ _ (omega arith) ∙ lt_then _ _ _ _ h)

  pub holds_cue : (NoCue xs n → ⊥) → with_cue (blocks_of xs) n lent o ≡ o
  holds_cue k =
      let a : n ≡ 0 → ⊥ = λ z. k (inl z) in
      let b : count (blocks_of xs) < n → ⊥ = λ h. k (inr h) in
      has-cue (blocks_of xs) n lent o (omega arith) (omega arith)

-- Of no cues none is wrong, and one that the show has adds none.
none-wrong : (xs : List ℕ) → SomeNoCue xs [] → ⊥
none-wrong xs (n, i, k) = Memᴰ.not-nil i

fewer_wrong : (xs : List ℕ) (n : ℕ) (cues : List ℕ) → (NoCue xs n → ⊥) → SomeNoCue xs (n ∷ cues) → SomeNoCue xs cues
fewer_wrong xs n cues h (m, i, k) = go (Memᴰ.cases_cons i)
  where
    go : (m ≡ n) ⊎ Memᴰ m cues → SomeNoCue xs cues
    go (inl e) = absurd (h (rw e at k))
    go (inr j) = (m, j, k)

-- What a question comes to for rows that keep the rules: an answer, or the refusal that is due; up to 14 its place is 0.
record Comes (xs : List ℕ) (Short : Type 0) (cues later lent : List ℕ) (o : Outcome) : Type 0 where
  outside : (o.answer.number ≡ 0) ⊎ (10 < o.answer.number)
  no_room : (o.answer.number ≡ 11) ↔ Short
  no_cue : (o.answer.number ≡ 12) ↔ ((Short → ⊥) × SomeNoCue xs cues)
  no_other : 12 < o.answer.number → Memᴰ o.answer.number later
  place : o.answer.number < 15 → o.answer.place ≡ 0
  unchanged : 1 ≤ o.answer.number → o.after ≡ lent

module _ {xs : List ℕ} {Short : Type 0} {cues later lent : List ℕ} where
  answers : (vs after : List ℕ) → (Short → ⊥) → (SomeNoCue xs cues → ⊥) → Comes xs Short cues later lent (answer vs after)
  unfolding answer given
  answers vs after room known =
      record {
        outside = inl refl;
        no_room = (λ n. absurd (omega arith), λ s. absurd (room s));
        no_cue = (λ n. absurd (omega arith), λ (_, w). absurd (known w));
        no_other = λ n. absurd (omega arith);
        place = λ _. refl;
        unchanged = λ n. absurd (omega arith);
      }

  refuses : (n p : ℕ) → (n < 15 → p ≡ 0) → 10 < n → (n ≡ 11) ↔ Short → (n ≡ 12) ↔ ((Short → ⊥) × SomeNoCue xs cues) → (12 < n → Memᴰ n later)
      → Comes xs Short cues later lent (refuse (refusal n p) lent)
  unfolding refuse returned refusal
  refuses n p at h room cue other =
      record { outside = inr h; no_room = room; no_cue = cue; no_other = other; place = at; unchanged = λ _. refl }

  refuses_later : (n p : ℕ) → (n < 15 → p ≡ 0) → 12 < n → Memᴰ n later → (Short → ⊥) → (SomeNoCue xs cues → ⊥)
      → Comes xs Short cues later lent (refuse (refusal n p) lent)
  refuses_later n p at h i room known =
      refuses n p at (omega arith) (λ e. absurd (omega arith), λ s. absurd (room s)) (λ e. absurd (omega arith), λ (_, w). absurd (known w)) (λ _. i)

  refuse-cue : (Short → ⊥) → SomeNoCue xs cues → Comes xs Short cues later lent (refuse (refusal 12 0) lent)
  refuse-cue room wrong =
      refuses 12 0 (λ _. refl) (omega arith) (λ n. absurd (omega arith), λ s. absurd (room s)) (λ _. (room, wrong), λ _. refl) (λ n. absurd (omega arith))

  -- The room comes first,
  with_room_lem : {need : ℕ} {o : Outcome} → Short ↔ (length lent < need) → ((Short → ⊥) → Comes xs Short cues later lent o)
      → Comes xs Short cues later lent (with_room need lent o)
  with_room_lem {need} {o} short c = go (dec_lt (length lent) need)
    where
      go : Dec (length lent < need) → Comes xs Short cues later lent (with_room need lent o)
      go (yes h) =
          let s = short.1 h in
          rw (no_room need lent o h)
          (refuses 11 0 (λ _. refl) (omega arith) (λ _. s, λ _. refl) (λ n. absurd (omega arith), λ (room, _). absurd (room s)) (λ n. absurd (omega arith)))
      go (no h) = rw (has_room need lent o (omega arith)) (c (λ s. h (short.0 s)))

-- then each cue.
with_cue_lem : {xs : List ℕ} {Short : Type 0} {cues later lent : List ℕ} {n : ℕ} {o : Outcome} → (Short → ⊥) → Comes xs Short cues later lent o
    → Comes xs Short (n ∷ cues) later lent (with_cue (blocks_of xs) n lent o)
with_cue_lem {xs} {Short} {cues} {later} {lent} {n} {o} room c = go (cue-known xs n)
  where
    go : Dec (NoCue xs n) → Comes xs Short (n ∷ cues) later lent (with_cue (blocks_of xs) n lent o)
    go (yes k) = rw (lacks_cue xs n lent o k) (refuse-cue room (n, Memᴰ.head refl, k))
    go (no k) =
        rw (holds_cue xs n lent o k)
        (record {
          outside = c.outside;
          no_room = c.no_room;
          no_cue = (
            λ e. let (_, (m, i, w)) = c.no_cue.0 e in (room, (m, Memᴰ.tail i, w)),
            λ (_, w). c.no_cue.1 (room, fewer_wrong xs n cues k w),
          );
          no_other = c.no_other;
          place = c.place;
          unchanged = c.unchanged;
        })

-- Refused rows are not lawful, and their number is at most 10.
not-lawful : (xs : List ℕ) (q : Refusal) → verdict xs ≡ Err q → Lawful xs → ⊥
not-lawful xs q v l = let a = (accepted-exactly xs).1 l in let z : ◌≡◌ {A = ℕ} 0 1 = cc in omega arith

row_number : (xs : List ℕ) (q : Refusal) → verdict xs ≡ Err q → q.number ≤ 10
row_number xs q v = let (c, n, b) = refused-is xs q v in omega (arith, (numbers c).high)

-- What it returns for any rows: their refusal, or what it comes to.
asked : {xs : List ℕ} {Short : Type 0} {cues later lent after : List ℕ} {a : Returned} {o : Outcome}
    → outcome a after ≡ on_accepted (verdict xs) (λ f. refuse f lent) o
    → (verdict xs ≡ Accepted → Comes xs Short cues later lent o) → Refuses xs Short cues later lent a after
unfolding on_accepted refuse returned
asked {xs} {Short} {cues} {later} {lent} {after} {a} {o} e c = go (verdict xs) refl
  where
    answered : (v : Verdict) → (on_accepted v (λ f. refuse f lent) o).answer ≡ on_accepted v (λ f. returned f) o.answer
    answered (Ok _) = refl
    answered (Err q) = refl

    checks : ChecksRows xs a
    checks = checks_rows xs a o.answer (ap (λ (o : Outcome). o.answer) e ∙ answered (verdict xs)) (λ v. (c v).outside)

    go : (v : Verdict) → verdict xs ≡ v → Refuses xs Short cues later lent a after
    go (Ok _) v =
        let l = (accepted-exactly xs).0 v in
        let p : outcome a after ≡ o = rw v at e in
        let k = rw (← p) at (c v) in
        record {
          rows = checks;
          no_room = (λ n. (l, k.no_room.0 n), λ (_, s). k.no_room.1 s);
          no_cue = (λ n. let (room, w) = k.no_cue.0 n in (l, room, w), λ (_, room, w). k.no_cue.1 (room, w));
          no_other = k.no_other;
          place = λ _. k.place;
          unchanged = k.unchanged;
        }
    go (Err q) v =
        let p : outcome a after ≡ refuse q lent = rw v at e in
        let n : a.number ≤ 10 = omega (arith, row_number xs q v, ap (λ (o : Outcome). o.answer.number) p) in
        record {
          rows = checks;
          no_room = (λ m. absurd (omega arith), λ (l, _). absurd (not-lawful xs q v l));
          no_cue = (λ m. absurd (omega arith), λ w. absurd (not-lawful xs q v w.0));
          no_other = λ m. absurd (omega arith);
          place = λ m. absurd (omega arith);
          unchanged = λ _. ap (λ (o : Outcome). o.after) p;
        }

-- A question that writes no lent list returns what one would that writes an empty one.
nothing_lent : (a b : Returned) (v : Verdict) → a ≡ on_accepted v (λ f. returned f) b → outcome a [] ≡ on_accepted v (λ f. refuse f []) (outcome b [])
unfolding on_accepted refuse
nothing_lent a b (Ok _) e = ap (λ (a : Returned). outcome a []) e
nothing_lent a b (Err q) e = ap (λ (a : Returned). outcome a []) e

-- The questions.

pub write-refuses : (xs out after : List ℕ) (r : WriteAnswer) → AsksWrite xs out r after
    → Refuses xs (NoRoomFor xs out) [] [] out (of_write r) after
unfolding write_asked write_into
write-refuses xs out after r e =
    asked e (λ v. with_room_lem (λ s. s _ (says xs v), λ h f u. rw (text-is u) at h) (λ room. answers _ _ room (none-wrong xs)))

pub count-refuses : (xs : List ℕ) (r : CountAnswer) → AsksCount xs r → Refuses xs ⊥ [] [] [] (of_count r) []
unfolding count_asked answer
count-refuses xs r e = asked (nothing_lent _ _ (verdict xs) e) (λ _. answers _ _ (λ s. s) (none-wrong xs))

pub locate-refuses : (xs : List ℕ) (n : ℕ) (lent after : List ℕ) (r : LocateAnswer) → AsksLocate xs n lent r after
    → Refuses xs (TooShort 127 lent) (n ∷ []) [] lent (of_locate r) after
unfolding locate_asked locate_in located
locate-refuses xs n lent after r e = asked e (λ _. with_room_lem (λ h. h, λ h. h) (λ room. with_cue_lem room (answers _ _ room (none-wrong xs))))

-- 13 where there is no such cue.
number-comes : (xs : List ℕ) (n : ℕ) → Dec (n ≡ 0) → Comes xs ⊥ [] (13 ∷ []) [] (outcome (numbered n) [])
unfolding numbered answer refuse
number-comes xs n (yes z) = rw (eq_then _ _ _ _ z) (refuses_later 13 0 (λ _. refl) (omega arith) (Memᴰ.head refl) (λ s. s) (none-wrong xs))
number-comes xs n (no z) = rw (eq_else _ _ _ _ z) (answers _ _ (λ s. s) (none-wrong xs))

pub number-refuses : (xs path : List ℕ) (c : ℕ) (r : NumberAnswer) → AsksNumber xs path c r → Refuses xs ⊥ [] (13 ∷ []) [] (of_number r) []
unfolding number_asked
number-refuses xs path c r e = asked (nothing_lent _ _ (verdict xs) e) (λ _. number-comes xs _ (ℕ_discrete _ 0))

pub out_refuses : (xs : List ℕ) (v n : ℕ) (page after : List ℕ) (r : ListAnswer) → AsksOut xs v n page r after
    → Refuses xs (TooShort 0 page) (v ∷ []) [] page (of_list r) after
unfolding out_asked list_in listed
out_refuses xs v n page after r e = asked e (λ _. with_cue_lem (λ h. omega arith) (answers _ _ (λ h. omega arith) (none-wrong xs)))

pub in_refuses : (xs : List ℕ) (v n : ℕ) (page after : List ℕ) (r : ListAnswer) → AsksIn xs v n page r after
    → Refuses xs (TooShort 0 page) (v ∷ []) [] page (of_list r) after
unfolding in_asked list_in listed
in_refuses xs v n page after r e = asked e (λ _. with_cue_lem (λ h. omega arith) (answers _ _ (λ h. omega arith) (none-wrong xs)))

-- 14 where there is no link.
row-comes : (xs lent : List ℕ) (b : Behind) → (TooShort 127 lent → ⊥) → Comes xs (TooShort 127 lent) [] (14 ∷ []) lent (row_found b lent)
unfolding row_found
row-comes xs lent (Stands o) room = answers _ _ room (none-wrong xs)
row-comes xs lent Missing room = refuses_later 14 0 (λ _. refl) (omega arith) (Memᴰ.head refl) room (none-wrong xs)

pub row-refuses : (xs : List ℕ) (s t : ℕ) (lent after : List ℕ) (r : RowAnswer) → AsksRow xs s t lent r after
    → Refuses xs (TooShort 127 lent) (s ∷ t ∷ []) (14 ∷ []) lent (of_row r) after
unfolding row_asked row_in
row-refuses xs s t lent after r e =
    asked e (λ _. with_room_lem (λ h. h, λ h. h) (λ room. with_cue_lem room (with_cue_lem room (row-comes xs lent (behind xs s t) room))))

pub fewest-refuses : (xs : List ℕ) (s t : ℕ) (work after : List ℕ) (r : FewestAnswer) → AsksFewest xs s t work r after
    → Refuses xs (TooShort 16384 work) (s ∷ t ∷ []) [] work (of_fewest r) after
unfolding fewest_asked fewest_in
fewest-refuses xs s t work after r e =
    asked e (λ _. with_room_lem (λ h. h, λ h. h) (λ room. with_cue_lem room (with_cue_lem room (answers _ _ room (none-wrong xs)))))

-- 15, 16 or 17 where the wait file has a fault.
waits_come : (xs : List ℕ) (s t : ℕ) (f work : List ℕ) (w : WaitFile) → Says f w → (TooShort 16384 work → ⊥)
    → Comes xs (TooShort 16384 work) [] (15 ∷ 16 ∷ 17 ∷ []) work (quickest_under w (blocks_of xs) s t work)
unfolding quickest_under
waits_come xs s t f work w (broken n e b) room =
    rw e (refuses_later 15 n (λ h. omega arith) (omega arith) (Memᴰ.head refl) room (none-wrong xs))
waits_come xs s t f work w (outside n vss e p b) room =
    rw e (refuses_later 16 n (λ h. omega arith) (omega arith) (Memᴰ.tail (Memᴰ.head refl)) room (none-wrong xs))
waits_come xs s t f work w (fallen n vss e p i b) room =
    rw e (refuses_later 17 n (λ h. omega arith) (omega arith) (Memᴰ.tail (Memᴰ.tail (Memᴰ.head refl))) room (none-wrong xs))
waits_come xs s t f work w (lawful vss e l) room = rw e (answers _ _ room (none-wrong xs))

pub quickest-refuses : (xs : List ℕ) (s t : ℕ) (f work after : List ℕ) (r : QuickestAnswer) → AsksQuickest xs s t f work r after
    → Refuses xs (TooShort 16384 work) (s ∷ t ∷ []) (15 ∷ 16 ∷ 17 ∷ []) work (of_quickest r) after
unfolding quickest_asked quickest_in
quickest-refuses xs s t f work after r e =
    asked e
    (λ _. with_room_lem (λ h. h, λ h. h)
    (λ room. with_cue_lem room (with_cue_lem room (waits_come xs s t f work (wait_file f) ((wait-file f (wait_file f)).0 refl) room))))
