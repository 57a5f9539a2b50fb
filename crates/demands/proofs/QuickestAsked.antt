-- What is demanded of the quickest question's answer: each refusal of the wait file exactly where it is due, else the smallest sum of waits, and the work
-- area at 0.
use Prim.Native.Nat.{ℕ, ◌≤◌, ◌<◌}
use native.Mathlib.Omega.{arith}
use native.Mathlib.Decide.{dec_lt}
use mathlib.Core.Path.{◌≡◌, refl, sym, ◌∙◌, ap}
use mathlib.Core.Logic.{◌⊎◌, inl, inr, ⊎_elim, ◌↔◌}
use mathlib.Core.List.{List, [], ◌∷◌, Memᴰ}
use lib.ListN.{length, get_or, replicate, length-replicate, get_or-replicate}
use Rattle.std.specs.Prelude.{Ok, Err, Some, None}
use Rattle.model.specs.Blocks.{blocks_of, count}
use Rattle.model.specs.Unfolding.{show_links}
use Rattle.model.specs.Chains.{Distance, Far, Unreachable}
use Rattle.model.specs.Verdicts.{refusal, verdict}
use Rattle.model.specs.Lists.{overwrite}
use Rattle.model.specs.Waits.{WaitFile, WaitTable, Unfit, wait_file}
use Rattle.model.specs.Quickest.{quickest}
use Rattle.model.specs.Answers.{Returned, given, returned, of_quickest, QuickestAnswer, line_refusal}
use Rattle.model.specs.Questions.{Outcome, outcome, answer, refuse, cleared, quickest_under, quickest_in, quickest_asked}
use Rattle.model.specs.Asking.{AsksQuickest}
use Rattle.shows.proofs.Waits.{waits_fit}
use Rattle.shows.proofs.Outcomes.{on-yes, has_room}
use Rattle.demands.specs.Acceptance.{Lawful}
use Rattle.demands.specs.Refusals.{TooShort, NoCue, Refuses}
use Rattle.demands.specs.Waits.{Spells, LawfulWaits}
use Rattle.demands.specs.Quickest.{Askable, IsQuickest, IsCleared, QuickestExact}
use Rattle.demands.proofs.Acceptance.{accepted-exactly}
use Rattle.demands.proofs.Buffers.{leaves, over_first, over-beyond}
use Rattle.demands.proofs.Refusals.{holds_cue, quickest-refuses}
use Rattle.demands.proofs.WaitFiles.{reads_waits}
use Rattle.demands.proofs.Sums.{Agree}
use Rattle.demands.proofs.Quickest.{answer_of, same_answer, refused-alike, is-quickest}

-- A work area whose first n numbers are 0.
module _ (n : ℕ) (work : List ℕ) (room : n ≤ length work) where
  long : length (replicate {A = ℕ} n 0) ≡ n
  long = length-replicate {A = ℕ} n 0

  zeros : (p : ℕ) → p < n → get_or (overwrite (replicate n 0) work) p 1 ≡ 0
  zeros p h = over_first (replicate n 0) work p 1 (omega (arith, long)) ∙ get_or-replicate n p 0 1 h

  beyond : (p : ℕ) → n ≤ p → get_or (overwrite (replicate n 0) work) p 0 ≡ get_or work p 0
  beyond p h = over-beyond (replicate n 0) work p 0 (omega (arith, long))

  size : length (overwrite (replicate n 0) work) ≡ length work
  size = (leaves (replicate n 0) work (omega (arith, long))).size

is-cleared : (work : List ℕ) → 16384 ≤ length work → IsCleared work (cleared work)
unfolding cleared
is-cleared work room = record { first = zeros 16384 work room; beyond = beyond 16384 work room; size = size 16384 work room }

module _ (xs : List ℕ) (s t : ℕ) (f work after : List ℕ) (r : QuickestAnswer) (e : AsksQuickest xs s t f work r after) where
  -- What meets none of 4 to 12 comes to the wait file,
  said : Askable xs s t work → outcome (of_quickest r) after ≡ quickest_under (wait_file f) (blocks_of xs) s t work
  unfolding quickest_asked quickest_in
  said a =
      e ∙ on-yes (verdict xs) _ _ ((accepted-exactly xs).1 a.lawful) ∙ has_room 16384 work _ a.room ∙ holds_cue xs s work _ a.start
      ∙ holds_cue xs t work _ a.end

  -- and what is answered, or refused for the wait file, has met none of them.
  askable : ((of_quickest r).number ≡ 0) ⊎ (12 < (of_quickest r).number) → Askable xs s t work
  askable h =
      record {
        lawful = l;
        room = room;
        start = λ k. wrong s (Memᴰ.head refl) k;
        end = λ k. wrong t (Memᴰ.tail (Memᴰ.head refl)) k;
      }
    where
      ref : Refuses xs (TooShort 16384 work) (s ∷ t ∷ []) (15 ∷ 16 ∷ 17 ∷ []) work (of_quickest r) after
      ref = quickest-refuses xs s t f work after r e

      not : (n : ℕ) → 1 ≤ n → n ≤ 12 → (of_quickest r).number ≡ n → ⊥
      not n low high q = ⊎_elim (λ z. omega arith) (λ z. omega arith) h

      l : Lawful xs
      l = ref.rows.accepted.0 (⊎_elim (λ z. inl z) (λ z. inr (omega arith)) h)

      room : 16384 ≤ length work
      room = go (dec_lt (length work) 16384)
        where
          go : Dec (length work < 16384) → 16384 ≤ length work
          go (yes k) = absurd (not 11 (omega arith) (omega arith) (ref.no_room.1 (l, k)))
          go (no k) = omega arith

      wrong : (n : ℕ) → Memᴰ n (s ∷ t ∷ []) → NoCue xs n → ⊥
      wrong n i k = not 12 (omega arith) (omega arith) (ref.no_cue.1 (l, (λ k. omega (arith, room)), (n, i, k)))

  -- A refusal of the file is the answer, and an answer has a lawful file.
  unfit : Askable xs s t work → (n p : ℕ) → wait_file f ≡ Unfit n p → r ≡ Err (line_refusal n p)
  unfolding quickest_under refuse
  unfit a n p w = refused-alike r n p (ap (λ (o : Outcome). o.answer) (rw w at (said a)))

  under : Askable xs s t work → (waits : List ℕ) → wait_file f ≡ WaitTable waits
      → (r ≡ answer_of (quickest waits (show_links (blocks_of xs)) (count (blocks_of xs)) s t)) × (after ≡ cleared work)
  unfolding quickest_under answer
  under a waits w =
      let o = rw w at (said a) in
      (same_answer r _ (ap (λ (o : Outcome). o.answer) o), ap (λ (o : Outcome). o.after) o)

  -- The number of a refusal is that of what is returned.
  number_is : (n p : ℕ) → r ≡ Err (line_refusal n p) → (of_quickest r).number ≡ n
  unfolding of_quickest returned refusal
  number_is n p q = rw q

  answered-is : ((n : ℕ) × (r ≡ Ok (Some n))) ⊎ (r ≡ Ok None) → (of_quickest r).number ≡ 0
  unfolding of_quickest given
  answered-is (inl (n, q)) = rw q
  answered-is (inr q) = rw q

  -- A refusal from 15 on is what the file says, and so is an answer.
  file-unfit : (n p : ℕ) → 12 < n → r ≡ Err (line_refusal n p) → Askable xs s t work × (wait_file f ≡ Unfit n p)
  unfolding answer_of of_quickest returned refusal
  file-unfit n p h q = go (wait_file f) refl
    where
      a : Askable xs s t work
      a = askable (inr (omega (arith, number_is n p q)))

      go : (w : WaitFile) → wait_file f ≡ w → Askable xs s t work × (wait_file f ≡ Unfit n p)
      go (Unfit m l) w = (a, w ∙ same m l n p (unfit a m l w) q)
        where
          same : (m l n p : ℕ) → r ≡ Err (line_refusal m l) → r ≡ Err (line_refusal n p) → Unfit m l ≡ Unfit n p
          same m l n p e d =
              let k = ap of_quickest (sym e ∙ d) in
              let x : m ≡ n = ap (λ (x : Returned). x.number) k in
              let y : l ≡ p = ap (λ (x : Returned). x.place) k in
              cc
      go (WaitTable ws) w = absurd (none (quickest ws (show_links (blocks_of xs)) (count (blocks_of xs)) s t) (sym (under a ws w).0 ∙ q))
        where
          none : (d : Distance) → answer_of d ≡ Err (line_refusal n p) → ⊥
          none (Far m) e = let z : ◌≡◌ {A = ℕ} 0 1 = cc in omega arith
          none Unreachable e = let z : ◌≡◌ {A = ℕ} 0 1 = cc in omega arith

  file-fit : ((n : ℕ) × (r ≡ Ok (Some n))) ⊎ (r ≡ Ok None) → Askable xs s t work × ((ws : List ℕ) × (wait_file f ≡ WaitTable ws))
  file-fit q = go (wait_file f) refl
    where
      a : Askable xs s t work
      a = askable (inl (answered-is q))

      go : (w : WaitFile) → wait_file f ≡ w → Askable xs s t work × ((ws : List ℕ) × (wait_file f ≡ WaitTable ws))
      go (WaitTable ws) w = (a, (ws, w))
      go (Unfit m l) w = absurd (refused q)
        where
          refused : ((n : ℕ) × (r ≡ Ok (Some n))) ⊎ (r ≡ Ok None) → ⊥
          refused (inl (n, p)) = let no = unfit a m l w in let z : ◌≡◌ {A = ℕ} 0 1 = cc in omega arith
          refused (inr p) = let no = unfit a m l w in let z : ◌≡◌ {A = ℕ} 0 1 = cc in omega arith

-- The lines of a lawful file, and the table that they make.
agree : (f ws : List ℕ) (vss : List (List ℕ)) → wait_file f ≡ WaitTable ws → Spells f vss → Agree vss ws
agree f ws vss w p =
    let waits = (reads_waits f).waits ws vss w p in
    record {
      only = λ label wait low high. (waits label wait low high).0;
      has = λ label low high. (waits label _ low high).1 refl;
    }

either : (d : Distance) (r : QuickestAnswer) → r ≡ answer_of d → ((n : ℕ) × (r ≡ Ok (Some n))) ⊎ (r ≡ Ok None)
unfolding answer_of
either (Far n) r q = inl (n, q)
either Unreachable r q = inr q

-- A cue of the show is one of 1 to the count.
cue-bounds : (xs : List ℕ) (n : ℕ) → (NoCue xs n → ⊥) → (1 ≤ n) × (n ≤ count (blocks_of xs))
cue-bounds xs n k = let a : n ≡ 0 → ⊥ = λ z. k (inl z) in let b : count (blocks_of xs) < n → ⊥ = λ h. k (inr h) in (omega arith, omega arith)

-- All that is demanded of an answer.
module _ (xs : List ℕ) (s t : ℕ) (f work after : List ℕ) (r : QuickestAnswer) (e : AsksQuickest xs s t f work r after) where
  abbrev Asked : Type 0
  Asked = Askable xs s t work

  -- A refusal of the wait file, from what is said of the file.
  refuses_file : (n p : ℕ) → 12 < n → {P : Type 0} → (wait_file f ≡ Unfit n p) ↔ P → (r ≡ Err (line_refusal n p)) ↔ (Asked × P)
  refuses_file n p h says = (
    λ q. let (a, w) = file-unfit xs s t f work after r e n p h q in (a, says.0 w),
    λ (a, b). unfit xs s t f work after r e a n p (says.1 b),
  )

  -- What is answered under a lawful file.
  answers : Asked → (vss : List (List ℕ)) → LawfulWaits f vss → IsQuickest xs vss (show_links (blocks_of xs)) s t r × IsCleared work after
  answers a vss l =
      let (ws, w) = (reads_waits f).accepted.1 (vss, l) in
      let (low, high) = cue-bounds xs s a.start in
      let (low', high') = cue-bounds xs t a.end in
      let (q, c) = under xs s t f work after r e a ws w in (
        is-quickest xs ((accepted-exactly xs).1 a.lawful) s t low high low' high' vss ws (agree f ws vss w l.spells) (waits_fit f ws w) r q,
        rw c (is-cleared work a.room),
      )

  pub quickest-exact : QuickestExact xs s t f work r after
  quickest-exact =
      record {
        malformed = λ n. refuses_file 15 n (omega arith) ((reads_waits f).malformed n);
        out_of_range = λ n. refuses_file 16 n (omega arith) ((reads_waits f).out_of_range n);
        not-above = λ n. refuses_file 17 n (omega arith) ((reads_waits f).not-above n);
        answered = (
          λ q. let (a, w) = file-fit xs s t f work after r e q in (a, (reads_waits f).accepted.0 w),
          λ (a, l). let (ws, w) = (reads_waits f).accepted.1 l in either _ r (under xs s t f work after r e a ws w).0,
        );
        quickest = λ a vss l. (answers a vss l).0;
        leaves = λ a vss l. (answers a vss l).1;
      }
