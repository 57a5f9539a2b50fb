-- The laws: rows are accepted exactly if they keep every sentence, and refused exactly by the first that is broken.
use Prim.Native.Nat.{ℕ, ◌<◌}
use native.Mathlib.Omega.{arith}
use mathlib.Core.Path.{◌≡◌, refl, sym, ◌∙◌, ap}
use mathlib.Core.Logic.{◌⊎◌, inl, inr, ◌↔◌}
use mathlib.Core.List.{List, []}
use Rattle.std.specs.Prelude.{Ok, Err}
use Rattle.model.specs.Verdicts.{refusal, refused, verdict, Verdict, Accepted}
use Rattle.model.specs.Answers.{Returned, returned}
use Rattle.model.specs.Questions.{on_accepted}
use Rattle.model.specs.declared.Refusal.{Refusal}
use Rattle.demands.specs.Acceptance.{
  Lawful,
  Check,
  Length,
  Sequence,
  Ranges,
  Repeats,
  Order,
  Ends,
  Totals,
  refusal_number,
  turn,
  Earlier,
  FirstBroken,
  ChecksRows,
}
use Rattle.shows.proofs.Accepted.{not-accepted}
use Rattle.demands.proofs.Stages.{numbers, same_check}
use Rattle.demands.proofs.Together.{Kept, VerdictSays, lawful, unlawful, verdict-says}

-- The sentences of all rows are those of all checks.
all-kept : (xs : List ℕ) → Lawful xs → Kept xs
all-kept xs l Length p i = (l.whole, l.rows.0, l.rows.1)
all-kept xs l Sequence p i = (l.sequence p i, l.blocks p i)
all-kept xs l Ranges p i = (l.openings p i, l.links p i, l.uses p i)
all-kept xs l Repeats p i = (l.link-cues p i, l.use_cues p i)
all-kept xs l Order p i = (l.links-rise p i, l.uses-never_fall p i)
all-kept xs l Ends p i = (l.last_block_is p i.0 i.1, l.other_blocks p i.0 i.1)
all-kept xs l Totals p i = l.totals p i.0 i.1

-- And back.
all-lawful : (xs : List ℕ) → Kept xs → Lawful xs
all-lawful xs k =
    record {
      whole = (k Length 0 refl).0;
      rows = ((k Length 0 refl).1, (k Length 0 refl).2);
      sequence = λ r i. (k Sequence r i).0;
      blocks = λ r i. (k Sequence r i).1;
      openings = λ r i. (k Ranges r i).0;
      links = λ r i. (k Ranges r i).1;
      uses = λ r i. (k Ranges r i).2;
      link-cues = λ r i. (k Repeats r i).0;
      use_cues = λ r i. (k Repeats r i).1;
      links-rise = λ r i. (k Order r i).0;
      uses-never_fall = λ r i. (k Order r i).1;
      last_block_is = λ r i o. (k Ends r (i, o)).0;
      other_blocks = λ r i o. (k Ends r (i, o)).1;
      totals = λ r i o. k Totals r (i, o);
    }

-- What is broken is not kept,
not-both : (xs : List ℕ) (c : Check) (p : ℕ) → FirstBroken xs c p → Kept xs → ⊥
not-both xs c p f k = f.broken (k c p f.looks)

-- and only one check is broken first, at one place.
module _ (xs : List ℕ) where
  not-sooner : (c d : Check) (p q : ℕ) → FirstBroken xs c p → FirstBroken xs d q → Earlier c p d q → ⊥
  not-sooner c d p q f g e = f.broken (g.before c p f.looks e)

  only-first : (c d : Check) (p q : ℕ) → FirstBroken xs c p → FirstBroken xs d q → (refusal_number c ≡ refusal_number d) × (p ≡ q)
  only-first c d p q f g =
      let a : turn c < turn d → ⊥ = λ l. not-sooner c d p q f g (inl l) in
      let b : turn d < turn c → ⊥ = λ l. not-sooner d c q p g f (inl l) in
      let t : turn c ≡ turn d = omega arith in
      let a : p < q → ⊥ = λ l. not-sooner c d p q f g (inr (t, inl l)) in
      let b : q < p → ⊥ = λ l. not-sooner d c q p g f (inr (sym t, inl l)) in
      let e : p ≡ q = omega arith in
      let a : refusal_number c < refusal_number d → ⊥ = λ l. not-sooner c d p q f g (inr (t, inr (e, l))) in
      let b : refusal_number d < refusal_number c → ⊥ = λ l. not-sooner d c q p g f (inr (sym t, inr (sym e, l))) in
      (omega arith, e)

-- The number and the place of a refusal.
number_in : Verdict → ℕ
number_in (Ok _) = 0
number_in (Err r) = r.number

place_in : Verdict → ℕ
place_in (Ok _) = 0
place_in (Err r) = r.place

-- Rows are accepted exactly if they are lawful.
pub accepted-exactly : (xs : List ℕ) → (verdict xs ≡ Accepted) ↔ Lawful xs
accepted-exactly xs = go (verdict-says xs)
  where
    go : VerdictSays xs (verdict xs) → (verdict xs ≡ Accepted) ↔ Lawful xs
    go (lawful e k) = (λ _. all-lawful xs k, λ _. e)
    go (unlawful c p e f) = (λ h. absurd (not-accepted _ p (sym e ∙ h)), λ l. absurd (not-both xs c p f (all-kept xs l)))

-- A refusal has the number of a check and its place, and that is broken first there.
pub refused-is : (xs : List ℕ) (r : Refusal) → verdict xs ≡ Err r → (c : Check) × (r.number ≡ refusal_number c) × FirstBroken xs c r.place
unfolding refused refusal number_in place_in
refused-is xs r h = go (verdict-says xs)
  where
    go : VerdictSays xs (verdict xs) → (c : Check) × (r.number ≡ refusal_number c) × FirstBroken xs c r.place
    go (lawful e k) = absurd (not-accepted r.number r.place (sym h ∙ e))
    go (unlawful c p e f) =
        let z : Err r ≡ refused (refusal_number c) p = sym h ∙ e in
        (c, ap number_in z, rw (ap place_in z) f)

-- Rows are refused by a check at a place exactly if it is broken there first.
pub refused-exactly : (xs : List ℕ) (c : Check) (p : ℕ) → (verdict xs ≡ refused (refusal_number c) p) ↔ FirstBroken xs c p
unfolding refused refusal
refused-exactly xs c p = (λ h. to (refused-is xs _ h), λ f. from f (verdict-says xs))
  where
    to : (d : Check) × (refusal_number c ≡ refusal_number d) × FirstBroken xs d p → FirstBroken xs c p
    to (d, e, f) = rw (same_check c d e) f

    from : FirstBroken xs c p → VerdictSays xs (verdict xs) → verdict xs ≡ refused (refusal_number c) p
    from f (lawful e k) = absurd (not-both xs c p f k)
    from f (unlawful d q e g) = let (n, z) = only-first xs c d p q f g in rw (n, z) e

-- A number outside 4 to 10 is that of no check.
no_check : (c : Check) (n : ℕ) → (n ≡ 0) ⊎ (10 < n) → n ≡ refusal_number c → ⊥
no_check c n (inl l) e = omega (arith, (numbers c).low)
no_check c n (inr l) e = omega (arith, (numbers c).high)

-- What a question returns says so.
pub checks_rows : (xs : List ℕ) (a b : Returned) → a ≡ on_accepted (verdict xs) (λ r. returned r) b
    → (verdict xs ≡ Accepted → (b.number ≡ 0) ⊎ (10 < b.number)) → ChecksRows xs a
unfolding on_accepted returned refused refusal
checks_rows xs a b h o = go (verdict-says xs)
  where
    go : VerdictSays xs (verdict xs) → ChecksRows xs a
    go (lawful e k) =
        let z : a ≡ b = rw e at h in
        record {
          refused = λ c p. (λ n. absurd (no_check c b.number (o e) (rw z at n.0)), λ f. absurd (not-both xs c p f k));
          accepted = (λ _. all-lawful xs k, λ _. rw z (o e));
        }
    go (unlawful d q e f) =
        let z : a ≡ record { number = refusal_number d; place = q; values = [] } = rw e at h in
        let n : a.number ≡ refusal_number d = ap (λ (r : Returned). r.number) z in
        let m : a.place ≡ q = ap (λ (r : Returned). r.place) z in
        record {
          refused = λ c p. (
            λ t. rw (same_check c d (sym t.0 ∙ n), sym t.1 ∙ m) f,
            λ g. let (u, v) = only-first xs c d p q g f in (n ∙ sym u, m ∙ sym v),
          );
          accepted = (λ l. absurd (no_check d a.number l n), λ l. absurd (not-both xs d q f (all-kept xs l)));
        }
