-- Laws of the linked cues that joins meet.
use Prim.Native.Nat.{ℕ, suc, ◌+◌, ◌-◌, ◌≤◌, ◌<◌}
use native.Mathlib.Omega.{arith}
use native.Mathlib.Decide.{ℕ_discrete, dec_lt}
use mathlib.Core.Path.{◌≡◌, refl, sym, ◌∙◌, ap}
use mathlib.Core.List.{List, [], ◌∷◌, ◌++◌, append-nil, append_assoc}
use lib.ListN.{length, get_or, take}
use lib.Seq.{length-take-le, get_or-take}
use Rattle.std.specs.Prelude.{min, None, Some as Just}
use Rattle.std.specs.declared.option.Option.{Option}
use Rattle.std.proofs.lemmas.Option.{none-some, same_Some}
use Rattle.model.specs.Blocks.{Link}
use Rattle.basics.proofs.Choices.{lt_then, lt_else, eq_then, eq_else}
use Rattle.neighbours.specs.declared.Ask.{Ask}
use Rattle.neighbours.specs.Picks.{wanted}
use Rattle.lists.specs.Pages.{Gives}
use Rattle.lists.specs.Joins.{least, lesser, Met, Next, MeetsJust, Some, JoinsGoing, JoinsDone}
use Rattle.neighbours.proofs.Picked.{wanted-append, wanted-nil, wanted-none, wanted-low, wanted-yes}
use Rattle.lists.proofs.Filled.{gives_nil, gives-append}

-- The lesser of two cues, by cases.
module _ (flag y last : ℕ) (x : Option ℕ) where
  pub lesser_some : (a z : ℕ) (r : Option ℕ) → flag ≡ 1 → last < y → x ≡ Just a → z ≡ min a y → r ≡ Just z → r ≡ lesser flag y last x
  unfolding lesser least
  lesser_some a z r f l e i k = k ∙ ap Just i ∙ sym (eq_then flag 1 _ _ f ∙ lt_then last y _ _ l ∙ ap (λ v. Just (least y v)) e)

  pub lesser_first : (r : Option ℕ) → flag ≡ 1 → last < y → x ≡ None → r ≡ Just y → r ≡ lesser flag y last x
  unfolding lesser least
  lesser_first r f l e k = k ∙ sym (eq_then flag 1 _ _ f ∙ lt_then last y _ _ l ∙ ap (λ v. Just (least y v)) e)

  pub lesser_low : flag ≡ 1 → y ≤ last → x ≡ lesser flag y last x
  unfolding lesser
  lesser_low f l = sym (eq_then flag 1 _ _ f ∙ lt_else last y _ _ l)

  pub lesser_unmarked : (flag ≡ 1 → ⊥) → x ≡ lesser flag y last x
  unfolding lesser
  lesser_unmarked f = sym (eq_else flag 1 _ _ f)

-- The least cue that a marked join meets.
module _ (s : List ℕ) (met : List ℕ) (last : ℕ) where
  pub next-begin : Next s 0 met last None
  next-begin =
      record {
        none = λ e u m. absurd (omega (arith, m.within));
        above = λ c e. absurd (none-some c e);
        found = λ c e. absurd (none-some c e);
        least = λ c e. absurd (none-some c e);
      }

  module _ (j : ℕ) (x : Option ℕ) (o : Next s j met last x) where
    -- A join is one of the earlier ones, or the new one.
    old : (u : ℕ) (m : Met s (j + 1) met u) → (m.j ≡ j → ⊥) → Met s j met u
    old u m n = record { j = m.j; within = omega (arith, m.within); flag = m.flag; meets = m.meets }

    wider : (u : ℕ) → Met s j met u → Met s (j + 1) met u
    wider u m = record { j = m.j; within = omega (arith, m.within); flag = m.flag; meets = m.meets }

    new-flag : (u : ℕ) (m : Met s (j + 1) met u) → m.j ≡ j → get_or s j 0 ≡ 1
    new-flag u m q = rw q at m.flag

    new-meets : (u : ℕ) (m : Met s (j + 1) met u) → m.j ≡ j → get_or met j 0 ≡ u
    new-meets u m q = rw q at m.meets

    -- The new join is not marked, or too low: all is as it was.
    keeps : (get_or s j 0 ≡ 1 → get_or met j 0 ≤ last) → Next s (j + 1) met last x
    keeps h =
        record {
          none = λ e u m. none u m e (ℕ_discrete m.j j);
          above = o.above;
          found = λ c e. wider c (o.found c e);
          least = λ c e u m l. low c e u m l (ℕ_discrete m.j j);
        }
      where
        none : (u : ℕ) (m : Met s (j + 1) met u) → x ≡ None → Dec (m.j ≡ j) → u ≤ last
        none u m e (yes q) = omega (arith, h (new-flag u m q), new-meets u m q)
        none u m e (no n) = o.none e u (old u m n)

        low : (c : ℕ) → x ≡ Just c → (u : ℕ) (m : Met s (j + 1) met u) → last < u → Dec (m.j ≡ j) → c ≤ u
        low c e u m l (yes q) = absurd (omega (arith, h (new-flag u m q), new-meets u m q))
        low c e u m l (no n) = o.least c e u (old u m n) l

    -- The new join may be the least one.
    takes : get_or s j 0 ≡ 1 → last < get_or met j 0 → Next s (j + 1) met last (Just (least (get_or met j 0) x))
    unfolding least
    takes f l = go x refl
      where
        here : Met s (j + 1) met (get_or met j 0)
        here = record { j = j; within = omega arith; flag = f; meets = refl }

        first : x ≡ None → Next s (j + 1) met last (Just (get_or met j 0))
        first e =
            record {
              none = λ z. absurd (none-some _ (sym z));
              above = λ c z. (let i : get_or met j 0 ≡ c = same_Some _ c z in omega arith);
              found = λ c z. rw (← same_Some _ c z) here;
              least = λ c z u m k. (let i : get_or met j 0 ≡ c = same_Some _ c z in low c i u m k (ℕ_discrete m.j j));
            }
          where
            low : (c : ℕ) → get_or met j 0 ≡ c → (u : ℕ) (m : Met s (j + 1) met u) → last < u → Dec (m.j ≡ j) → c ≤ u
            low c i u m k (yes q) = omega (arith, new-meets u m q)
            low c i u m k (no n) = absurd (omega (arith, o.none e u (old u m n)))

        lower : (a : ℕ) → x ≡ Just a → Next s (j + 1) met last (Just (min a (get_or met j 0)))
        lower a e =
            record {
              none = λ z. absurd (none-some _ (sym z));
              above = λ c z. (let i : min a (get_or met j 0) ≡ c = same_Some _ c z in omega (arith, o.above a e));
              found = λ c z. (let i : min a (get_or met j 0) ≡ c = same_Some _ c z in found c i (dec_lt (get_or met j 0) a));
              least = λ c z u m k. (let i : min a (get_or met j 0) ≡ c = same_Some _ c z in low c i u m k (ℕ_discrete m.j j));
            }
          where
            found : (c : ℕ) → min a (get_or met j 0) ≡ c → Dec (get_or met j 0 < a) → Met s (j + 1) met c
            found c i (yes d) = let f : get_or met j 0 ≡ c = omega arith in rw (← f) here
            found c i (no d) = let f : a ≡ c = omega arith in rw (← f) (wider a (o.found a e))

            low : (c : ℕ) → min a (get_or met j 0) ≡ c → (u : ℕ) (m : Met s (j + 1) met u) → last < u → Dec (m.j ≡ j) → c ≤ u
            low c i u m k (yes q) = omega (arith, new-meets u m q)
            low c i u m k (no n) = omega (arith, o.least a e u (old u m n) k)

        go : (a : Option ℕ) → x ≡ a → Next s (j + 1) met last (Just (least (get_or met j 0) a))
        go None e = first e
        go (Just a) e = lower a e

    pub next-on : (flag y : ℕ) (z : Option ℕ) → flag ≡ get_or s j 0 → y ≡ get_or met j 0 → z ≡ lesser flag y last x → Next s (j + 1) met last z
    unfolding lesser
    next-on flag y z a b c = go (ℕ_discrete flag 1) (dec_lt last y)
      where
        go : Dec (flag ≡ 1) → Dec (last < y) → Next s (j + 1) met last z
        go (no f) d = rw (c ∙ eq_else flag 1 _ _ f) (keeps (λ p. absurd (f (a ∙ p))))
        go (yes f) (no l) = rw (c ∙ eq_then flag 1 _ _ f ∙ lt_else last y _ _ (omega arith)) (keeps (λ p. omega arith))
        go (yes f) (yes l) = rw (c ∙ eq_then flag 1 _ _ f ∙ lt_then last y _ _ l, b) (takes (sym a ∙ f) (rw b at l))

  pub next-done : (j joins : ℕ) (x : Option ℕ) → Next s j met last x → j ≤ joins → joins ≤ j → Next s joins met last x
  next-done j joins x o h l = let e : joins ≡ j = omega arith in rw e o

-- The list that they make.
module _ (q : Ask) (E : List Link) (v base : ℕ) (s : List ℕ) (joins : ℕ) (met : List ℕ) (just : MeetsJust q E v base s joins met) where
  list_none : (last : ℕ) (x : Option ℕ) → Next s joins met last x → x ≡ None → wanted q E v last (base - last) ≡ []
  list_none last x o e =
      wanted-none q v E last (base - last) (λ u a b p. absurd (omega (arith, o.none e u (just.back u (omega arith) p))))

  list_next : (last x : ℕ) → Next s joins met last (Just x) → q.after ≤ last
      → wanted q E v last (base - last) ≡ x ∷ wanted q E v x (base - x)
  list_next last x o h =
      let up : last < x = o.above x refl in
      let top : x ≤ base = just.low x (o.found x refl) in
      let split : base - last ≡ (x - 1 - last) + (1 + (base - x)) = omega arith in
      let mid : last + (x - 1 - last) ≡ x - 1 = omega arith in
      let next : x - 1 + 1 ≡ x = omega arith in
      let this : x - 1 + suc 0 ≡ x = omega arith in
      let empty : wanted q E v last (x - 1 - last) ≡ [] =
      wanted-none q v E last (x - 1 - last) (λ u a b p. absurd (omega (arith, o.least x refl u (just.back u (omega arith) p) (omega arith)))) in
      let one : wanted q E v (x - 1) 1 ≡ x ∷ [] =
      rw (this, wanted-nil q v E (x - 1)) at (wanted-yes q v E (x - 1) 0 (omega arith) (rw this (just.to x (o.found x refl)))) in
      ap (wanted q E v last) split
      ∙ wanted-append q v E last (x - 1 - last) (1 + (base - x))
      ∙ rw (empty, mid) (wanted-append q v E (x - 1) 1 (base - x) ∙ rw (one, next) refl)

module _ (q : Ask) (s : List ℕ) (joins : ℕ) (met page : List ℕ) (w : ℕ) where
  pub joins-begin : w ≤ q.room + 1 → JoinsGoing q s joins met q.after page w page w
  joins-begin h =
      record {
        long = refl;
        bound = h;
        high = omega arith;
        some = λ E v base just. record { done = []; gives = gives_nil q.room page w [] refl h; left = start E v base (dec_lt q.after base) };
      }
    where
      start : (E : List Link) (v base : ℕ) → Dec (q.after < base) → wanted q E v 0 base ≡ wanted q E v q.after (base - q.after)
      start E v base (yes l) =
          let e : base ≡ q.after + (base - q.after) = omega arith in
          let z : 0 + q.after ≡ q.after = omega arith in
          ap (wanted q E v 0) e
          ∙ wanted-append q v E 0 q.after (base - q.after)
          ∙ rw (wanted-low q v E 0 q.after (omega arith), z) refl
      start E v base (no l) =
          let e : base - q.after ≡ 0 = omega arith in
          rw e (wanted-low q v E 0 base (omega arith) ∙ sym (wanted-nil q v E q.after))

  pub joins-on : (last x g h : ℕ) (p₁ p₂ : List ℕ) → JoinsGoing q s joins met last page w p₁ g → Next s joins met last (Just x)
      → Gives q.room p₁ g (x ∷ []) p₂ h → JoinsGoing q s joins met x page w p₂ h
  joins-on last x g h p₁ p₂ go o gives =
      record {
        long = gives.long ∙ go.long;
        bound = gives.bound;
        high = omega (arith, go.high, o.above x refl);
        some = λ E v base just.
            let r : Some q E v base last page w p₁ g = go.some E v base just in
            record {
              done = r.done ++ x ∷ [];
              gives = gives-append q.room page w r.done (x ∷ []) p₁ p₂ g h r.gives gives;
              left = r.left ∙ ap (λ zs. r.done ++ zs) (list_next q E v base s joins met just last x o go.high)
                  ∙ sym (append_assoc r.done (x ∷ []) (wanted q E v x (base - x)));
            };
      }

  pub joins-done : (last g : ℕ) (x : Option ℕ) (after : List ℕ) → JoinsGoing q s joins met last page w after g → Next s joins met last x → x ≡ None
      → JoinsDone q s joins met page w after g
  joins-done last g x after go o e =
      record {
        long = go.long;
        bound = go.bound;
        all = λ E v base just.
            let r : Some q E v base last page w after g = go.some E v base just in
            let z : wanted q E v 0 base ≡ r.done =
            r.left ∙ ap (λ zs. r.done ++ zs) (list_none q E v base s joins met just last x o e) ∙ append-nil r.done in
            rw z r.gives;
      }

-- Each turn is higher.
pub next-falls : (s : List ℕ) (joins : ℕ) (met : List ℕ) (last x : ℕ) → Next s joins met last (Just x) → x < 4294967296
    → 4294967296 - x < 4294967296 - last
next-falls s joins met last x o h = omega (arith, o.above x refl)

-- The flags of the joins and what they meet are lent as parts of longer lists.
pub joins_part : (q : Ask) (s met page : List ℕ) (joins w : ℕ) (after : List ℕ) (g : ℕ) → joins ≤ length s
    → JoinsDone q (take joins s) (length (take joins s)) (take joins met) page w after g → JoinsDone q s joins met page w after g
joins_part q s met page joins w after g room done = record { long = done.long; bound = done.bound; all = λ E v base just. done.all E v base (part E v base just) }
  where
    many : length (take joins s) ≡ joins
    many = length-take-le joins s room

    out : (u : ℕ) → Met (take joins s) (length (take joins s)) (take joins met) u → Met s joins met u
    out u m =
        let h : m.j < joins = omega (arith, m.within, many) in
        record { j = m.j; within = h; flag = sym (get_or-take joins s m.j 0 h) ∙ m.flag; meets = sym (get_or-take joins met m.j 0 h) ∙ m.meets }

    into : (u : ℕ) → Met s joins met u → Met (take joins s) (length (take joins s)) (take joins met) u
    into u m =
        record {
          j = m.j;
          within = omega (arith, m.within, many);
          flag = get_or-take joins s m.j 0 m.within ∙ m.flag;
          meets = get_or-take joins met m.j 0 m.within ∙ m.meets;
        }

    part : (E : List Link) (v base : ℕ) → MeetsJust q E v base s joins met → MeetsJust q E v base (take joins s) (length (take joins s)) (take joins met)
    part E v base just =
        record { to = λ u m. just.to u (out u m); low = λ u m. just.low u (out u m); back = λ u h p. into u (just.back u h p) }
