-- Laws of marks: flags for the cues of a block.
use Prim.Native.Nat.{ℕ, zero, suc, ◌+◌, ◌/◌, ◌%◌, ◌-◌, ◌≤◌, ◌<◌}
use native.Mathlib.Omega.{arith}
use native.Mathlib.Decide.{ℕ_discrete, dec_lt}
use mathlib.Core.Path.{◌≡◌, refl, sym, ◌∙◌, ap}
use mathlib.Core.Logic.{◌↔◌, ◌⊎◌, inl, inr}
use mathlib.Core.Bool.{Bool, true, false, true≢false}
use mathlib.Core.List.Memᴰ
use mathlib.Core.List.{List, [], ◌∷◌, ◌++◌, Memᴰ}
use lib.ListN.{length, get_or, take, drop, set, length-set, length-take, length-drop, replicate, length-replicate, get_or-replicate}
use lib.Seq.{length-take-le, get_or-take, get_or-set_same, get_or-set_other}
use Rattle.std.proofs.lemmas.List.{get_or-drop}
use Rattle.model.specs.Limits.{max_joins, max_own}
use Rattle.model.specs.Blocks.{Use, Block, block_at, joins_of, own_of, blocks_of}
use Rattle.shows.proofs.BlockAt.{own_of_at}
use Rattle.basics.proofs.Choices.{lt_then, lt_else}
use Rattle.verdicts.specs.Index.{link_at, links_from, use_at, uses_from}
use Rattle.blocks.specs.Loaded.{LinkRows, UseRow, column_at, IsJoinAt}
use Rattle.blocks.proofs.Loaded.{uses_from-snoc}
use Rattle.blocks.proofs.Meeting.{use_arity, use_column, use_meets, use_only, use_apart}
use Rattle.neighbours.specs.declared.Ask.{Ask}
use Rattle.neighbours.specs.Picks.{near_end, fits, IsLink, Picked}
use Rattle.neighbours.specs.Near.{Near, by-link, by-use, ByRow, ByUse, ByUses, Quiet, UseMarked, UsesMarked, Marks}
use Rattle.neighbours.specs.Records.{record_size, inside_at, bits_at, record_at, bit_at, set_bit, own_bit, mark_of, On, HasMark, IsCue, Added}
use Rattle.neighbours.proofs.Bits.{set_same, set_other, bit_none}

-- The same marks, said otherwise.
pub added-like : {own : ℕ} {P R : ℕ → Type 0} (s w : List ℕ) → Added own P s w → ((u : ℕ) → P u → R u) → ((u : ℕ) → R u → P u) → Added own R s w
added-like {own} {P} {R} s w a to from = record { long = a.long; coarse = a.coarse; stays = a.stays; at = λ u h. (λ x. there u ((a.at u h).0 x), λ y. (a.at u h).1 (back u y)) }
  where
    there : (u : ℕ) → On own s u ⊎ P u → On own s u ⊎ R u
    there u (inl x) = inl x
    there u (inr y) = inr (to u y)

    back : (u : ℕ) → On own s u ⊎ R u → On own s u ⊎ P u
    back u (inl x) = inl x
    back u (inr y) = inr (from u y)

-- A mark more, or none.
module _ {own : ℕ} {P : ℕ → Type 0} (s w : List ℕ) where
  pub added-one : (d : ℕ) → Added own (IsCue d) s w → P d → ((u : ℕ) → P u → u ≡ d) → Added own P s w
  added-one d a p only = added-like s w a (λ u c. rw c.is p) (λ u x. record { is = only u x })

  pub added_none : w ≡ s → ((u : ℕ) → HasMark own u → P u → ⊥) → Added own P s w
  added_none e n = record { long = ap length e; coarse = λ c. (rw e c); stays = λ f. (rw e f); at = λ u h. (λ x. inl (sym (ap (λ v. mark_of own v u) e) ∙ x), λ y. back u h y) }
    where
      back : (u : ℕ) → HasMark own u → On own s u ⊎ P u → On own w u
      back u h (inl x) = ap (λ v. mark_of own v u) e ∙ x
      back u h (inr y) = absurd (n u h y)

-- Marks upon marks.
pub added_more : {own : ℕ} {P Q R : ℕ → Type 0} (s w v : List ℕ) → Added own P s w → Added own Q w v → ((u : ℕ) → P u ⊎ Q u → R u) → ((u : ℕ) → R u → P u ⊎ Q u) → Added own R s v
added_more {own} {P} {Q} {R} s w v a b to from = record { long = b.long ∙ a.long; coarse = λ c. b.coarse (a.coarse c); stays = λ f. b.stays (a.stays f); at = λ u h. (λ x. there u h ((b.at u h).0 x), λ y. back u h y) }
  where
    there : (u : ℕ) → HasMark own u → On own w u ⊎ Q u → On own s u ⊎ R u
    there u h (inr y) = inr (to u (inr y))
    there u h (inl x) = on ((a.at u h).0 x)
      where
        on : On own s u ⊎ P u → On own s u ⊎ R u
        on (inl x) = inl x
        on (inr y) = inr (to u (inl y))

    back : (u : ℕ) → HasMark own u → On own s u ⊎ R u → On own v u
    back u h (inl x) = (b.at u h).1 (inl ((a.at u h).1 (inl x)))
    back u h (inr y) = on (from u y)
      where
        on : P u ⊎ Q u → On own v u
        on (inl p) = (b.at u h).1 (inl ((a.at u h).1 (inr p)))
        on (inr q) = (b.at u h).1 (inr q)

pub added-long : {own : ℕ} {P : ℕ → Type 0} (s w : List ℕ) (n : ℕ) → Added own P s w → length s ≡ n → length w ≡ n
added-long s w n a e = a.long ∙ e

-- What a record has for a cue depends on two bytes at most.
mark_join_is : (own d : ℕ) (s : List ℕ) → own < d → mark_of own s d ≡ get_or s (d - own - 1) 0
unfolding mark_of
mark_join_is own d s h = lt_then own d _ _ h

mark_own_is : (own d : ℕ) (s : List ℕ) → d ≤ own → mark_of own s d ≡ bit_at (get_or s (bits_at + (d - 1) / 8) 0) ((d - 1) % 8)
unfolding mark_of own_bit
mark_own_is own d s h = lt_else own d _ _ h

-- The mark of a join.
pub mark_join : (own d i x : ℕ) (s : List ℕ) → own < d → x ≡ d - own - 1 → i ≡ x → length s ≡ record_size → i < max_joins → Added own (IsCue d) s (set s i 1)
mark_join own d i x s o x₁ x₂ l h =
    record {
      long = length-set s i 1;
      coarse = λ c. record { at = λ u y z f. get_or-set_other s i inside_at 1 0 (λ e. omega arith) ∙ c.at u y z (sym (own_same u z) ∙ f) };
      stays = λ f. get_or-set_other s i inside_at 1 0 (λ e. omega arith) ∙ f;
      at = λ u k. one u k (dec_lt own u) (ℕ_discrete u d);
    }
  where
    w : List ℕ
    w = set s i 1

    own_same : (u : ℕ) → u ≤ own → mark_of own w u ≡ mark_of own s u
    own_same u z =
        mark_own_is own u w z
        ∙ ap (λ (b : ℕ). bit_at b ((u - 1) % 8)) (get_or-set_other s i (bits_at + (u - 1) / 8) 1 0 (λ e. omega arith))
        ∙ sym (mark_own_is own u s z)

    alike : (u : ℕ) → mark_of own w u ≡ mark_of own s u → (u ≡ d → ⊥) → On own w u ↔ (On own s u ⊎ IsCue d u)
    alike u e n = (λ f. inl (sym e ∙ f), λ y. back y)
      where
        back : On own s u ⊎ IsCue d u → On own w u
        back (inl f) = e ∙ f
        back (inr y) = absurd (n y.is)

    one : (u : ℕ) → HasMark own u → Dec (own < u) → Dec (u ≡ d) → On own w u ↔ (On own s u ⊎ IsCue d u)
    one u k y (yes e) =
        (λ f. inr (record { is = e }), λ f. mark_join_is own u w (omega arith) ∙ ap (λ n. get_or w n 0) (index e) ∙ get_or-set_same s i 1 0 (omega arith))
      where
        index : u ≡ d → u - own - 1 ≡ i
        index e = omega arith
    one u k (yes y) (no n) =
        alike u (mark_join_is own u w y ∙ get_or-set_other s i (u - own - 1) 1 0 (λ e. n (omega arith)) ∙ sym (mark_join_is own u s y)) n
    one u k (no y) (no n) = alike u (own_same u (omega arith)) n

-- The mark of an own cue.
pub mark_own : (own d i x b v : ℕ) (s : List ℕ) → d ≤ own → 0 < d → x ≡ d - 1 → i ≡ x → length s ≡ record_size → own ≤ max_own → b ≡ get_or s (bits_at + i / 8) 0
    → v ≡ set_bit b (i % 8) → Added own (IsCue d) s (set (set s (bits_at + i / 8) v) inside_at 1)
mark_own own d i x b v s o p x₁ x₂ l h e₁ e₂ =
    record {
      long = length-set (set s (bits_at + i / 8) v) inside_at 1 ∙ length-set s (bits_at + i / 8) v;
      coarse = λ c. record { at = λ u y z f. get_or-set_same (set s (bits_at + i / 8) v) inside_at 1 0 (rw length-set (omega arith)) };
      stays = λ f. get_or-set_same (set s (bits_at + i / 8) v) inside_at 1 0 (rw length-set (omega arith));
      at = λ u k. one u k (dec_lt own u) (ℕ_discrete u d) (ℕ_discrete ((u - 1) / 8) (i / 8));
    }
  where
    w : List ℕ
    w = set (set s (bits_at + i / 8) v) inside_at 1

    byte : (n : ℕ) → get_or w (bits_at + n) 0 ≡ get_or (set s (bits_at + i / 8) v) (bits_at + n) 0
    byte n = get_or-set_other (set s (bits_at + i / 8) v) inside_at (bits_at + n) 1 0 (λ e. omega arith)

    other : (n : ℕ) → (n ≡ i / 8 → ⊥) → get_or w (bits_at + n) 0 ≡ get_or s (bits_at + n) 0
    other n h = byte n ∙ get_or-set_other s (bits_at + i / 8) (bits_at + n) v 0 (λ e. h (omega arith))

    here-byte : get_or w (bits_at + i / 8) 0 ≡ set_bit (get_or s (bits_at + i / 8) 0) (i % 8)
    here-byte = byte (i / 8) ∙ get_or-set_same s (bits_at + i / 8) v 0 (omega arith) ∙ e₂ ∙ ap (λ (n : ℕ). set_bit n (i % 8)) e₁

    alike : (u : ℕ) → mark_of own w u ≡ mark_of own s u → (u ≡ d → ⊥) → On own w u ↔ (On own s u ⊎ IsCue d u)
    alike u e n = (λ f. inl (sym e ∙ f), λ y. back y)
      where
        back : On own s u ⊎ IsCue d u → On own w u
        back (inl f) = e ∙ f
        back (inr y) = absurd (n y.is)

    one : (u : ℕ) → HasMark own u → Dec (own < u) → Dec (u ≡ d) → Dec ((u - 1) / 8 ≡ i / 8) → On own w u ↔ (On own s u ⊎ IsCue d u)
    one u k y (yes e) z = (λ f. inr (record { is = e }), λ f. mark_own_is own u w (omega arith) ∙ at-d (index e))
      where
        index : u ≡ d → u - 1 ≡ i
        index e = omega arith

        at-d : u - 1 ≡ i → bit_at (get_or w (bits_at + (u - 1) / 8) 0) ((u - 1) % 8) ≡ 1
        at-d j = rw (j, here-byte) (set_same (get_or s (bits_at + i / 8) 0) (i % 8) (omega arith))
    one u k (yes y) (no n) z =
        alike u
        (mark_join_is own u w y
        ∙ get_or-set_other (set s (bits_at + i / 8) v) inside_at (u - own - 1) 1 0 (λ e. omega arith)
        ∙ get_or-set_other s (bits_at + i / 8) (u - own - 1) v 0 (λ e. omega arith)
        ∙ sym (mark_join_is own u s y))
        n
    one u k (no y) (no n) (yes z) = alike u (mark_own_is own u w (omega arith) ∙ same z ∙ sym (mark_own_is own u s (omega arith))) n
      where
        same : (u - 1) / 8 ≡ i / 8 → bit_at (get_or w (bits_at + (u - 1) / 8) 0) ((u - 1) % 8) ≡ bit_at (get_or s (bits_at + (u - 1) / 8) 0) ((u - 1) % 8)
        same z = rw (z, here-byte) (set_other (get_or s (bits_at + i / 8) 0) (i % 8) ((u - 1) % 8) (omega arith) (λ e. n (omega arith)))
    one u k (no y) (no n) (no z) =
        alike u
        (mark_own_is own u w (omega arith) ∙ ap (λ (b : ℕ). bit_at b ((u - 1) % 8)) (other ((u - 1) / 8) z) ∙ sym (mark_own_is own u s (omega arith)))
        n

-- No mark, where a record has none for the cue.
pub mark_far : (own d i x : ℕ) (s : List ℕ) → own < d → x ≡ d - own - 1 → i ≡ x → max_joins ≤ i → Added own (IsCue d) s s
mark_far own d i x s o x₁ x₂ h = added_none s s refl (λ u k y. omega (arith, y.is, k))

pub mark_zero : (own d : ℕ) (s : List ℕ) → d ≤ 0 → Added own (IsCue d) s s
mark_zero own d s h = added_none s s refl (λ u k y. omega (arith, y.is, k))

-- The flag for what is inside is no mark.
added-flagged : {own : ℕ} {P : ℕ → Type 0} (s w : List ℕ) → length s ≡ record_size → Added own P s w → Added own P s (set w inside_at 1)
added-flagged {own} {P} s w l a =
    record {
      long = length-set w inside_at 1 ∙ a.long;
      coarse = λ c. record { at = λ u y z f. flagged };
      stays = λ f. flagged;
      at = λ u h. (λ x. (a.at u h).0 (sym (same u h (dec_lt own u)) ∙ x), λ y. same u h (dec_lt own u) ∙ (a.at u h).1 y);
    }
  where
    flagged : ◌≡◌ {A = ℕ} (get_or (set w inside_at 1) inside_at 0) 1
    flagged = get_or-set_same w inside_at 1 0 (omega (arith, a.long))

    same : (u : ℕ) → HasMark own u → Dec (own < u) → mark_of own (set w inside_at 1) u ≡ mark_of own w u
    same u h (yes y) = mark_join_is own u (set w inside_at 1) y ∙ get_or-set_other w inside_at (u - own - 1) 1 0 (λ e. omega arith) ∙ sym (mark_join_is own u w y)
    same u h (no y) =
        mark_own_is own u (set w inside_at 1) (omega arith)
        ∙ ap (λ (b : ℕ). bit_at b ((u - 1) % 8)) (get_or-set_other w inside_at (bits_at + (u - 1) / 8) 1 0 (λ e. omega arith))
        ∙ sym (mark_own_is own u w (omega arith))

-- The link of a row.
module _ (xs : List ℕ) (q : Ask) (r own c : ℕ) (s : List ℕ) where
  pub link-yes : (w : List ℕ) (f : Bool) (label from to h d : ℕ) → label ≡ (link_at xs r).label → f ≡ fits q label → f ≡ true
      → from ≡ (link_at xs r).from → to ≡ (link_at xs r).to → h ≡ near_end q from to → h ≡ c → d ≡ near_end q to from → Added own (IsCue d) s w
      → Added own (IsLink q (link_at xs r) c) s w
  link-yes w f label from to h d a b x fr tt' y z v e =
      added-one s w d e
      (record { label = rw (← a) (sym b ∙ x); from = rw (← fr, ← tt') (sym y ∙ z); to = rw (← fr, ← tt') (sym v) })
      (λ u p. sym p.to ∙ (rw (← fr, ← tt') (sym v)))

  pub link-other : (f : Bool) (label from to h : ℕ) → from ≡ (link_at xs r).from → to ≡ (link_at xs r).to → h ≡ near_end q from to → (h ≡ c → ⊥)
      → Added own (IsLink q (link_at xs r) c) s s
  link-other f label from to h fr tt' y n = added_none s s refl (λ u k p. n (y ∙ (rw (fr, tt') p.from)))

  pub link-no : (f : Bool) (label : ℕ) → label ≡ (link_at xs r).label → f ≡ fits q label → f ≡ false → Added own (IsLink q (link_at xs r) c) s s
  link-no f label a b x = added_none s s refl (λ u k p. true≢false (sym p.label ∙ (rw (← a) (sym b ∙ x))))

-- The links of rows.
links_from-snoc : (xs : List ℕ) (a n : ℕ) → links_from xs a (suc n) ≡ links_from xs a n ++ link_at xs (a + n) ∷ []
unfolding links_from
links_from-snoc xs a zero = let e : a + 0 ≡ a = omega arith in rw e refl
links_from-snoc xs a (suc n) = let e : a + suc n ≡ a + 1 + n = omega arith in rw e (ap (λ zs. link_at xs a ∷ zs) (links_from-snoc xs (a + 1) n))

pub links-begin : (xs : List ℕ) (q : Ask) (a own c : ℕ) (s : List ℕ) → Added own (Picked q (links_from xs a (a - a)) c) s s
unfolding links_from
links-begin xs q a own c s =
    let e : a - a ≡ 0 = omega arith in
    added_none s s refl (λ u k p. Memᴰ.not-nil (rw e at p.member))

module _ (xs : List ℕ) (q : Ask) (a own c r : ℕ) (s w v : List ℕ) where
  pub links-on : a ≤ r → Added own (Picked q (links_from xs a (r - a)) c) s w → Added own (IsLink q (link_at xs r) c) w v
      → Added own (Picked q (links_from xs a (r + 1 - a)) c) s v
  links-on h x y = added_more s w v x y to from
    where
      next : links_from xs a (r + 1 - a) ≡ links_from xs a (r - a) ++ link_at xs r ∷ []
      next =
          let e : r + 1 - a ≡ suc (r - a) = omega arith in
          let f : a + (r - a) ≡ r = omega arith in
          rw (e, links_from-snoc xs a (r - a), f) refl

      to : (u : ℕ) → Picked q (links_from xs a (r - a)) c u ⊎ IsLink q (link_at xs r) c u → Picked q (links_from xs a (r + 1 - a)) c u
      to u (inl p) = record { link = p.link; member = rw next (Memᴰ.append_left _ p.member); label = p.label; from = p.from; to = p.to }
      to u (inr p) = record { link = link_at xs r; member = rw next (Memᴰ.append_right (links_from xs a (r - a)) (Memᴰ.head refl)); label = p.label; from = p.from; to = p.to }

      from : (u : ℕ) → Picked q (links_from xs a (r + 1 - a)) c u → Picked q (links_from xs a (r - a)) c u ⊎ IsLink q (link_at xs r) c u
      from u p = go (Memᴰ.append_cases (links_from xs a (r - a)) (rw next at p.member))
        where
          go : Memᴰ p.link (links_from xs a (r - a)) ⊎ Memᴰ p.link (link_at xs r ∷ []) → Picked q (links_from xs a (r - a)) c u ⊎ IsLink q (link_at xs r) c u
          go (inl i) = inl (record { link = p.link; member = i; label = p.label; from = p.from; to = p.to })
          go (inr i) =
              let e : p.link ≡ link_at xs r = Memᴰ.eq_of_singleton i in
              inr (record { label = rw e at p.label; from = rw e at p.from; to = rw e at p.to })

  pub links-done : (e : ℕ) → a ≤ r → r ≤ e → e ≤ r → Added own (Picked q (links_from xs a (r - a)) c) s w → Added own (Picked q (links_from xs a (e - a)) c) s w
  links-done e h i j x = let z : e ≡ r = omega arith in rw z x

-- The columns of a use's row up to one.
module _ (xs m : List ℕ) (r at own : ℕ) (s : List ℕ) where
  pub row-begin : Added own (ByRow xs m r at 0) s s
  row-begin = added_none s s refl (λ u k p. absurd (omega (arith, p.in_j)))

  wider : (j u : ℕ) → ByRow xs m r at j u → ByRow xs m r at (j + 1) u
  wider j u p = record { j = p.j; in_j = omega (arith, p.in_j); at_j = p.at_j; flag = p.flag }

  pub row_yes : (w v : List ℕ) (j flag d : ℕ) → Added own (ByRow xs m r at j) s w → flag ≡ get_or m (at + j) 0 → flag ≡ 1 → d ≡ column_at xs r j
      → Added own (IsCue d) w v → Added own (ByRow xs m r at (j + 1)) s v
  row_yes w v j flag d x e f c y = added_more s w v x y to from
    where
      to : (u : ℕ) → ByRow xs m r at j u ⊎ IsCue d u → ByRow xs m r at (j + 1) u
      to u (inl p) = wider j u p
      to u (inr p) = record { j = j; in_j = omega arith; at_j = sym c ∙ sym p.is; flag = sym e ∙ f }

      from : (u : ℕ) → ByRow xs m r at (j + 1) u → ByRow xs m r at j u ⊎ IsCue d u
      from u p = go (ℕ_discrete p.j j)
        where
          go : Dec (p.j ≡ j) → ByRow xs m r at j u ⊎ IsCue d u
          go (yes q) = inr (record { is = sym (rw q at p.at_j) ∙ sym c })
          go (no n) = inl (record { j = p.j; in_j = omega (arith, p.in_j); at_j = p.at_j; flag = p.flag })

  pub row_no : (w : List ℕ) (j flag : ℕ) → Added own (ByRow xs m r at j) s w → flag ≡ get_or m (at + j) 0 → (flag ≡ 1 → ⊥) → Added own (ByRow xs m r at (j + 1)) s w
  row_no w j flag x e n = added-like s w x (wider j) from
    where
      from : (u : ℕ) → ByRow xs m r at (j + 1) u → ByRow xs m r at j u
      from u p = go (ℕ_discrete p.j j)
        where
          go : Dec (p.j ≡ j) → ByRow xs m r at j u
          go (yes q) = absurd (n (e ∙ (rw q at p.flag)))
          go (no k) = record { j = p.j; in_j = omega (arith, p.in_j); at_j = p.at_j; flag = p.flag }

  pub row_done : (w : List ℕ) (j joins : ℕ) → Added own (ByRow xs m r at j) s w → j ≤ joins → joins ≤ j → Added own (ByRow xs m r at joins) s w
  row_done w j joins x h l = let e : joins ≡ j = omega arith in rw e x

  -- The flags of a part of the table are the table's from there on.
  pub row_part : (w part : List ℕ) (n joins : ℕ) → n ≡ joins → at + joins ≤ length m → part ≡ take n (drop at m)
      → Added own (ByRow xs part r 0 (length part)) s w → Added own (ByRow xs m r at joins) s w
  row_part w part n joins e room is x = added-like s w x to from
    where
      many : length part ≡ joins
      many = ap length is ∙ length-take-le n (drop at m) (omega (arith, length-drop at m)) ∙ e

      same : (j : ℕ) → j < joins → get_or part (0 + j) 0 ≡ get_or m (at + j) 0
      same j h =
          let z : 0 + j ≡ j = omega arith in
          rw (is, z) (get_or-take n (drop at m) j 0 (omega arith) ∙ get_or-drop at m j 0)

      to : (u : ℕ) → ByRow xs part r 0 (length part) u → ByRow xs m r at joins u
      to u p = record { j = p.j; in_j = omega (arith, p.in_j, many); at_j = p.at_j; flag = sym (same p.j (omega (arith, p.in_j, many))) ∙ p.flag }

      from : (u : ℕ) → ByRow xs m r at joins u → ByRow xs part r 0 (length part) u
      from u p = record { j = p.j; in_j = omega (arith, p.in_j, many); at_j = p.at_j; flag = same p.j p.in_j ∙ p.flag }

pub part_few : (l : List ℕ) (n joins : ℕ) → n ≡ joins → joins ≤ max_joins → length (take n l) ≤ max_joins
part_few l n joins e h = omega (arith, length-take n l)

-- The use of a row.
module _ (xs : List ℕ) (k r c j joins i : ℕ) (o : UseRow xs k r) (y : j ≡ (use_at xs (blocks_of xs) r).block) (n : joins ≡ joins_of (blocks_of xs) j)
    (p : IsJoinAt xs r joins c i) where
  abbrev u : Use
  u = use_at xs (blocks_of xs) r

  -- What it marks.
  module _ (m : List ℕ) (own : ℕ) where
    use_yes : (s w : List ℕ) → i < joins → Added own (ByRow xs m r (record_at j i) joins) s w → Added own (ByUse m u c) s w
    use_yes s w h b = added-like s w b to from
      where
        to : (d : ℕ) → ByRow xs m r (record_at j i) joins d → ByUse m u c d
        to d b =
            record {
              i = i;
              j = b.j;
              in_i = omega (arith, use_arity o y n p);
              in_j = omega (arith, use_arity o y n p, b.in_j);
              at_i = use_meets o y n p h;
              at_j = use_column o y n p b.j b.in_j ∙ b.at_j;
              flag = rw (← y) b.flag;
            }

        from : (d : ℕ) → ByUse m u c d → ByRow xs m r (record_at j i) joins d
        from d b =
            let e : b.i ≡ i = use_only o y n p b.i h b.in_i b.at_i in
            record {
              j = b.j;
              in_j = omega (arith, use_arity o y n p, b.in_j);
              at_j = sym (use_column o y n p b.j (omega (arith, use_arity o y n p, b.in_j))) ∙ b.at_j;
              flag = rw (e, ← y) at b.flag;
            }

    pub use_inside : (s w : List ℕ) → length s ≡ record_size → i < joins → Added own (ByRow xs m r (record_at j i) joins) s w → UseMarked own m u c s (set w inside_at 1)
    use_inside s w l h b =
        record {
          added = added-flagged s w l (use_yes s w h b);
          quiet = λ n. absurd (n (get_or-set_same w inside_at 1 0 (omega (arith, b.long))));
        }

    pub use_quiet : (s w : List ℕ) → i < joins → Added own (ByRow xs m r (record_at j i) joins) s w → (get_or m (record_at j i + inside_at) 0 ≡ 1 → ⊥)
        → UseMarked own m u c s w
    use_quiet s w h b z =
        record {
          added = use_yes s w h b;
          quiet = λ _. record {
            at = λ a l q f.
                let e : a ≡ i = use_only o y n p a h l q in
                z (rw (e, ← y) at f);
          };
        }

    pub use_no : (s : List ℕ) → joins ≤ i → UseMarked own m u c s s
    use_no s h =
        record {
          added = added_none s s refl (λ d k b. use_apart o y n p b.i h b.in_i b.at_i);
          quiet = λ _. record { at = λ a l q f. use_apart o y n p a h l q };
        }

-- The uses of rows.
module _ (xs m : List ℕ) (a own c : ℕ) (s : List ℕ) where
  abbrev us : ℕ → List Use
  us n = uses_from xs (blocks_of xs) a n

  pub uses-begin : UsesMarked own m (us (a - a)) c s s
  unfolding uses_from
  uses-begin =
      let e : a - a ≡ 0 = omega arith in
      record {
        added = added_none s s refl (λ u k p. Memᴰ.not-nil (rw e at p.member));
        quiet = λ n. record { at = λ u i. absurd (Memᴰ.not-nil (rw e at i)) };
      }

  pub uses-on : (r : ℕ) (w v : List ℕ) → a ≤ r → UsesMarked own m (us (r - a)) c s w → UseMarked own m (use_at xs (blocks_of xs) r) c w v
      → UsesMarked own m (us (r + 1 - a)) c s v
  uses-on r w v h x y =
      record {
        added = added_more s w v x.added y.added to from;
        quiet = λ n. record { at = λ u i. still n u (Memᴰ.append_cases (us (r - a)) (rw next at i)) };
      }
    where
      next : us (r + 1 - a) ≡ us (r - a) ++ use_at xs (blocks_of xs) r ∷ []
      next =
          let e : r + 1 - a ≡ suc (r - a) = omega arith in
          let f : a + (r - a) ≡ r = omega arith in
          rw (e, uses_from-snoc xs (blocks_of xs) a (r - a), f) refl

      still : (get_or v inside_at 0 ≡ 1 → ⊥) → (u : Use) → Memᴰ u (us (r - a)) ⊎ Memᴰ u (use_at xs (blocks_of xs) r ∷ []) → Quiet m c u
      still n u (inl i) = (x.quiet (λ f. n (y.added.stays f))).at u i
      still n u (inr i) = let e : u ≡ use_at xs (blocks_of xs) r = Memᴰ.eq_of_singleton i in rw e (y.quiet n)

      to : (d : ℕ) → ByUses m (us (r - a)) c d ⊎ ByUse m (use_at xs (blocks_of xs) r) c d → ByUses m (us (r + 1 - a)) c d
      to d (inl p) = record { use_of = p.use_of; member = rw next (Memᴰ.append_left _ p.member); by = p.by }
      to d (inr p) = record { use_of = use_at xs (blocks_of xs) r; member = rw next (Memᴰ.append_right (us (r - a)) (Memᴰ.head refl)); by = p }

      from : (d : ℕ) → ByUses m (us (r + 1 - a)) c d → ByUses m (us (r - a)) c d ⊎ ByUse m (use_at xs (blocks_of xs) r) c d
      from d p = go (Memᴰ.append_cases (us (r - a)) (rw next at p.member))
        where
          go : Memᴰ p.use_of (us (r - a)) ⊎ Memᴰ p.use_of (use_at xs (blocks_of xs) r ∷ [])
              → ByUses m (us (r - a)) c d ⊎ ByUse m (use_at xs (blocks_of xs) r) c d
          go (inl i) = inl (record { use_of = p.use_of; member = i; by = p.by })
          go (inr i) = let e : p.use_of ≡ use_at xs (blocks_of xs) r = Memᴰ.eq_of_singleton i in inr (rw e at p.by)

-- All rows of a block, from no marks.
nothing_on : (own d : ℕ) → HasMark own d → own ≤ max_own → On own (replicate record_size 0) d → ⊥
nothing_on own d k h f = go (dec_lt own d)
  where
    go : Dec (own < d) → ⊥
    go (yes y) = absurd (omega (arith, sym (mark_join_is own d (replicate record_size 0) y) ∙ f, get_or-replicate {A = ℕ} record_size (d - own - 1) 0 0 (omega arith)))
    go (no y) =
        bit_none (get_or (replicate record_size 0) (bits_at + (d - 1) / 8) 0) ((d - 1) % 8) (get_or-replicate {A = ℕ} record_size (bits_at + (d - 1) / 8) 0 0 (omega arith))
        (sym (mark_own_is own d (replicate record_size 0) (omega arith)) ∙ f)

near_own : (xs m : List ℕ) (q : Ask) (k a e c : ℕ) (w v : List ℕ) → LinkRows xs k a e → (block_at (blocks_of xs) k).own ≤ max_own
    → Added (block_at (blocks_of xs) k).own (Picked q (links_from xs a (e - a)) c) (replicate record_size 0) w
    → UsesMarked (block_at (blocks_of xs) k).own m (block_at (blocks_of xs) k).uses c w v → Marks q m (block_at (blocks_of xs) k) c v
near_own xs m q k a e c w v rows few p uses =
    record {
      quiet = uses.quiet;
      long = r.long ∙ p.long ∙ length-replicate {A = ℕ} record_size 0;
      coarse = r.coarse (p.coarse (record { at = λ d i j f. absurd (nothing_on b.own d (i, omega arith) few f) }));
      at = λ d o. (λ z. to d o ((r.at d o).0 z), λ z. from d o z);
    }
  where
    b : Block
    b = block_at (blocks_of xs) k

    r : Added b.own (ByUses m b.uses c) w v
    r = uses.added

    to : (d : ℕ) → HasMark b.own d → On b.own w d ⊎ ByUses m b.uses c d → Near q m b c d
    to d o (inr z) = by-use z.use_of z.member z.by.i z.by.j z.by.in_i z.by.in_j z.by.at_i z.by.at_j z.by.flag
    to d o (inl z) = on ((p.at d o).0 z)
      where
        on : On b.own (replicate record_size 0) d ⊎ Picked q (links_from xs a (e - a)) c d → Near q m b c d
        on (inl e) = absurd (nothing_on b.own d o few e)
        on (inr l) = by-link l.link (rw rows.links l.member) l.label l.from l.to

    from : (d : ℕ) → HasMark b.own d → Near q m b c d → On b.own v d
    from d o (by-link e i n z u) = (r.at d o).1 (inl ((p.at d o).1 (inr (record { link = e; member = rw rows.links at i; label = n; from = z; to = u }))))
    from d o (by-use e i n z u j x y f) =
        (r.at d o).1 (inr (record { use_of = e; member = i; by = record { i = n; j = z; in_i = u; in_j = j; at_i = x; at_j = y; flag = f } }))

pub near_all : (xs m : List ℕ) (q : Ask) (k a e own c : ℕ) (w v : List ℕ) → LinkRows xs k a e → own ≡ own_of (blocks_of xs) k → own ≤ max_own
    → Added own (Picked q (links_from xs a (e - a)) c) (replicate record_size 0) w
    → UsesMarked own m (block_at (blocks_of xs) k).uses c w v → Marks q m (block_at (blocks_of xs) k) c v
near_all xs m q k a e own c w v rows eo few p r =
    let z : own ≡ (block_at (blocks_of xs) k).own = eo ∙ own_of_at (blocks_of xs) k in
    near_own xs m q k a e c w v rows (omega arith) (rw z at p) (rw z at r)
