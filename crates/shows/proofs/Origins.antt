-- Where the links from s to t come from in a copy: its own rows and its parts. A part that does not meet both cues has none; and where one of the two
-- is a number of a part, all of them come from that part.
use Prim.Native.Nat.{ℕ, zero, suc, ◌+◌, ◌-◌, ◌≤◌, ◌<◌}
use native.Mathlib.Omega.{arith}
use native.Mathlib.Decide.{ℕ_discrete}
use mathlib.Core.Path.{◌≡◌, refl, sym, ◌∙◌, ap, ap₂}
use mathlib.Core.Logic.{◌⊎◌, inl, inr}
use mathlib.Core.List.{List, [], ◌∷◌, ◌++◌, map, Memᴰ}
use lib.ListN.{length, take}
use Rattle.model.specs.Choice.{if_eq}
use Rattle.model.specs.Blocks.{Link, Use, Block, sum_over, total}
use Rattle.model.specs.Behind.{Origin, Traced, step_into, traced_into, uses_traced, traced, origins}
use Rattle.basics.proofs.Choices.{eq_then, eq_else}
use Rattle.basics.proofs.Members.{map-mem}
use Rattle.shows.specs.WellFormed.{Cue}
use Rattle.shows.specs.Copies.{Part, parts_from, Copy, number, meets, size, copy_of, Sound, IsPart, InCopy, part-copy, nth_use, part_at}
use Rattle.shows.proofs.Ranges.{Within, inner, join, parts_from-range, Inside, links-within, Own, own-own, number-own, meets-own, part-use, arity}
use Rattle.shows.proofs.Locality.{not-inside, number-apart, part-total}
use Rattle.shows.proofs.Trails.{part-at_part}
use Rattle.shows.proofs.Tracing.{link-of, rows-links, own-traced, parts-traced, traced-at, traced-links}

-- A link from s to t.
abbrev pub Joins : ℕ → ℕ → Link → Type 0
Joins s t l = (l.from ≡ s) × (l.to ≡ t)

module _ (s t : ℕ) where
  -- One traced link more: it joins s to t, or it does not.
  pub origins-hit : (x : Traced) (xs : List Traced) → Joins s t x.link → origins s t (x ∷ xs) ≡ x.origin ∷ origins s t xs
  unfolding origins
  origins-hit x xs h = eq_then x.link.from s _ _ h.0 ∙ eq_then x.link.to t _ _ h.1

  pub origins-skip : (x : Traced) (xs : List Traced) → (Joins s t x.link → ⊥) → origins s t (x ∷ xs) ≡ origins s t xs
  unfolding origins
  origins-skip x xs n = go (ℕ_discrete x.link.from s) (ℕ_discrete x.link.to t)
    where
      go : Dec (x.link.from ≡ s) → Dec (x.link.to ≡ t)
          → if_eq x.link.from s (if_eq x.link.to t (x.origin ∷ origins s t xs) (origins s t xs)) (origins s t xs) ≡ origins s t xs
      go (yes a) (yes b) = absurd (n (a, b))
      go (yes a) (no b) = eq_then x.link.from s _ _ a ∙ eq_else x.link.to t _ _ b
      go (no a) d = eq_else x.link.from s _ _ a

  pub joins? : (l : Link) → Dec (Joins s t l)
  joins? l = go (ℕ_discrete l.from s) (ℕ_discrete l.to t)
    where
      go : Dec (l.from ≡ s) → Dec (l.to ≡ t) → Dec (Joins s t l)
      go (yes a) (yes b) = yes (a, b)
      go (yes a) (no b) = no (λ h. b h.1)
      go (no a) d = no (λ h. a h.0)

  pub origins-none : (xs : List Traced) → ((l : Link) → Memᴰ l (map link-of xs) → Joins s t l → ⊥) → origins s t xs ≡ []
  unfolding origins
  origins-none [] h = refl
  origins-none (x ∷ xs) h =
      origins-skip x xs (h x.link (Memᴰ.head refl)) ∙ origins-none xs (λ l i. h l (Memᴰ.tail i))

  pub origins-append : (xs ys : List Traced) → origins s t (xs ++ ys) ≡ origins s t xs ++ origins s t ys
  unfolding origins
  origins-append [] ys = refl
  origins-append (x ∷ xs) ys = go (joins? x.link) (origins-append xs ys)
    where
      go : Dec (Joins s t x.link) → origins s t (xs ++ ys) ≡ origins s t xs ++ origins s t ys
          → origins s t (x ∷ (xs ++ ys)) ≡ origins s t (x ∷ xs) ++ origins s t ys
      go (yes h) e = origins-hit x (xs ++ ys) h ∙ ap (λ (os : List Origin). x.origin ∷ os) e ∙ sym (ap (λ (os : List Origin). os ++ origins s t ys) (origins-hit x xs h))
      go (no h) e = origins-skip x (xs ++ ys) h ∙ e ∙ sym (ap (λ (os : List Origin). os ++ origins s t ys) (origins-skip x xs h))

  pub origins-into : (p : ℕ) (xs : List Traced) → origins s t (map (traced_into p) xs) ≡ map (step_into p) (origins s t xs)
  unfolding origins traced_into
  origins-into p [] = refl
  origins-into p (x ∷ xs) = go (joins? x.link) (origins-into p xs)
    where
      go : Dec (Joins s t x.link) → origins s t (map (traced_into p) xs) ≡ map (step_into p) (origins s t xs)
          → origins s t (traced_into p x ∷ map (traced_into p) xs) ≡ map (step_into p) (origins s t (x ∷ xs))
      go (yes h) e = origins-hit (traced_into p x) (map (traced_into p) xs) h ∙ ap (λ (os : List Origin). step_into p x.origin ∷ os) e ∙ sym (ap (map (step_into p)) (origins-hit x xs h))
      go (no h) e = origins-skip (traced_into p x) (map (traced_into p) xs) h ∙ e ∙ sym (ap (map (step_into p)) (origins-skip x xs h))

  -- The copies of some uses: one after another; none where none has any; and those of the only one that has some.
  module _ (size : ℕ → ℕ) (below : ℕ → ℕ → List ℕ → List Traced) (number : ℕ → ℕ) where
    abbrev pub from-part : Part → List Origin
    from-part p = origins s t (below p.of.block p.base (map number p.of.at))

    abbrev pub from-uses : ℕ → ℕ → List Use → List Origin
    from-uses p base us = origins s t (uses_traced size below number p base us)

    pub uses-next : (p base : ℕ) (u : Use) (us : List Use)
        → from-uses p base (u ∷ us) ≡ map (step_into p) (from-part (record { of = u; base = base })) ++ from-uses (suc p) (base + size u.block) us
    unfolding uses_traced
    uses-next p base u us =
        let first : List Traced = below u.block base (map number u.at) in
        origins-append (map (traced_into p) first) (uses_traced size below number (suc p) (base + size u.block) us)
        ∙ ap (λ (os : List Origin). os ++ from-uses (suc p) (base + size u.block) us) (origins-into p first)

    uses-none : (p base : ℕ) (us : List Use) → ((q : Part) → Memᴰ q (parts_from size base us) → from-part q ≡ []) → from-uses p base us ≡ []
    unfolding parts_from uses_traced origins
    uses-none p base [] h = refl
    uses-none p base (u ∷ us) h =
        uses-next p base u us
        ∙ ap₂ ◌++◌ (ap (map (step_into p)) (h (record { of = u; base = base }) (Memᴰ.head refl)))
        (uses-none (suc p) (base + size u.block) us (λ q i. h q (Memᴰ.tail i)))

    nth-next : (u : Use) (us : List Use) (n : ℕ) → nth_use (u ∷ us) (suc (suc n)) ≡ nth_use us (suc n)
    unfolding nth_use
    nth-next u us n =
        let e : suc (suc n) - 1 ≡ suc n = omega arith in
        let f : suc n - 1 ≡ n = omega arith in
        rw (e, f) refl

    -- The n-th copy from here, which has v.
    uses-one : (v p base n : ℕ) (us : List Use) → n < length us
        → Inside size (record { of = nth_use us (suc n); base = base + sum_over size (take n us) }) v
        → ((q : Part) → Memᴰ q (parts_from size base us) → (Inside size q v → ⊥) → from-part q ≡ [])
        → from-uses p base us ≡ map (step_into (p + n)) (from-part (record { of = nth_use us (suc n); base = base + sum_over size (take n us) }))
    unfolding parts_from nth_use sum_over
    uses-one v p base n [] l i h = absurd (omega arith)
    uses-one v p base zero (u ∷ us) l i h =
        let b : base + 0 ≡ base = omega arith in
        let z : p + 0 ≡ p = omega arith in
        rw (b, z)
        (uses-next p base u us
        ∙ ap (λ (os : List Origin). map (step_into p) (from-part (record { of = u; base = base })) ++ os)
        (uses-none (suc p) (base + size u.block) us
        (λ q j. h q (Memᴰ.tail j) (λ k. omega (arith, i, k, parts_from-range size (base + size u.block) us q j))))
        ∙ append-none (map (step_into p) (from-part (record { of = u; base = base }))))
      where
        append-none : (os : List Origin) → os ++ [] ≡ os
        append-none [] = refl
        append-none (o ∷ os) = ap (λ (xs : List Origin). o ∷ xs) (append-none os)
    uses-one v p base (suc n) (u ∷ us) l i h =
        let b : base + (size u.block + sum_over size (take n us)) ≡ base + size u.block + sum_over size (take n us) = omega arith in
        let z : p + suc n ≡ suc p + n = omega arith in
        rw (z, b, nth-next u us n)
        (uses-next p base u us
        ∙ ap (λ (os : List Origin). map (step_into p) os ++ from-uses (suc p) (base + size u.block) us)
        (h (record { of = u; base = base }) (Memᴰ.head refl) (λ k. omega (arith, i, k)))
        ∙ uses-one v (suc p) (base + size u.block) n us (omega arith) (rw (b, nth-next u us n) at i) (λ q j. h q (Memᴰ.tail j)))

-- In a sound copy of block k.
module _ (opening : ℕ → ℕ) (bs : List Block) (k base : ℕ) (met : List ℕ) (g : Sound (copy_of bs k base met)) (s t : ℕ) where
  abbrev z : Copy
  z = copy_of bs k base met

  abbrev pub own-origins : List Origin
  own-origins = origins s t (own-traced opening k z)

  abbrev pub parts-origins : List Origin
  parts-origins = origins s t (parts-traced opening z)

  abbrev pub part-origins : Part → List Origin
  part-origins q = origins s t (traced opening bs q.of.block q.base (meets z q))

  -- The links from s to t come from its own rows and from its parts.
  pub copy-origins : origins s t (traced opening bs k base met) ≡ own-origins ++ parts-origins
  copy-origins = ap (origins s t) (traced-at opening bs g.good k base met) ∙ origins-append s t (own-traced opening k z) (parts-traced opening z)

  abbrev pub Either : ℕ → Type 0
  Either v = (v ≡ s) ⊎ (v ≡ t)

  joins-either : (v : ℕ) (l : Link) → Either v → Joins s t l → (l.from ≡ v) ⊎ (l.to ≡ v)
  joins-either v l (inl e) h = inl (h.0 ∙ sym e)
  joins-either v l (inr e) h = inr (h.1 ∙ sym e)

  -- None comes from a part that one of them is not within.
  part_free : (q : Part) → IsPart z q → (v : ℕ) → (Within q.base (size z q) (meets z q) v → ⊥) → Either v → part-origins q ≡ []
  part_free q i v n e =
      origins-none s t (traced opening bs q.of.block q.base (meets z q))
      (λ l j h. ends l (links-within bs g.good q.of.block q.base (meets z q) (arity g.fit q i) l (rw (traced-links opening bs q.of.block q.base (meets z q)) at j)) (joins-either v l e h))
    where
      ends : (l : Link) → Within q.base (size z q) (meets z q) l.from × Within q.base (size z q) (meets z q) l.to
          → (l.from ≡ v) ⊎ (l.to ≡ v) → ⊥
      ends l w (inl f) = n (rw f at w.0)
      ends l w (inr f) = n (rw f at w.1)

  -- So none from a part that does not meet the cue x of the block, where s or t is its number.
  pub part-unmet : (q : Part) → IsPart z q → (x : ℕ) → Cue z.block x → (Memᴰ x q.of.at → ⊥) → Either (number z x) → part-origins q ≡ []
  part-unmet q i x c n e = part_free q i (number z x) within e
    where
      within : Within q.base (size z q) (meets z q) (number z x) → ⊥
      within (inner a b) = not-inside g q (number z x) i (number-own g.fit x c) (a, b)
      within (join m) =
          let (d, j, f) = map-mem (number z) (number z x) q.of.at m in
          let h : x ≡ d = number-apart g x d c ((part-use g.fit q i).cues d j) f in
          n (rw h j)

  -- Where s or t is a number of the p-th part, all come from there.
  module _ (p v : ℕ) (low : 1 ≤ p) (high : p ≤ length z.block.uses) (there : InCopy (part-copy z (part_at z p)) v) (e : Either v) where
    i : IsPart z (part_at z p)
    i = part-at_part z p low high

    in_part : Inside (total bs) (part_at z p) v
    in_part = omega (arith, there, part-total g (part_at z p) i)

    own-free : own-origins ≡ []
    own-free =
        origins-none s t (own-traced opening k z)
        (λ l j h. ends l (own-own g.fit l (rw (rows-links (number z) (suc (opening k)) z.block.links) at j)) (joins-either v l e h))
      where
        ends : (l : Link) → Own z l.from × Own z l.to → (l.from ≡ v) ⊎ (l.to ≡ v) → ⊥
        ends l w (inl f) = not-inside g (part_at z p) v i (rw f at w.0) in_part
        ends l w (inr f) = not-inside g (part_at z p) v i (rw f at w.1) in_part

    others : (q : Part) → IsPart z q → (Inside (total bs) q v → ⊥) → part-origins q ≡ []
    others q j n = part_free q j v within e
      where
        within : Within q.base (size z q) (meets z q) v → ⊥
        within (inner a b) = n (a, b)
        within (join m) = not-inside g (part_at z p) v i (meets-own g.fit q j v m) in_part

    pub only_part : origins s t (traced opening bs k base met) ≡ map (step_into p) (part-origins (part_at z p))
    unfolding nth_use
    only_part =
        let n : suc (p - 1) ≡ p = omega arith in
        let m : 1 + (p - 1) ≡ p = omega arith in
        copy-origins
        ∙ ap₂ ◌++◌ own-free
        (rw (m, n) at (uses-one s t (total bs) (traced opening bs) (number z) v 1 (base + z.block.own) (p - 1) z.block.uses (omega arith)
        (rw n in_part) others))
