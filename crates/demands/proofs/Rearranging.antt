-- Lists laid one behind the other, their rearrangements, and mapped ranges.
use Prim.Native.Nat.{ℕ, zero, suc, ◌+◌, ◌<◌}
use native.Mathlib.Omega.{arith}
use native.Mathlib.Nat.{add-zero}
use mathlib.Core.Path.{◌≡◌, refl, sym, ◌∙◌, ap, ap₂}
use mathlib.Core.Logic.{◌⊎◌, inl, inr}
use mathlib.Core.List.Memᴰ
use mathlib.Core.List.Permᴰ
use mathlib.Core.List.{List, [], ◌∷◌, ◌++◌, map, flat_map, map-append, append_assoc, Permᴰ, Memᴰ}
use lib.ListN.{length, get_or}
use Rattle.model.specs.Lists.{range}
use Rattle.basics.proofs.Members.{flat_append}
use Rattle.basics.proofs.Keeping.{range-append}

-- A member of a list is its first entry or one of the others.
module _ {A : Type 0} {x a : A} {l : List A} {M : Type 0} where
  first-or : (x ≡ a → M) → (Memᴰ x l → M) → Memᴰ x (a ∷ l) → M
  first-or f g i = go (Memᴰ.cases_cons i)
    where
      go : (x ≡ a) ⊎ Memᴰ x l → M
      go (inl e) = f e
      go (inr j) = g j

-- A member of a list stands behind some of its entries and before the others.
pub mem_split : {A : Type 0} {x : A} {xs : List A} → Memᴰ x xs → (before after : List A) × (xs ≡ before ++ (x ∷ after))
mem_split (Memᴰ.head {x = y} {xs = ys} e) = ([], ys, ap (λ z. z ∷ ys) (sym e))
mem_split (Memᴰ.tail {x = y} {xs = ys} i) = let (before, after, e) = mem_split i in (y ∷ before, after, ap (λ zs. y ∷ zs) e)

-- A rearrangement has the same members.
pub perm_mem : {A : Type 0} {x : A} {xs ys : List A} → Permᴰ xs ys → Memᴰ x xs → Memᴰ x ys
perm_mem Permᴰ.nil i = i
perm_mem (Permᴰ.cons e d) i = first-or (λ p. Memᴰ.head (p ∙ e)) (λ j. Memᴰ.tail (perm_mem d j)) i
perm_mem (Permᴰ.swap e f) i =
    first-or (λ p. Memᴰ.tail (Memᴰ.head (p ∙ e)))
    (first-or (λ p. Memᴰ.head (p ∙ f)) (λ j. Memᴰ.tail (Memᴰ.tail j))) i
perm_mem (Permᴰ.trans d e) i = perm_mem e (perm_mem d i)

-- And as many.
pub perm_length : {A : Type 0} {xs ys : List A} → Permᴰ xs ys → length xs ≡ length ys
perm_length Permᴰ.nil = refl
perm_length (Permᴰ.cons e d) = ap suc (perm_length d)
perm_length (Permᴰ.swap e f) = refl
perm_length (Permᴰ.trans d e) = perm_length d ∙ perm_length e

-- Four lists in two orders.
shuffle : {B : Type 0} (own before after new : List B)
    → Permᴰ (own ++ ((before ++ after) ++ new)) (before ++ ((own ++ new) ++ after))
shuffle own before after new =
    rw (append_assoc before after new, ← append_assoc own before (after ++ new), append_assoc own new after, ← append_assoc before own (new ++ after))
    (Permᴰ.trans (Permᴰ.append_right (after ++ new) (Permᴰ.append_comm own before))
    (Permᴰ.append_left (before ++ own) (Permᴰ.append_comm after new)))

module _ {A B : Type 0} (f : A → List B) where
  -- Each thing stands for a list. One that stands for some list of its own, followed by the lists of new things, is replaced by these.
  pub replaced : (done own : List B) (before : List A) (x : A) (after new : List A) → f x ≡ own ++ flat_map f new
      → Permᴰ ((done ++ own) ++ flat_map f ((before ++ after) ++ new)) (done ++ flat_map f (before ++ (x ∷ after)))
  unfolding flat_map
  replaced done own before x after new e =
      rw (flat_append f (before ++ after) new, flat_append f before after, flat_append f before (x ∷ after), e, append_assoc done own _)
      (Permᴰ.append_left done (shuffle own (flat_map f before) (flat_map f after) (flat_map f new)))

module _ {B : Type 0} where
  -- A place of a mapped range.
  pub range-place : (f : ℕ → B) (d : B) (n many i : ℕ) → i < many → get_or (map f (range n many)) i d ≡ f (n + i)
  unfolding range
  range-place f d n zero i h = absurd (omega arith)
  range-place f d n (suc many) zero h = rw add-zero
  range-place f d n (suc many) (suc i) h =
      let e : n + suc i ≡ suc n + i = omega arith in rw e (range-place f d (suc n) many i (omega arith))

  -- Two ranges of one length, mapped alike.
  pub ranges_alike : (f g : ℕ → B) (m n many : ℕ) → ((i : ℕ) → i < many → f (m + i) ≡ g (n + i))
      → map f (range m many) ≡ map g (range n many)
  unfolding range
  ranges_alike f g m n zero h = refl
  ranges_alike f g m n (suc many) h = ap₂ ◌∷◌ (rw (add-zero m, add-zero n) at (h 0 (omega arith))) (ranges_alike f g (suc m) (suc n) many rest)
    where
      rest : (i : ℕ) → i < many → f (suc m + i) ≡ g (suc n + i)
      rest i l =
          let d : suc m + i ≡ m + suc i = omega arith in
          let e : suc n + i ≡ n + suc i = omega arith in
          rw (d, e) (h (suc i) (omega arith))

  -- A mapped range in two parts.
  pub range-parts : (f : ℕ → B) (base m n : ℕ)
      → map f (range (suc base) (m + n)) ≡ map f (range (suc base) m) ++ map f (range (suc (base + m)) n)
  range-parts f base m n =
      let e : suc (base + m) ≡ suc base + m = omega arith in
      rw e (ap (map f) (range-append (suc base) m n) ∙ map-append f (range (suc base) m) (range (suc base + m) n))
