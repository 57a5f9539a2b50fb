-- Members and places of mapped lists and of ranges of numbers.
use Prim.Native.Nat.{ℕ, zero, suc, ◌+◌, ◌≤◌, ◌<◌}
use native.Mathlib.Omega.{arith}
use native.Mathlib.Nat.{add-zero}
use native.Mathlib.Decide.{dec_lt}
use mathlib.Core.Path.{◌≡◌, refl, sym, ◌∙◌, ap, ap₂}
use mathlib.Core.Bool.{Bool, true, false, false≢true}
use mathlib.Core.Logic.{◌⊎◌, inl, inr}
use mathlib.Core.List.Memᴰ
use mathlib.Core.List.{List, [], ◌∷◌, ◌++◌, map, flat_map, append_assoc, Memᴰ}
use lib.ListN.{length, get_or}
use borrow.Author.Tests.{eq-eqb}
use Rattle.model.specs.Choice.{if_eq, if_true}
use Rattle.model.specs.Rules.{every, differs, distinct}
use Rattle.model.specs.Lists.{range}
use Rattle.basics.specs.Members.{Apart}

-- What stands at a place of a list is one of its members.
pub get_d_mem : (xs : List ℕ) (i : ℕ) → i < length xs → Memᴰ (get_or xs i 0) xs
get_d_mem [] i h = absurd (omega arith)
get_d_mem (x ∷ xs) zero h = Memᴰ.head refl
get_d_mem (x ∷ xs) (suc i) h = Memᴰ.tail (get_d_mem xs i (omega arith))

-- And every member stands at some place.
pub mem_at : (v : ℕ) {xs : List ℕ} → Memᴰ v xs → (i : ℕ) × (i < length xs) × (get_or xs i 0 ≡ v)
mem_at v (Memᴰ.head {x = x} {xs = xs} e) = (0, omega arith, sym e)
mem_at v (Memᴰ.tail {x = x} {xs = xs} i) = let (j, h, e) = mem_at v i in (suc j, omega arith, e)

-- The members of a mapped list are the images of the members.
pub map-mem : {A B : Type 0} (f : A → B) (y : B) (xs : List A) → Memᴰ y (map f xs) → (x : A) × Memᴰ x xs × (y ≡ f x)
map-mem f y [] i = absurd (Memᴰ.not-nil i)
map-mem {A} {B} f y (x ∷ xs) i = go (λ j. map-mem f y xs j) (Memᴰ.cases_cons i)
  where
    go : (Memᴰ y (map f xs) → (z : A) × Memᴰ z xs × (y ≡ f z)) → (y ≡ f x) ⊎ Memᴰ y (map f xs)
        → (z : A) × Memᴰ z (x ∷ xs) × (y ≡ f z)
    go below (inl e) = (x, Memᴰ.head refl, e)
    go below (inr j) = let (z, k, e) = below j in (z, Memᴰ.tail k, e)

pub mem_map : {A B : Type 0} (f : A → B) {x : A} {xs : List A} → Memᴰ x xs → Memᴰ (f x) (map f xs)
mem_map f (Memᴰ.head e) = Memᴰ.head (ap f e)
mem_map f (Memᴰ.tail i) = Memᴰ.tail (mem_map f i)

-- Two functions that agree on the members map a list alike.
pub map_same : {A B : Type 0} (f g : A → B) (xs : List A) → ((x : A) → Memᴰ x xs → f x ≡ g x) → map f xs ≡ map g xs
map_same f g [] h = refl
map_same f g (x ∷ xs) h = ap₂ ◌∷◌ (h x (Memᴰ.head refl)) (map_same f g xs (λ y i. h y (Memᴰ.tail i)))

-- The lists of two lists in a row.
pub flat_append : {A B : Type 0} (f : A → List B) (xs ys : List A) → flat_map f (xs ++ ys) ≡ flat_map f xs ++ flat_map f ys
unfolding flat_map
flat_append f [] ys = refl
flat_append f (x ∷ xs) ys = ap (λ zs. f x ++ zs) (flat_append f xs ys) ∙ sym (append_assoc (f x) (flat_map f xs) (flat_map f ys))

-- The members of such lists.
pub flat_mem : {A B : Type 0} (f : A → List B) (y : B) (xs : List A) → Memᴰ y (flat_map f xs) → (x : A) × Memᴰ x xs × Memᴰ y (f x)
unfolding flat_map
flat_mem f y [] i = absurd (Memᴰ.not-nil i)
flat_mem {A} {B} f y (x ∷ xs) i = go (λ j. flat_mem f y xs j) (Memᴰ.append_cases (f x) i)
  where
    go : (Memᴰ y (flat_map f xs) → (z : A) × Memᴰ z xs × Memᴰ y (f z)) → Memᴰ y (f x) ⊎ Memᴰ y (flat_map f xs)
        → (z : A) × Memᴰ z (x ∷ xs) × Memᴰ y (f z)
    go below (inl j) = (x, Memᴰ.head refl, j)
    go below (inr j) = let (z, k, m) = below j in (z, Memᴰ.tail k, m)

pub mem_flat : {A B : Type 0} (f : A → List B) {x : A} {y : B} {xs : List A} → Memᴰ x xs → Memᴰ y (f x) → Memᴰ y (flat_map f xs)
unfolding flat_map
mem_flat f {xs = []} i j = elim i [ ]
mem_flat f {xs = z ∷ zs} (Memᴰ.head e) j = Memᴰ.append_left (flat_map f zs) (rw e at j)
mem_flat f {xs = z ∷ zs} (Memᴰ.tail i) j = Memᴰ.append_right (f z) (mem_flat f i j)

-- A place of a mapped list, inside it.
pub get_d_map_in : (f : ℕ → ℕ) (xs : List ℕ) (i : ℕ) → i < length xs → get_or (map f xs) i 0 ≡ f (get_or xs i 0)
get_d_map_in f [] i h = absurd (omega arith)
get_d_map_in f (x ∷ xs) zero h = refl
get_d_map_in f (x ∷ xs) (suc i) h = get_d_map_in f xs i (omega arith)

-- A range: how long it is, what stands at a place, and which numbers it has.
pub range_length : (n many : ℕ) → length (range n many) ≡ many
unfolding range
range_length n zero = refl
range_length n (suc many) = ap suc (range_length (suc n) many)

pub range_at : (n many i : ℕ) → i < many → get_or (range n many) i 0 ≡ n + i
unfolding range
range_at n zero i h = absurd (omega arith)
range_at n (suc many) zero h = omega arith
range_at n (suc many) (suc i) h = omega (arith, range_at (suc n) many i (omega arith))

pub range-bounds : (n many v : ℕ) → Memᴰ v (range n many) → (n ≤ v) × (v < n + many)
unfolding range
range-bounds n zero v i = absurd (Memᴰ.not-nil i)
range-bounds n (suc many) v i = go (λ j. range-bounds (suc n) many v j) (Memᴰ.cases_cons i)
  where
    go : (Memᴰ v (range (suc n) many) → (suc n ≤ v) × (v < suc n + many)) → (v ≡ n) ⊎ Memᴰ v (range (suc n) many)
        → (n ≤ v) × (v < n + suc many)
    go below (inl e) = omega arith
    go below (inr j) = omega (arith, below j)

pub range-mem : (n many v : ℕ) → n ≤ v → v < n + many → Memᴰ v (range n many)
unfolding range
range-mem n zero v x y = absurd (omega arith)
range-mem n (suc many) v x y = go (λ h. range-mem (suc n) many v h (omega arith)) (dec_lt n v)
  where
    go : (suc n ≤ v → Memᴰ v (range (suc n) many)) → Dec (n < v) → Memᴰ v (range n (suc many))
    go below (yes h) = Memᴰ.tail (below (omega arith))
    go below (no h) = Memᴰ.head {x = n} (omega arith)

-- A list is the image of a range under a function that reads it.
pub range-map : (f : ℕ → ℕ) (n : ℕ) (xs : List ℕ) → ((i : ℕ) → i < length xs → f (n + i) ≡ get_or xs i 0) → map f (range n (length xs)) ≡ xs
unfolding range
range-map f n [] h = refl
range-map f n (x ∷ xs) h = ap₂ ◌∷◌ (rw add-zero at (h 0 (omega arith))) (range-map f (suc n) xs (λ i l. at i l))
  where
    at : (i : ℕ) → i < length xs → f (suc n + i) ≡ get_or xs i 0
    at i l = let e : suc n + i ≡ n + suc i = omega arith in rw e (h (suc i) (omega arith))

-- Every member passes a test that every one passes.
pub every-mem : (test : ℕ → Bool) (xs : List ℕ) → every test xs ≡ true → (y : ℕ) → Memᴰ y xs → test y ≡ true
unfolding every if_true
every-mem test [] h y i = absurd (Memᴰ.not-nil i)
every-mem test (x ∷ xs) h y i = go (λ h j. every-mem test xs h y j) (test x) refl (Memᴰ.cases_cons i)
  where
    go : (every test xs ≡ true → Memᴰ y xs → test y ≡ true) → (b : Bool) → test x ≡ b → (y ≡ x) ⊎ Memᴰ y xs → test y ≡ true
    go below true e (inl p) = rw p e
    go below true e (inr j) = below (rw (e, every) at h) j
    go below false e j = absurd (false≢true (rw (e, every) at h))

differs-not : (x y : ℕ) → differs x y ≡ true → x ≡ y → ⊥
unfolding differs if_eq
differs-not x y h e = false≢true (rw (eq-eqb x y e) at h)

pub distinct_apart : (xs : List ℕ) → distinct xs ≡ true → Apart xs
unfolding distinct if_true
distinct_apart [] h i j a b e = absurd (omega arith)
distinct_apart (x ∷ xs) h i j a b e = go (λ h. distinct_apart xs h) (every (differs x) xs) refl i j a b e
  where
    go : (distinct xs ≡ true → Apart xs) → (t : Bool) → every (differs x) xs ≡ t → Apart (x ∷ xs)
    go below false q i j a b e = absurd (false≢true (rw (q, distinct) at h))
    go below true q zero zero a b e = refl
    go below true q zero (suc j) a b e =
        absurd (differs-not x (get_or xs j 0) (every-mem (differs x) xs q (get_or xs j 0) (get_d_mem xs j (omega arith))) e)
    go below true q (suc i) zero a b e =
        absurd (differs-not x (get_or xs i 0) (every-mem (differs x) xs q (get_or xs i 0) (get_d_mem xs i (omega arith))) (sym e))
    go below true q (suc i) (suc j) a b e = ap suc (below (rw (q, distinct) at h) i j (omega arith) (omega arith) e)

pub range-apart : (n many : ℕ) → Apart (range n many)
range-apart n many i j a b e =
    let l : length (range n many) ≡ many = range_length n many in
    omega (arith, range_at n many i (omega arith), range_at n many j (omega arith))
