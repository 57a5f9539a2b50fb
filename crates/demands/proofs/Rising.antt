-- Rising lists: cut in two, laid one behind the other, their last number, and how many numbers they have.
use Prim.Native.Nat.{ℕ, ◌+◌, ◌-◌, ◌≤◌, ◌<◌}
use native.Mathlib.Omega.{arith}
use native.Mathlib.Decide.{dec_lt}
use mathlib.Core.Path.{◌≡◌, refl}
use mathlib.Core.Logic.{◌⊎◌, inl, inr}
use mathlib.Core.List.{List, [], ◌∷◌, ◌++◌}
use mathlib.Core.List.{Memᴰ}
use lib.ListN.{length, get_or}
use Rattle.basics.proofs.Members.{mem_at}
use Rattle.shows.specs.Lists.{Rising, none, more}
use Rattle.shows.proofs.Lists.{rising-at}

-- All of one list is less than all of another.
abbrev AllBelow : List ℕ → List ℕ → Type 0
AllBelow s t = (w u : ℕ) → Memᴰ w s → Memᴰ u t → w < u

-- Both parts of a rising list rise, and all of the first is less than all of the second.
pub record Parts (s t : List ℕ) : Type 0 where
  pub first : Rising s
  pub below : AllBelow s t

pub rising-parts : (s t : List ℕ) → Rising (s ++ t) → Parts s t
rising-parts [] t r = record { first = none; below = λ w u i j. absurd (mathlib.Core.List.Memᴰ.not-nil i) }
rising-parts (x ∷ s) t (more low r) = go (rising-parts s t r)
  where
    go : Parts s t → Parts (x ∷ s) t
    go p =
        record {
          first = more (λ y i. low y (mathlib.Core.List.Memᴰ.append_left t i)) p.first;
          below = λ w u i j. at w u j (mathlib.Core.List.Memᴰ.cases_cons i);
        }
      where
        at : (w u : ℕ) → Memᴰ u t → (w ≡ x) ⊎ Memᴰ w s → w < u
        at w u j (inl e) = omega (arith, low u (mathlib.Core.List.Memᴰ.append_right s j))
        at w u j (inr i) = p.below w u i j

-- Such parts make a rising list.
pub rising-append : {s t : List ℕ} → Rising s → Rising t → AllBelow s t → Rising (s ++ t)
rising-append none r h = r
rising-append {t = t} (more {x} {xs} low q) r h =
    more (λ y i. at y (mathlib.Core.List.Memᴰ.append_cases xs i)) (rising-append q r (λ w u i j. h w u (mathlib.Core.List.Memᴰ.tail i) j))
  where
    at : (y : ℕ) → Memᴰ y xs ⊎ Memᴰ y t → x < y
    at y (inl i) = low y i
    at y (inr j) = h x y (mathlib.Core.List.Memᴰ.head refl) j

-- None of a rising list is greater than its last.
pub rising-last : (xs : List ℕ) → Rising xs → (w : ℕ) → Memᴰ w xs → w ≤ get_or xs (length xs - 1) 0
rising-last xs r w i = let (j, h, e) = mem_at w i in go j h e (dec_lt j (length xs - 1))
  where
    go : (j : ℕ) → j < length xs → get_or xs j 0 ≡ w → Dec (j < length xs - 1) → w ≤ get_or xs (length xs - 1) 0
    go j h e (yes k) = omega (arith, rising-at r j (length xs - 1) k (omega arith))
    go j h e (no k) = let f : length xs - 1 ≡ j = omega arith in rw (f, e) (omega arith)

-- A number greater than all of a list is not in it.
pub not_in : (u : ℕ) (xs : List ℕ) → ((w : ℕ) → Memᴰ w xs → w < u) → Memᴰ u xs → ⊥
not_in u xs h i = omega (arith, h u i)

-- A rising list of numbers from n + 1 up to some most has no more of them than lie between.
pub rising-few : (n most : ℕ) {xs : List ℕ} → Rising xs → ((y : ℕ) → Memᴰ y xs → n < y) → ((y : ℕ) → Memᴰ y xs → y ≤ most)
    → n ≤ most → n + length xs ≤ most
rising-few n most none low high h = omega arith
rising-few n most (more {x} {xs} above r) low high h =
    let first : Memᴰ x (x ∷ xs) = mathlib.Core.List.Memᴰ.head refl in
    omega (arith, low x first, rising-few x most r above (λ y i. high y (mathlib.Core.List.Memᴰ.tail i)) (high x first))
