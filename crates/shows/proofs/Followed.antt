-- Which links a chain may have: those of labels up to 254, and no others.
use Prim.Native.Nat.{◌≤◌}
use native.Mathlib.Omega.{arith}
use native.Mathlib.Decide.{dec_le}
use mathlib.Core.Path.{◌≡◌, refl, ◌∙◌, ap}
use mathlib.Core.Logic.{◌⊎◌, inl, inr}
use mathlib.Core.List.Memᴰ
use mathlib.Core.List.{List, [], ◌∷◌, Memᴰ}
use Rattle.basics.proofs.Choices.{lt_then, lt_else}
use Rattle.model.specs.Limits.{max_followed}
use Rattle.model.specs.Blocks.{Link}
use Rattle.model.specs.Chains.{followed}

-- A link at the head that is followed, and one that isn't.
followed-on : (l : Link) (E : List Link) → l.label ≤ max_followed → followed (l ∷ E) ≡ l ∷ followed E
unfolding followed
followed-on l E h = lt_else max_followed l.label (followed E) (l ∷ followed E) h

followed-past : (l : Link) (E : List Link) → (l.label ≤ max_followed → ⊥) → followed (l ∷ E) ≡ followed E
unfolding followed
followed-past l E h = lt_then max_followed l.label (followed E) (l ∷ followed E) (omega arith)

-- What is followed is one of the links and no note.
pub followed-is : (E : List Link) (l : Link) → Memᴰ l (followed E) → Memᴰ l E × (l.label ≤ max_followed)
unfolding followed
followed-is [] l i = absurd (Memᴰ.not-nil i)
followed-is (k ∷ E) l i = go (λ j. followed-is E l j) (dec_le k.label max_followed)
  where
    go : (Memᴰ l (followed E) → Memᴰ l E × (l.label ≤ max_followed)) → Dec (k.label ≤ max_followed)
        → Memᴰ l (k ∷ E) × (l.label ≤ max_followed)
    go below (yes h) = at (Memᴰ.cases_cons (rw (followed-on k E h) at i))
      where
        at : (l ≡ k) ⊎ Memᴰ l (followed E) → Memᴰ l (k ∷ E) × (l.label ≤ max_followed)
        at (inl e) = (Memᴰ.head e, (rw e h))
        at (inr j) = let (m, h) = below j in (Memᴰ.tail m, h)
    go below (no h) = let (m, g) = below (rw (followed-past k E h) at i) in (Memᴰ.tail m, g)

-- And each link that is no note is followed.
pub followed-has : (E : List Link) (l : Link) → Memᴰ l E → l.label ≤ max_followed → Memᴰ l (followed E)
unfolding followed
followed-has [] l i h = i
followed-has (k ∷ E) l i h = go (λ j. followed-has E l j h) (dec_le k.label max_followed) (Memᴰ.cases_cons i)
  where
    go : (Memᴰ l E → Memᴰ l (followed E)) → Dec (k.label ≤ max_followed) → (l ≡ k) ⊎ Memᴰ l E
        → Memᴰ l (followed (k ∷ E))
    go below (yes g) (inl e) = rw (followed-on k E g) (Memᴰ.head e)
    go below (yes g) (inr j) = rw (followed-on k E g) (Memᴰ.tail (below j))
    go below (no g) (inl e) = absurd (g (rw (← e) h))
    go below (no g) (inr j) = rw (followed-past k E g) (below j)

-- Where no link is a note, every link is followed.
pub followed-all : (E : List Link) → ((l : Link) → Memᴰ l E → l.label ≤ max_followed) → followed E ≡ E
unfolding followed
followed-all [] h = refl
followed-all (l ∷ E) h =
    followed-on l E (h l (Memᴰ.head refl)) ∙ ap (λ F. l ∷ F) (followed-all E (λ k i. h k (Memᴰ.tail i)))
