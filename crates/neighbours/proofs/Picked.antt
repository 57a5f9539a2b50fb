-- Laws of the links that a question picks, and of the lists of the cues that they lead to.
use Prim.Native.Nat.{ℕ, suc, ◌+◌, ◌≤◌, ◌<◌}
use native.Mathlib.Omega.{arith}
use native.Mathlib.Decide.{ℕ_discrete, dec_lt}
use mathlib.Core.Path.{◌≡◌, refl, sym, ◌∙◌, ap}
use mathlib.Core.Logic.{◌↔◌, ◌⊎◌, inl, inr}
use mathlib.Core.Bool.{Bool, true, false, true≢false, false≢true}
use mathlib.Core.List.Memᴰ
use mathlib.Core.List.{List, [], ◌∷◌, ◌++◌, append-nil, Memᴰ}
use lib.Dec.{leb}
use Rattle.std.proofs.lemmas.Bool.{le-leb, lt-leb}
use Rattle.model.specs.Choice.{if_lt, if_true}
use Rattle.model.specs.Blocks.{Link}
use Rattle.model.specs.Unfolding.{renamed}
use Rattle.model.specs.Lists.{range, keep}
use Rattle.basics.proofs.Choices.{eq_then, eq_else, true_then, true_else, lt_then, lt_else}
use Rattle.basics.proofs.Keeping.{keep-yes, keep_append, keep-none, keep_same, range-append}
use Rattle.neighbours.specs.declared.Ask.{Ask}
use Rattle.neighbours.specs.Picks.{near_end, here, there, fits, picks, Picked, wants, wanted}

-- The test of a label, by its first half and by its second.
module _ (q : Ask) (label : ℕ) where
  pub fits-below : label < q.lo → leb q.lo label ≡ fits q label
  unfolding fits
  fits-below h = lt-leb q.lo label h ∙ sym (lt_then label q.lo false _ h)

  pub fits-above : q.lo ≤ label → leb label q.hi ≡ fits q label
  unfolding fits
  fits-above h = go (dec_lt q.hi label) ∙ sym (lt_else label q.lo false _ h)
    where
      go : Dec (q.hi < label) → leb label q.hi ≡ if_lt q.hi label false true
      go (yes l) = lt-leb label q.hi l ∙ sym (lt_then q.hi label false true l)
      go (no n) = le-leb label q.hi (omega arith) ∙ sym (lt_else q.hi label false true (omega arith))

-- The two ends of a link are its from and its to.
module _ (q : Ask) (l : Link) (P : ℕ → Type 0) where
  pub ends-here : P (here q l) → P l.from ⊎ P l.to
  unfolding near_end if_true
  ends-here = go q.inward refl
    where
      go : (b : Bool) → q.inward ≡ b → P (here q l) → P l.from ⊎ P l.to
      go true e h = inr (rw (e, near_end) at h)
      go false e h = inl (rw (e, near_end) at h)

  pub ends_there : P (there q l) → P l.from ⊎ P l.to
  unfolding near_end if_true
  ends_there = go q.inward refl
    where
      go : (b : Bool) → q.inward ≡ b → P (there q l) → P l.from ⊎ P l.to
      go true e h = inl (rw (e, near_end) at h)
      go false e h = inr (rw (e, near_end) at h)

  pub both_ends : P l.from × P l.to → P (here q l) × P (there q l)
  unfolding near_end if_true
  both_ends (x, y) = go q.inward refl
    where
      go : (b : Bool) → q.inward ≡ b → P (here q l) × P (there q l)
      go true e = rw (e, near_end) (y, x)
      go false e = rw (e, near_end) (x, y)

pub here-renamed : (q : Ask) (f : ℕ → ℕ) (l : Link) → here q (renamed f l) ≡ f (here q l)
unfolding near_end renamed if_true
here-renamed q f l = go q.inward refl
  where
    go : (b : Bool) → q.inward ≡ b → here q (renamed f l) ≡ f (here q l)
    go true e = rw (e, near_end)
    go false e = rw (e, near_end)

pub there-renamed : (q : Ask) (f : ℕ → ℕ) (l : Link) → there q (renamed f l) ≡ f (there q l)
unfolding near_end renamed if_true
there-renamed q f l = go q.inward refl
  where
    go : (b : Bool) → q.inward ≡ b → there q (renamed f l) ≡ f (there q l)
    go true e = rw (e, near_end)
    go false e = rw (e, near_end)

-- The test finds just the links that are picked.
module _ (q : Ask) (v u : ℕ) where
  picks-hit : (l : Link) (E : List Link) → fits q l.label ≡ true → here q l ≡ v → there q l ≡ u → picks q (l ∷ E) v u ≡ true
  unfolding picks
  picks-hit l E a b c = true_then (fits q l.label) _ _ a ∙ eq_then _ _ _ _ b ∙ eq_then _ _ _ _ c

  picks-miss : (l : Link) (E : List Link) → (fits q l.label ≡ true → here q l ≡ v → there q l ≡ u → ⊥) → picks q (l ∷ E) v u ≡ picks q E v u
  unfolding picks
  picks-miss l E n = go (fits q l.label) refl (ℕ_discrete (here q l) v) (ℕ_discrete (there q l) u)
    where
      go : (t : Bool) → fits q l.label ≡ t → Dec (here q l ≡ v) → Dec (there q l ≡ u) → picks q (l ∷ E) v u ≡ picks q E v u
      go true a (yes b) (yes c) = absurd (n a b c)
      go true a (yes b) (no c) = true_then (fits q l.label) _ _ a ∙ eq_then _ _ _ _ b ∙ eq_else _ _ _ _ c
      go true a (no b) d = true_then (fits q l.label) _ _ a ∙ eq_else _ _ _ _ b
      go false a d e = true_else (fits q l.label) _ _ a

  later : (l : Link) (E : List Link) → Picked q E v u → Picked q (l ∷ E) v u
  later l E p = record { link = p.link; member = Memᴰ.tail p.member; label = p.label; from = p.from; to = p.to }

  pub picked : (E : List Link) → (picks q E v u ≡ true) ↔ Picked q E v u
  unfolding picks
  picked [] = (λ e. absurd (false≢true e), λ p. absurd (Memᴰ.not-nil p.member))
  picked (l ∷ E) = go (picked E) (fits q l.label) refl (ℕ_discrete (here q l) v) (ℕ_discrete (there q l) u)
    where
      Here : Type 0
      Here = (picks q (l ∷ E) v u ≡ true) ↔ Picked q (l ∷ E) v u

      miss : (picks q E v u ≡ true) ↔ Picked q E v u → (fits q l.label ≡ true → here q l ≡ v → there q l ≡ u → ⊥) → Here
      miss below n = (
        λ e. later l E (below.0 (sym (picks-miss l E n) ∙ e)),
        λ p. picks-miss l E n ∙ below.1 (earlier p (Memᴰ.cases_cons p.member)),
      )
        where
          earlier : (p : Picked q (l ∷ E) v u) → (p.link ≡ l) ⊎ Memᴰ p.link E → Picked q E v u
          earlier p (inl e) = absurd (n (rw e at p.label) (rw e at p.from) (rw e at p.to))
          earlier p (inr i) = record { link = p.link; member = i; label = p.label; from = p.from; to = p.to }

      go : (picks q E v u ≡ true) ↔ Picked q E v u → (t : Bool) → fits q l.label ≡ t → Dec (here q l ≡ v) → Dec (there q l ≡ u) → Here
      go below true a (yes b) (yes c) = (
        λ e. record { link = l; member = Memᴰ.head refl; label = a; from = b; to = c },
        λ p. picks-hit l E a b c,
      )
      go below true a (yes b) (no c) = miss below (λ x y z. c z)
      go below true a (no b) d = miss below (λ x y z. b y)
      go below false a d e = miss below (λ x y z. true≢false (sym x ∙ a))

  -- Two lists that pick alike.
  pub picks-same : (E F : List Link) → (Picked q E v u → Picked q F v u) → (Picked q F v u → Picked q E v u) → picks q E v u ≡ picks q F v u
  picks-same E F to from = go (picks q E v u) refl (picks q F v u) refl
    where
      go : (a : Bool) → picks q E v u ≡ a → (b : Bool) → picks q F v u ≡ b → picks q E v u ≡ picks q F v u
      go true x true y = x ∙ sym y
      go false x false y = x ∙ sym y
      go true x false y = absurd (true≢false (sym ((picked F).1 (to ((picked E).0 x))) ∙ y))
      go false x true y = absurd (true≢false (sym ((picked E).1 (from ((picked F).0 y))) ∙ x))

  pub picks-none : (E : List Link) → (Picked q E v u → ⊥) → picks q E v u ≡ false
  picks-none E n = go (picks q E v u) refl
    where
      go : (a : Bool) → picks q E v u ≡ a → picks q E v u ≡ false
      go true x = absurd (n ((picked E).0 x))
      go false x = x

  pub wants-same : (E F : List Link) → (Picked q E v u → Picked q F v u) → (Picked q F v u → Picked q E v u) → wants q E v u ≡ wants q F v u
  unfolding wants
  wants-same E F to from = ap (λ (t : Bool). if_lt q.after u t false) (picks-same E F to from)

  pub wants-none : (E : List Link) → (Picked q E v u → ⊥) → wants q E v u ≡ false
  unfolding wants
  wants-none E n = rw (picks-none E n) (same (dec_lt q.after u))
    where
      same : Dec (q.after < u) → if_lt q.after u false false ≡ false
      same (yes h) = lt_then _ _ _ _ h
      same (no h) = lt_else _ _ _ _ (omega arith)

  pub wants-low : (E : List Link) → u ≤ q.after → wants q E v u ≡ false
  unfolding wants
  wants-low E h = lt_else _ _ _ _ h

  pub wants-hit : (E : List Link) → q.after < u → Picked q E v u → wants q E v u ≡ true
  unfolding wants
  wants-hit E h p = lt_then _ _ _ _ h ∙ (picked E).1 p

-- The cues asked for in two ranges that follow each other; in one where none is picked or all are
-- too low; of links that pick alike there.
module _ (q : Ask) (v : ℕ) where
  pub wanted-append : (E : List Link) (base m n : ℕ) → wanted q E v base (m + n) ≡ wanted q E v base m ++ wanted q E v (base + m) n
  unfolding wanted
  wanted-append E base m n =
      let e : suc base + m ≡ suc (base + m) = omega arith in
      ap (keep (wants q E v)) (rw e at (range-append (suc base) m n)) ∙ keep_append (wants q E v) (range (suc base) m) (range (suc (base + m)) n)

  pub wanted-none : (E : List Link) (base size : ℕ) → ((u : ℕ) → base < u → u ≤ base + size → Picked q E v u → ⊥) → wanted q E v base size ≡ []
  unfolding wanted
  wanted-none E base size n = keep-none (wants q E v) (suc base) size (λ u x y. wants-none q v u E (n u (omega arith) (omega arith)))

  pub wanted-low : (E : List Link) (base size : ℕ) → base + size ≤ q.after → wanted q E v base size ≡ []
  unfolding wanted
  wanted-low E base size h = keep-none (wants q E v) (suc base) size (λ u x y. wants-low q v u E (omega arith))

  pub wanted-same : (E F : List Link) (base size : ℕ) → ((u : ℕ) → base < u → u ≤ base + size → Picked q E v u → Picked q F v u)
      → ((u : ℕ) → base < u → u ≤ base + size → Picked q F v u → Picked q E v u) → wanted q E v base size ≡ wanted q F v base size
  unfolding wanted
  wanted-same E F base size to from =
      keep_same (wants q E v) (wants q F v) (suc base) size
      (λ u x y. wants-same q v u E F (to u (omega arith) (omega arith)) (from u (omega arith) (omega arith)))

  -- One number more.
  wanted-next : (E : List Link) (base d : ℕ) → wanted q E v base (suc d) ≡ wanted q E v base d ++ wanted q E v (base + d) 1
  wanted-next E base d = let e : d + 1 ≡ suc d = omega arith in rw e at (wanted-append E base d 1)

  pub wanted-yes : (E : List Link) (base d : ℕ) → q.after < base + suc d → Picked q E v (base + suc d)
      → wanted q E v base (suc d) ≡ wanted q E v base d ++ (base + suc d) ∷ []
  unfolding wanted keep range
  wanted-yes E base d h p = wanted-next E base d ∙ ap (λ zs. wanted q E v base d ++ zs) one
    where
      f : suc (base + d) ≡ base + suc d
      f = omega arith

      one : wanted q E v (base + d) 1 ≡ (base + suc d) ∷ []
      one = rw f (keep-yes (wants q E v) (base + suc d) [] (wants-hit q v (base + suc d) E h p))

  pub wanted-not : (E : List Link) (base d : ℕ) → (Picked q E v (base + suc d) → ⊥) → wanted q E v base (suc d) ≡ wanted q E v base d
  wanted-not E base d n =
      wanted-next E base d
      ∙ ap (λ zs. wanted q E v base d ++ zs)
      (wanted-none E (base + d) 1 (λ u x y p. n (let e : u ≡ base + suc d = omega arith in rw e at p)))
      ∙ append-nil (wanted q E v base d)

  pub wanted-under : (E : List Link) (base d : ℕ) → base + suc d ≤ q.after → wanted q E v base (suc d) ≡ wanted q E v base d
  wanted-under E base d h =
      wanted-next E base d ∙ ap (λ zs. wanted q E v base d ++ zs) (wanted-low E (base + d) 1 (omega arith)) ∙ append-nil (wanted q E v base d)

  pub wanted-nil : (E : List Link) (base : ℕ) → wanted q E v base 0 ≡ []
  unfolding wanted keep range
  wanted-nil E base = refl
