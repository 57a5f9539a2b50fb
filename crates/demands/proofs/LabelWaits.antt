-- The wait of each label: a lawful file has no label twice, and each label waits as long as the table says that is made of the lines.
use Prim.Native.Nat.{ℕ, suc, ◌≤◌, ◌<◌}
use mathlib.Core.Path.{◌≡◌, refl, sym, ◌∙◌, ap}
use mathlib.Core.Logic.{◌⊎◌, inl, inr}
use mathlib.Core.List.Memᴰ
use mathlib.Core.List.{List, [], ◌∷◌, Memᴰ}
use native.Mathlib.Omega.{arith}
use native.Mathlib.Decide.{dec_lt, ℕ_discrete}
use lib.ListN.{length, get_or, set, replicate, length-set, length-replicate, get_or-replicate}
use lib.Seq.{get_or-set_same, get_or-set_other}
use Rattle.model.specs.Waits.{WaitTable, Unfit, waits_with, no_waits, wait_file}
use Rattle.shows.specs.SmallFiles.{this, next}
use Rattle.demands.specs.Waits.{Spells, NotAbove, LawfulWaits, Waits, lined, unlined}
use Rattle.demands.proofs.WaitTexts.{one-spelling}
use Rattle.demands.proofs.WaitLines.{Pairs, no_pair, pair, spelled_pairs}
use Rattle.demands.proofs.Waits.{Outcome, broken, outside, fallen, lawful, wait-file}

-- A label's place in the table: the wait of a line of it, or what stood there.
abbrev Line : List (List ℕ) → ℕ → ℕ → Type 0
Line vss label wait = Memᴰ (label ∷ wait ∷ []) vss

abbrev Filled : List (List ℕ) → List ℕ → ℕ → ℕ → Type 0
Filled vss ws label r = ((wait : ℕ) × Line vss label wait × (r ≡ wait)) ⊎ (((wait : ℕ) → Line vss label wait → ⊥) × (r ≡ get_or ws label 0))

filled : {vss : List (List ℕ)} → Pairs vss → (ws : List ℕ) (label : ℕ) → label < length ws → Filled vss ws label (get_or (waits_with ws vss) label 0)
unfolding waits_with
filled no_pair ws label h = inr (λ w i. Memᴰ.not-nil i, refl)
filled (pair {vss = vss} a b ps) ws label h = go (filled ps (set ws a b) label (rw (length-set ws a b) h)) (ℕ_discrete label a)
  where
    go : Filled vss (set ws a b) label (get_or (waits_with (set ws a b) vss) label 0) → Dec (label ≡ a)
        → Filled ((a ∷ b ∷ []) ∷ vss) ws label (get_or (waits_with (set ws a b) vss) label 0)
    go (inl (w, i, e)) d = inl (w, Memᴰ.tail i, e)
    go (inr (none, e)) (yes q) = inl (b, Memᴰ.head (ap (λ (l : ℕ). l ∷ b ∷ []) q), e ∙ rw q (get_or-set_same ws a b 0 (rw q at h)))
    go (inr (none, e)) (no q) = inr (away, e ∙ get_or-set_other ws a label b 0 q)
      where
        away : (wait : ℕ) → Line ((a ∷ b ∷ []) ∷ vss) label wait → ⊥
        away w i = at (Memᴰ.cases_cons i)
          where
            at : (label ∷ w ∷ [] ≡ a ∷ b ∷ []) ⊎ Line vss label w → ⊥
            at (inl e) = let u : label ≡ a = cc in q u
            at (inr j) = none w j

lines-table : (f : List ℕ) (vss : List (List ℕ)) → Spells f vss → (label : ℕ) → label ≤ 254 → Waits vss label (get_or (waits_with no_waits vss) label 0)
unfolding no_waits
lines-table f vss s label h = go (filled (spelled_pairs s.values) (replicate 255 0) label (rw (length-replicate {A = ℕ} 255 0) (omega arith)))
  where
    go : Filled vss (replicate 255 0) label (get_or (waits_with (replicate 255 0) vss) label 0)
        → Waits vss label (get_or (waits_with (replicate 255 0) vss) label 0)
    go (inl (w, i, e)) = rw e (lined i)
    go (inr (none, e)) = let z = e ∙ get_or-replicate {A = ℕ} 255 label 0 0 (omega arith) in rw z (unlined none)

-- Where labels rise, no label has two lines.
tail_rising : (v : List ℕ) (vss : List (List ℕ)) → ((n : ℕ) → NotAbove (v ∷ vss) n → ⊥) → (n : ℕ) → NotAbove vss n → ⊥
tail_rising v vss up n (m, l, w, b, o, e, i, j, h) = up (suc n) (suc m, l, w, b, o, omega arith, next i, next j, h)

above : {vss : List (List ℕ)} → Pairs vss → (a c l w : ℕ) → ((n : ℕ) → NotAbove ((a ∷ c ∷ []) ∷ vss) n → ⊥) → Line vss l w → a < l
above no_pair a c l w up i = absurd (Memᴰ.not-nil i)
above (pair {vss = vss} p q ps) a c l w up i =
    go (λ j. above ps p q l w (tail_rising (a ∷ c ∷ []) ((p ∷ q ∷ []) ∷ vss) up) j) (dec_lt a p) (Memᴰ.cases_cons i)
  where
    go : (Line vss l w → p < l) → Dec (a < p) → (l ∷ w ∷ [] ≡ p ∷ q ∷ []) ⊎ Line vss l w → a < l
    go below (no h) j = absurd (up 3 (2, p, q, a, c, refl, this, next this, omega arith))
    go below (yes h) (inl e) = let u : l ≡ p = cc in omega arith
    go below (yes h) (inr j) = omega (arith, below j)

one_line : {vss : List (List ℕ)} → Pairs vss → (l w v : ℕ) → ((n : ℕ) → NotAbove vss n → ⊥) → Line vss l w → Line vss l v → w ≡ v
one_line no_pair l w v up i j = absurd (Memᴰ.not-nil i)
one_line (pair {vss = vss} p q ps) l w v up i j =
    go (λ a b. one_line ps l w v (tail_rising (p ∷ q ∷ []) vss up) a b) (λ z. above ps p q l z up) (Memᴰ.cases_cons i) (Memᴰ.cases_cons j)
  where
    go : (Line vss l w → Line vss l v → w ≡ v) → ((z : ℕ) → Line vss l z → p < l)
        → (l ∷ w ∷ [] ≡ p ∷ q ∷ []) ⊎ Line vss l w → (l ∷ v ∷ [] ≡ p ∷ q ∷ []) ⊎ Line vss l v → w ≡ v
    go below high (inl a) (inl b) = cc
    go below high (inl a) (inr b) = let u : l ≡ p = cc in absurd (omega (arith, high v b))
    go below high (inr a) (inl b) = let u : l ≡ p = cc in absurd (omega (arith, high w a))
    go below high (inr a) (inr b) = below a b

-- A label of a lawful file waits in one way only.
one-wait : (f : List ℕ) (vss : List (List ℕ)) → LawfulWaits f vss → (label u v : ℕ) → Waits vss label u → Waits vss label v → u ≡ v
one-wait f vss l label u v p q = go p q
  where
    go : {u v : ℕ} → Waits vss label u → Waits vss label v → u ≡ v
    go (lined {wait = a} i) (lined {wait = b} j) = one_line (spelled_pairs l.spells.values) label a b l.rising i j
    go (lined {wait = a} i) (unlined none) = absurd (none a i)
    go (unlined none) (lined {wait = b} j) = absurd (none b j)
    go (unlined none) (unlined other) = refl

-- A file that is accepted is lawful, and its table is made of its lines.
pub fit : (n l : ℕ) (ws : List ℕ) → WaitTable ws ≡ Unfit n l → ⊥
fit n l ws e = let z : ◌≡◌ {A = ℕ} 0 1 = cc in omega arith

pub table-lines : (f ws : List ℕ) → wait_file f ≡ WaitTable ws → (vss : List (List ℕ)) × LawfulWaits f vss × (ws ≡ waits_with no_waits vss)
table-lines f ws e = go ((wait-file f (WaitTable ws)).0 e)
  where
    go : Outcome f (WaitTable ws) → (vss : List (List ℕ)) × LawfulWaits f vss × (ws ≡ waits_with no_waits vss)
    go (broken n q b) = absurd (fit 15 n ws q)
    go (outside n vss q s p) = absurd (fit 16 n ws q)
    go (fallen n vss q s none p) = absurd (fit 17 n ws q)
    go (lawful vss q l) = (vss, l, cc)

accepted-lawful : (f ws : List ℕ) (vss : List (List ℕ)) → wait_file f ≡ WaitTable ws → Spells f vss → LawfulWaits f vss
accepted-lawful f ws vss e s =
    let (wss, l, q) = table-lines f ws e in
    let u : wss ≡ vss = one-spelling f wss vss l.spells s in
    rw u at l

-- Each label from 1 to 254 waits as long as the table says, and no other time.
pub table-waits : (f ws : List ℕ) (vss : List (List ℕ)) → wait_file f ≡ WaitTable ws → Spells f vss → (label : ℕ) → label ≤ 254
    → Waits vss label (get_or ws label 0)
table-waits f ws vss e s label h =
    let (wss, l, q) = table-lines f ws e in
    let u : wss ≡ vss = one-spelling f wss vss l.spells s in
    let t : waits_with no_waits vss ≡ ws = sym (q ∙ ap (waits_with no_waits) u) in
    rw t at (lines-table f vss s label h)

pub waits_are : (f ws : List ℕ) (vss : List (List ℕ)) → wait_file f ≡ WaitTable ws → Spells f vss → (label wait : ℕ) → label ≤ 254
    → Waits vss label wait → wait ≡ get_or ws label 0
waits_are f ws vss e s label wait h p = one-wait f vss (accepted-lawful f ws vss e s) label wait _ p (table-waits f ws vss e s label h)
