-- The triples that are printed are the links of the unfolded show, each once and rising.
use Prim.Native.Nat.{ℕ, ◌≤◌, ◌<◌}
use native.Mathlib.Omega.{arith}
use native.Mathlib.Decide.{ℕ_discrete}
use mathlib.Core.Path.{◌≡◌, refl, sym, ◌∙◌, ap}
use mathlib.Core.Logic.{◌⊎◌, inl, inr, ◌↔◌}
use mathlib.Core.Bool.{true}
use mathlib.Core.List.Memᴰ
use mathlib.Core.List.{List, [], ◌∷◌, ◌++◌, map, flat_map, Memᴰ}
use Rattle.model.specs.Limits.{max_label}
use Rattle.model.specs.Blocks.{Link, Block, blocks_of, count}
use Rattle.model.specs.Verdicts.{verdict, Accepted}
use Rattle.model.specs.Unfolding.{show_links}
use Rattle.model.specs.Lists.{range, keep}
use Rattle.model.specs.Printed.{is_triple, triples_of, triples}
use Rattle.basics.proofs.Members.{map-mem, mem_map, flat_mem, mem_flat, range-bounds, range-mem}
use Rattle.basics.proofs.Keeping.{kept}
use Rattle.basics.proofs.Printed.{triple-hit, triple-miss}
use Rattle.shows.specs.Lists.{Rising, none as no_number, more as one_number}
use Rattle.shows.proofs.Lists.{keep-rising, range-rising}
use Rattle.demands.specs.Acceptance.{Below, here, later}
use Rattle.demands.specs.RowBehind.{link}
use Rattle.demands.specs.Printed.{triple, RisingTriples, none, more, Listed}
use Rattle.demands.proofs.Lists.{within}
use Rattle.demands.proofs.Notes.{show_labels}

-- The test finds just the links.
found : (E : List Link) (u v label : ℕ) → (is_triple E u v label ≡ true) ↔ Memᴰ (link u v label) E
unfolding is_triple
found [] u v label = (λ e. absurd (let z : ◌≡◌ {A = ℕ} 0 1 = cc in omega arith), λ i. absurd (Memᴰ.not-nil i))
found (l ∷ E) u v label = go (found E u v label) (ℕ_discrete l.from u) (ℕ_discrete l.to v) (ℕ_discrete l.label label)
  where
    Here : Type 0
    Here = (is_triple (l ∷ E) u v label ≡ true) ↔ Memᴰ (link u v label) (l ∷ E)

    other : (is_triple E u v label ≡ true) ↔ Memᴰ (link u v label) E → (l.from ≡ u → l.to ≡ v → l.label ≡ label → ⊥) → Here
    other below n = (λ e. Memᴰ.tail (below.0 (sym miss ∙ e)), λ i. miss ∙ below.1 (behind (Memᴰ.cases_cons i)))
      where
        miss : is_triple (l ∷ E) u v label ≡ is_triple E u v label
        miss = triple-miss u v label l E n

        behind : (link u v label ≡ l) ⊎ Memᴰ (link u v label) E → Memᴰ (link u v label) E
        behind (inl e) = absurd (n (ap (λ (k : Link). k.from) (sym e)) (ap (λ (k : Link). k.to) (sym e)) (ap (λ (k : Link). k.label) (sym e)))
        behind (inr i) = i

    go : (is_triple E u v label ≡ true) ↔ Memᴰ (link u v label) E → Dec (l.from ≡ u) → Dec (l.to ≡ v) → Dec (l.label ≡ label) → Here
    go below (yes a) (yes b) (yes c) = (λ e. Memᴰ.head {x = l} (rw (← a, ← b, ← c) refl), λ i. triple-hit u v label l E a b c)
    go below (yes a) (yes b) (no c) = other below (λ x y z. c z)
    go below (yes a) (no b) d = other below (λ x y z. b y)
    go below (no a) d f = other below (λ x y z. a x)

-- Lists of triples one behind the other rise if each does, and all of one come before all of the next.
abbrev AllBelow : List Link → List Link → Type 0
AllBelow s t = (l m : Link) → Memᴰ l s → Memᴰ m t → Below (triple l) (triple m)

rising-append : {s t : List Link} → RisingTriples s → RisingTriples t → AllBelow s t → RisingTriples (s ++ t)
rising-append none r h = r
rising-append {t = t} (more {l} {ls} low q) r h =
    more (λ m i. at m (Memᴰ.append_cases ls i)) (rising-append q r (λ k m i j. h k m (Memᴰ.tail i) j))
  where
    at : (m : Link) → Memᴰ m ls ⊎ Memᴰ m t → Below (triple l) (triple m)
    at m (inl i) = low m i
    at m (inr j) = h l m (Memᴰ.head refl) j

rising-flat : (f : ℕ → List Link) → ((x : ℕ) → RisingTriples (f x)) → ((x y : ℕ) → x < y → AllBelow (f x) (f y)) → {xs : List ℕ} → Rising xs
    → RisingTriples (flat_map f xs)
unfolding flat_map
rising-flat f each apart no_number = none
rising-flat f each apart (one_number {x} {xs} low r) =
    rising-append (each x) (rising-flat f each apart r)
    (λ l m i j. let (y, k, n) = flat_mem f m xs j in apart x y (low y k) l m i n)

-- The triples from one cue to another: its links with labels 1 to 255,
module _ (E : List Link) (u v : ℕ) where
  of_pair : (l : Link) → Memᴰ l (triples_of E u v) → (l.from ≡ u) × (l.to ≡ v) × (1 ≤ l.label) × (l.label ≤ max_label) × Memᴰ l E
  unfolding triples_of
  of_pair l i =
      let (label, j, e) = map-mem (link u v) l (keep (is_triple E u v) (range 1 max_label)) i in
      let (k, t) = (kept (is_triple E u v) (range 1 max_label) label).0 j in
      let (low, high) = range-bounds 1 max_label label k in
      rw e (refl, refl, low, omega arith, (found E u v label).0 t)

  pair_of : (label : ℕ) → 1 ≤ label → label ≤ max_label → Memᴰ (link u v label) E → Memᴰ (link u v label) (triples_of E u v)
  unfolding triples_of
  pair_of label low high i =
      mem_map (link u v) ((kept (is_triple E u v) (range 1 max_label) label).1 (range-mem 1 max_label label low (omega arith), (found E u v label).1 i))

  -- rising.
  map-rising : {ks : List ℕ} → Rising ks → RisingTriples (map (link u v) ks)
  map-rising no_number = none
  map-rising (one_number {x} {xs} low r) =
      more {l = link u v x} (λ m i. let (n, j, e) = map-mem (link u v) m xs i in rw e (later refl (later refl (here (low n j))))) (map-rising r)

  pair_rising : RisingTriples (triples_of E u v)
  unfolding triples_of
  pair_rising = map-rising (keep-rising (is_triple E u v) (range-rising 1 max_label))

-- A link between cues 1 to n, with a label 1 to 255.
pub record Among (n : ℕ) (l : Link) : Type 0 where
  pub from : (1 ≤ l.from) × (l.from ≤ n)
  pub to : (1 ≤ l.to) × (l.to ≤ n)
  pub label : (1 ≤ l.label) × (l.label ≤ max_label)

-- All triples of a show are such links of it.
module _ (bs : List Block) where
  abbrev E : List Link
  E = show_links bs

  abbrev cues : List ℕ
  cues = range 1 (count bs)

  pub of-show : (l : Link) → Memᴰ l (triples bs) → Among (count bs) l × Memᴰ l E
  unfolding triples
  of-show l i =
      let (u, j, p) = flat_mem _ l cues i in
      let (v, k, q) = flat_mem _ l cues p in
      let (e, f, low, high, m) = of_pair E u v l q in
      let a = range-bounds 1 (count bs) u j in
      let b = range-bounds 1 (count bs) v k in
      (record { from = omega arith; to = omega arith; label = (low, high) }, m)

  -- All such links are among them.
  cue-in : (v : ℕ) → 1 ≤ v → v ≤ count bs → Memᴰ v cues
  cue-in v low high = range-mem 1 (count bs) v low (omega arith)

  show_of : (l : Link) → Among (count bs) l → Memᴰ l E → Memᴰ l (triples bs)
  unfolding triples
  show_of l a m =
      mem_flat _ (cue-in l.from a.from.0 a.from.1)
      (mem_flat _ (cue-in l.to a.to.0 a.to.1) (pair_of E l.from l.to l.label a.label.0 a.label.1 m))

  -- They rise by the cue that they lead to, and by the cue that they lead from.
  abbrev from-cue : ℕ → List Link
  from-cue u = flat_map (triples_of E u) cues

  to-later : (u x y : ℕ) → x < y → AllBelow (triples_of E u x) (triples_of E u y)
  to-later u x y h l m i j =
      let a = of_pair E u x l i in
      let b = of_pair E u y m j in
      let k : l.to < m.to = omega (arith, a.1, b.1) in
      later (a.0 ∙ sym b.0) (here k)

  from-later : (x y : ℕ) → x < y → AllBelow (from-cue x) (from-cue y)
  from-later x y h l m i j =
      let (v, _, p) = flat_mem _ l cues i in
      let (w, _, q) = flat_mem _ m cues j in
      let k : l.from < m.from = omega (arith, (of_pair E x v l p).0, (of_pair E y w m q).0) in
      here k

  show_rising : RisingTriples (triples bs)
  unfolding triples
  show_rising =
      let rise = range-rising 1 (count bs) in
      rising-flat from-cue (λ u. rising-flat (triples_of E u) (pair_rising E u) (to-later u) rise) from-later rise

-- Of accepted rows every link is such a link, so the triples are the links.
pub all_listed : (xs : List ℕ) → verdict xs ≡ Accepted → Listed (show_links (blocks_of xs)) (triples (blocks_of xs))
all_listed xs v =
    record {
      exactly = λ l. (λ i. (of-show (blocks_of xs) l i).1, λ i. show_of (blocks_of xs) l (among l i) i);
      rising = show_rising (blocks_of xs);
    }
  where
    among : (l : Link) → Memᴰ l (show_links (blocks_of xs)) → Among (count (blocks_of xs)) l
    among l i = let (a, b, c, d) = within xs v l i in record { from = (a, b); to = (c, d); label = show_labels xs v l i }
