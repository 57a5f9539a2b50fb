-- Up along the rows of a place, level by level, and down along them or along others.
use Prim.Native.Nat.{ℕ, ◌+◌, ◌*◌, ◌-◌, ◌≤◌, ◌<◌}
use native.Mathlib.Omega.{arith}
use native.Mathlib.Decide.{ℕ_discrete, dec_lt}
use native.Mathlib.Numerals.{add-one}
use mathlib.Core.Path.{◌≡◌, refl, sym, ◌∙◌, ap}
use mathlib.Core.Logic.{inl, inr}
use mathlib.Core.List.{List}
use lib.ListN.{get_or}
use Rattle.model.specs.Limits.{max_joins, max_depth, summary_width}
use Rattle.model.specs.Blocks.{Use, Block, block_at, joins_of, own_of, blocks_of}
use Rattle.shows.specs.WellFormed.{Cue}
use Rattle.shows.specs.Copies.{Part, Copy, number, InCopy, part-copy, show_copy}
use Rattle.shows.proofs.BlockAt.{joins_of-at, own_of_at}
use Rattle.shows.proofs.Locality.{part_of}
use Rattle.distances.specs.Walks.{Price}
use Rattle.distances.proofs.Detours.{BeginsFor, begins-nowhere}
use Rattle.verdicts.specs.Index.{use_at}
use Rattle.blocks.specs.Loaded.{Loaded}
use Rattle.blocks.specs.Places.{block_on, UsesTo, Found}
use Rattle.blocks.specs.declared.Place.{Place}
use Rattle.blocks.proofs.Loaded.{joins-few}
use Rattle.blocks.proofs.Places.{uses-fewer}
use Rattle.searches.specs.Starts.{estimates_size, Beginnings, Nowhere, Either, Started, Merged}
use Rattle.searches.proofs.Starts.{started_same, started_merged}
use Rattle.searches.specs.Edges.{BlockEdge, cue_count, SettledOver, Only, SpreadIn}
use Rattle.searches.specs.Joins.{RowKept, JoinsKept}
use Rattle.copies.specs.ByRows.{copy_on}
use Rattle.searches.specs.Copies.{TellsInside, TellsWhole, TellsJoins, KeptFrom, Risen, Source, Sunk, FromKept, FromAbove}
use Rattle.copies.proofs.ByRows.{block-suc, top_sound, Level, levels, here, part-on, is-part, part-use_is, next-is, own-bounds, cue-is, numbered-up, cue-numbered}
use Rattle.copies.proofs.ByRows.{own-known, own-few, rows-to}
use Rattle.searches.specs.Knowing.{Known}
use Rattle.searches.proofs.Telling.{start-told, rise_told, sink_told, source_own, source_part}

-- What was kept for a level stays as other levels are kept.
kept-other : {inf : ℕ} {price : Price} (y : Copy) (s j l m p : ℕ) (kept d more : List ℕ) → l < j → m ≤ max_joins → RowKept kept l d p m more
    → TellsJoins inf price y s kept j
    → TellsJoins inf price y s more j
kept-other y s j l m p kept d more h few r told i a b = rw (r.else (summary_width * j + (i - 1)) (inr (omega arith))) (told i a b)

module _ {inf : ℕ} {price : Price} {xs t work : List ℕ} (r : Known inf price xs t work) {rows : List ℕ} {q : Place} (f : Found xs t rows q) where
  abbrev bs : List Block
  bs = blocks_of xs

  abbrev g : Loaded xs t
  g = r.loaded

  abbrev block : ℕ → ℕ
  block l = block_on xs rows l

  abbrev copy : ℕ → Copy
  copy l = copy_on xs t rows l

  abbrev level : (l : ℕ) → l ≤ q.depth → Level g rows l
  level l h = levels g f l h

  -- What estimates say at the joins of the copy at level l is kept.
  kept_here : (l : ℕ) (kept d more : List ℕ) → l ≤ q.depth → TellsInside inf price (copy l) q.cue d
      → JoinsKept bs (block l) kept l d more → TellsJoins inf price (copy l) q.cue more l
  kept_here l kept d more h told w i a b =
      let y : Copy = copy l in
      let ej : y.block.joins ≡ joins_of bs (block l) =
      ap (λ (z : Copy). z.block.joins) (level l h).is ∙ sym (joins_of-at bs (block l)) in
      let eo : y.block.own ≡ own_of bs (block l) = ap (λ (z : Copy). z.block.own) (level l h).is ∙ sym (own_of_at bs (block l)) in
      let c : own_of bs (block l) + 1 + (i - 1) ≡ y.block.own + i = omega arith in
      rw (w.at (i - 1) (omega arith), c) (told (y.block.own + i) (omega arith))

  -- At the place's own level.
  risen_start : (k : ℕ) (kept d more : List ℕ) → k ≡ block q.depth
      → SpreadIn inf price bs work k (Only q.own) d
      → JoinsKept bs k kept q.depth d more → Risen inf price xs t rows q q.depth more d
  risen_start k kept d more ek sp w =
      let h : q.depth ≤ q.depth = omega arith in
      let v = level q.depth h in
      let eo : (copy q.depth).block.own ≡ (block_at bs (block q.depth)).own = ap (λ (z : Copy). z.block.own) v.is in
      let c : Cue (block_at bs (block q.depth)) q.own = omega (arith, own-bounds g f) in
      let n : number (here g f q.depth h) q.own ≡ q.cue = ap (λ (z : Copy). number z q.own) (sym v.is) ∙ cue-is g f in
      let told : TellsInside inf price (copy q.depth) q.cue d =
      rw v.is (rw n at (start-told r (block q.depth) v.base v.met v.under q.own d c (rw ek at sp))) in
      record { inside = told; levels = λ j a b. at j a b (kept_here q.depth kept d more h told (rw ek at w)) }
    where
      at : (j : ℕ) → q.depth ≤ j → j ≤ q.depth → TellsJoins inf price (copy q.depth) q.cue more q.depth
          → TellsJoins inf price (copy j) q.cue more j
      at j a b p = let e : j ≡ q.depth = omega arith in rw e p

  next-copy : (l : ℕ) (k : l ≤ q.depth) → copy (l + 1) ≡ part-copy (here g f l k) (part-on g f l k)
  next-copy l k = rw add-one (next-is g f l k)

  -- One level up.
  risen_on : (l : ℕ) (kept e d more : List ℕ) → l < q.depth → Risen inf price xs t rows q (l + 1) kept e
      → SpreadIn inf price bs work (block l) (FromKept xs rows l kept) d
      → JoinsKept bs (block l) kept l d more → Risen inf price xs t rows q l more d
  risen_on l kept e d more h below sp w =
      let k : l ≤ q.depth = omega arith in
      let v = level l k in
      let next : copy (l + 1) ≡ part-copy (here g f l k) (part-on g f l k) = next-copy l k in
      let inside : InCopy (part-copy (here g f l k) (part-on g f l k)) q.cue =
      rw next at (cue-numbered g f (l + 1) (omega arith)) in
      let told : TellsJoins inf price (part-copy (here g f l k) (part-on g f l k)) q.cue kept (l + 1) =
      rw next at (below.levels (l + 1) (omega arith) (omega arith)) in
      let now : TellsInside inf price (copy l) q.cue d =
      rw v.is
      (rise_told r (block l) v.base v.met v.under (part-on g f l k) (is-part g f l h k) q.cue (l + 1) kept d inside told
      (rw (← part-use_is g f l h k) at sp)) in
      record { inside = now; levels = λ j a b. at j a b (ℕ_discrete j l) (kept_here l kept d more k now w) }
    where
      at : (j : ℕ) → l ≤ j → j ≤ q.depth → Dec (j ≡ l) → TellsJoins inf price (copy l) q.cue more l → TellsJoins inf price (copy j) q.cue more j
      at j a b (yes e) now = rw e now
      at j a b (no n) now =
          let few : joins_of bs (block l) ≤ max_joins = joins-few g (block l) (level l (omega arith)).known in
          kept-other (copy j) q.cue j l (joins_of bs (block l)) (own_of bs (block l) + 1) kept d more (omega (arith, n)) few w
          (below.levels j (omega (arith, n)) b)

  -- One level down, by what the joins have and by what else is begun with.
  module _ (l : ℕ) (h : l < q.depth) (low : l ≤ q.depth) (s : ℕ) (d e : List ℕ) (told : TellsWhole inf price xs (copy l) s d) where
    abbrev part : Part
    part = part-on g f l low

    sunk_by : (S : Beginnings) → BeginsFor price (show_copy bs) (part-copy (here g f l low) part) inf s S
        → SpreadIn inf price bs work (block (l + 1))
        (Either (FromAbove xs rows l d) S) e → TellsWhole inf price xs (copy (l + 1)) s e
    sunk_by S begins sp =
        let v = level l low in
        let eu : use_at xs bs (get_or rows l 0) ≡ part.of = sym (part-use_is g f l h low) in
        let eb : block (l + 1) ≡ part.of.block = (rw add-one (block-suc xs rows l)) ∙ ap (λ (u : Use). u.block) eu in
        rw (next-copy l low)
        (sink_told r (block l) v.base v.met v.under part (is-part g f l h low) S s d e (rw v.is at told) begins (rw (eb, eu) at sp))

    -- No copy from here on has s.
    alone_told : (InCopy (copy (l + 1)) s → ⊥)
        → SpreadIn inf price bs work (block (l + 1))
        (FromAbove xs rows l d) e → TellsWhole inf price xs (copy (l + 1)) s e
    alone_told out sp =
        sunk_by Nowhere
        (begins-nowhere price (top_sound g) (part_of (here g f l low) (level l low).under part (is-part g f l h low) refl) inf s
        (λ n. out (rw (next-copy l low) n)))
        (record { start = sp.start; begins = started_same (λ a x i. inl i) (λ a x i. back a x i) sp.begins; settled = sp.settled })
      where
        back : (a x : ℕ) → Either (FromAbove xs rows l d) Nowhere a x
            → FromAbove xs rows l d a x
        back a x (inl i) = i
        back a x (inr i) = absurd i

  -- What estimates at level l begin with on account of the place's cue.
  source_begins : (l : ℕ) (h : l ≤ q.depth) (kept : List ℕ) → KeptFrom inf price xs t rows q kept 0
      → BeginsFor price (show_copy bs) (here g f l h) inf q.cue (Source xs rows q l kept)
  source_begins l h kept keeps = go (dec_lt l q.depth)
    where
      go : Dec (l < q.depth) → BeginsFor price (show_copy bs) (here g f l h) inf q.cue (Source xs rows q l kept)
      go (yes less) =
          source_part r (block l) (level l h).base (level l h).met (level l h).under rows q l kept q.cue less (part-on g f l h)
          (is-part g f l less h) (part-use_is g f l less h) (rw (next-copy l h) at (cue-numbered g f (l + 1) (omega arith)))
          (rw (next-copy l h) at (keeps (l + 1) (omega arith) (omega arith)))
      go (no end) =
          let e : l ≡ q.depth = omega arith in
          let z : copy q.depth ≡ here g f l h = ap copy (sym e) ∙ (level l h).is in
          let o : (copy q.depth).block.own ≡ (block_at bs (block l)).own = ap (λ (y : Copy). y.block.own) z in
          source_own r (block l) (level l h).base (level l h).met (level l h).under rows q l kept q.cue (omega arith)
          (omega (arith, own-bounds g f)) (ap (λ (y : Copy). number y q.own) (sym z) ∙ cue-is g f)

  -- Down the place's own rows.
  shared_told : (l : ℕ) (kept d e : List ℕ) → l < q.depth → KeptFrom inf price xs t rows q kept 0 → TellsWhole inf price xs (copy l) q.cue d
      → SpreadIn inf price bs work (block (l + 1))
      (Either (FromAbove xs rows l d) (Source xs rows q (l + 1) kept)) e
      → TellsWhole inf price xs (copy (l + 1)) q.cue e
  shared_told l kept d e h keeps told sp =
      let k : l ≤ q.depth = omega arith in
      let k' : l + 1 ≤ q.depth = omega arith in
      let is : here g f (l + 1) k' ≡ part-copy (here g f l k) (part-on g f l k) = sym (level (l + 1) k').is ∙ next-copy l k in
      sunk_by l h k q.cue d e told (Source xs rows q (l + 1) kept) (rw is at (source_begins (l + 1) k' kept keeps)) sp

  -- One level further down from level a, below which no copy has the cue that the estimates are about.
  sunk_on : (a l : ℕ) (d₀ d c e : List ℕ) → l < q.depth → a ≤ l → Sunk inf price xs t rows a l d₀ d
      → Started inf (cue_count bs (block (l + 1))) (FromAbove xs rows l d) c
      → SettledOver (BlockEdge price bs work (block (l + 1))) c e → Sunk inf price xs t rows a (l + 1) d₀ e
  sunk_on a l d₀ d c e h le before entered settled s told out =
      alone_told l h (omega arith) s d e (before s told (λ k n. out (omega arith) n)) (λ n. out (omega arith) (up n))
      (record { start = c; begins = entered; settled = settled })
    where
      up : InCopy (copy (l + 1)) s → InCopy (copy (a + 1)) s
      up n = let z : a + 1 + (l - a) ≡ l + 1 = omega arith in numbered-up g f s (l - a) (a + 1) (omega arith) (rw z n)

-- The cue of a place has an estimate.
module _ {xs t rows : List ℕ} {q : Place} (g : Loaded xs t) (f : Found xs t rows q) where
  pub own_room : {c n : ℕ} → c ≡ q.own → n ≡ estimates_size → c < n
  own_room ec en = omega (arith, own-few g f)

  pub own-within : {c : ℕ} → c ≡ q.own → c ≤ cue_count (blocks_of xs) q.block
  own-within ec = omega (arith, own-known g f)

-- Up from level n to level l: whatever place estimates and what was kept are of at level n, they are its at level l.
pub record Climbing (inf : ℕ) (price : Price) (xs t work rows : List ℕ) (n : ℕ) (kept₀ d₀ : List ℕ) (l : ℕ) (kept d : List ℕ) : Type 0 where
  pub known : Known inf price xs t work
  pub uses : UsesTo xs rows n
  pub deep : n ≤ max_depth
  pub low : l ≤ n
  pub on : (q : Place) → Found xs t rows q → n ≤ q.depth → Risen inf price xs t rows q n kept₀ d₀ → Risen inf price xs t rows q l kept d

module _ {inf : ℕ} {price : Price} {xs t work rows : List ℕ} where
  pub climbing_begin : {q : Place} {kept d : List ℕ} → Known inf price xs t work → Found xs t rows q
      → Climbing inf price xs t work rows q.depth kept d q.depth kept d
  climbing_begin k f =
      record { known = k; uses = rows-to k.loaded f _ (omega arith); deep = f.deep; low = omega arith; on = λ q f h r. r }

  module _ {n : ℕ} {kept₀ d₀ : List ℕ} {l : ℕ} {kept d : List ℕ} (r : Climbing inf price xs t work rows n kept₀ d₀ l kept d) where
    pub climbing_uses : 0 < l → UsesTo xs rows (l - 1 + 1)
    climbing_uses p = uses-fewer (l - 1 + 1) r.uses (omega (arith, r.low))

    pub climbing_on : {more e : List ℕ} → 0 < l → SpreadIn inf price (blocks_of xs) work (block_on xs rows (l - 1)) (FromKept xs rows (l - 1) kept) e
        → JoinsKept (blocks_of xs) (block_on xs rows (l - 1)) kept (l - 1) e more → Climbing inf price xs t work rows n kept₀ d₀ (l - 1) more e
    climbing_on {more} {e} p s w =
        let z : l - 1 + 1 ≡ l = omega arith in
        record {
          known = r.known;
          uses = r.uses;
          deep = r.deep;
          low = omega (arith, r.low);
          on = λ q f a b. risen_on r.known f (l - 1) kept d e more (omega (arith, r.low)) (rw z (r.on q f a b)) s w;
        }

  pub climbing_done : {q : Place} {kept₀ d₀ : List ℕ} {l c : ℕ} {kept d first : List ℕ}
      → Climbing inf price xs t work rows q.depth kept₀ d₀ l kept d → l ≤ 0 → Found xs t rows q
      → SpreadIn inf price (blocks_of xs) work q.block (Only c) d₀ → c ≡ q.own
      → JoinsKept (blocks_of xs) q.block first q.depth d₀ kept₀ → Risen inf price xs t rows q 0 kept d
  climbing_done {l = l} r h f s ec w =
      let z : l ≡ 0 = omega arith in
      rw z at (r.on _ f (omega arith) (risen_start r.known f _ _ _ _ f.block (rw ec at s) w))

-- Down to level l of a place, from level a, past which no copy has the cue that the estimates are about.
pub record Sinking (inf : ℕ) (price : Price) (xs t work rows : List ℕ) (q : Place) (a l : ℕ) (d₀ d : List ℕ) : Type 0 where
  pub known : Known inf price xs t work
  pub found : Found xs t rows q
  pub high : a ≤ l
  pub low : l ≤ q.depth
  pub sunk : Sunk inf price xs t rows a l d₀ d

module _ {inf : ℕ} {price : Price} {xs t work rows : List ℕ} {q : Place} where
  pub sinking_begin : {l : ℕ} {d : List ℕ} → Known inf price xs t work → Found xs t rows q → l ≤ q.depth
      → Sinking inf price xs t work rows q l l d d
  sinking_begin k f h = record { known = k; found = f; high = omega arith; low = h; sunk = λ s told out. told }

  module _ {a l : ℕ} {d₀ d : List ℕ} (r : Sinking inf price xs t work rows q a l d₀ d) where
    pub sinking_uses : l < q.depth → UsesTo xs rows (l + 1)
    sinking_uses h = rows-to r.known.loaded r.found (l + 1) (omega arith)

    pub sinking_on : {k : ℕ} {c e : List ℕ} → l < q.depth
        → Started inf (cue_count (blocks_of xs) (block_on xs rows (l + 1))) (FromAbove xs rows l d) c → k ≡ block_on xs rows (l + 1)
        → SettledOver (BlockEdge price (blocks_of xs) work k) c e → Sinking inf price xs t work rows q a (l + 1) d₀ e
    sinking_on {c = c} {e} h entered ek settled =
        record {
          known = r.known;
          found = r.found;
          high = omega (arith, r.high);
          low = omega arith;
          sunk = sunk_on r.known r.found a l d₀ d c e h r.high r.sunk entered (rw ek at settled);
        }

    pub sinking_done : q.depth ≤ l → Sunk inf price xs t rows a q.depth d₀ d
    sinking_done h = let z : l ≡ q.depth = omega (arith, r.low) in rw z at r.sunk

-- Down to level l of the place that the estimates are about, on the way to its level m.
pub record Sharing (inf : ℕ) (price : Price) (xs t work rows : List ℕ) (q : Place) (m : ℕ) (kept : List ℕ) (l : ℕ) (d : List ℕ) : Type 0 where
  pub known : Known inf price xs t work
  pub found : Found xs t rows q
  pub few : m ≤ q.depth
  pub low : l ≤ m
  pub keeps : KeptFrom inf price xs t rows q kept 0
  pub tells : TellsWhole inf price xs (copy_on xs t rows l) q.cue d

module _ {inf : ℕ} {price : Price} {xs t work rows : List ℕ} {q : Place} {m : ℕ} {kept : List ℕ} where
  pub sharing_begin : {d : List ℕ} → Known inf price xs t work → Found xs t rows q → m ≤ q.depth → Risen inf price xs t rows q 0 kept d
      → Sharing inf price xs t work rows q m kept 0 d
  unfolding copy_on
  sharing_begin k f h r = record { known = k; found = f; few = h; low = omega arith; keeps = r.levels; tells = r.inside }

  module _ {l : ℕ} {d : List ℕ} (r : Sharing inf price xs t work rows q m kept l d) where
    pub sharing_uses : l < m → UsesTo xs rows (l + 1)
    sharing_uses h = rows-to r.known.loaded r.found (l + 1) (omega (arith, r.few))

    pub sharing_on : {k : ℕ} {c b e : List ℕ} → l < m
        → Started inf (cue_count (blocks_of xs) (block_on xs rows (l + 1))) (FromAbove xs rows l d) c
        → Merged (Source xs rows q (l + 1) kept) c b → k ≡ block_on xs rows (l + 1)
        → SettledOver (BlockEdge price (blocks_of xs) work k) b e → Sharing inf price xs t work rows q m kept (l + 1) e
    sharing_on {b = b} {e} h entered put ek settled =
        record {
          known = r.known;
          found = r.found;
          few = r.few;
          low = omega arith;
          keeps = r.keeps;
          tells = shared_told r.known r.found l kept d e (omega (arith, r.few)) r.keeps r.tells
              (record { start = b; begins = started_merged entered put; settled = rw ek at settled });
        }

    pub sharing_done : m ≤ l → TellsWhole inf price xs (copy_on xs t rows m) q.cue d
    sharing_done h = let z : l ≡ m = omega (arith, r.low) in rw z at r.tells
