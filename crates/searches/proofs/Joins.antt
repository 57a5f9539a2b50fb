-- Laws of what estimates begin with at joins and at the cues of a use, of rows of kept numbers, and of the rows that two places share.
use Prim.Native.Nat.{ℕ, suc, ◌+◌, ◌*◌, ◌-◌, ◌≤◌, ◌<◌}
use native.Mathlib.Omega.{arith}
use native.Mathlib.Decide.{ℕ_discrete, dec_lt}
use Rattle.std.specs.Prelude.{min}
use mathlib.Core.Path.{◌≡◌, refl, sym, ◌∙◌, ap}
use mathlib.Core.Logic.{◌⊎◌, inl, inr, ◌≢◌}
use mathlib.Core.List.{List, ◌++◌}
use lib.ListN.{length, get_or, set, take, drop}
use lib.Seq.{get_or-set_same, get_or-set_other, get_or-take}
use Rattle.model.specs.Limits.{summary_width}
use Rattle.model.specs.Blocks.{Use, Block, block_at, joins_of, own_of, blocks_of}
use Rattle.shows.proofs.BlockAt.{joins_of-at, own_of_at}
use Rattle.distances.specs.Tells.{met_by, FromPart}
use Rattle.verdicts.specs.Index.{use_at}
use Rattle.blocks.specs.Loaded.{Loaded, IsBlock, IsRow, column_at, UseRow}
use Rattle.blocks.specs.Places.{block_on, UsesTo}
use Rattle.blocks.specs.declared.Place.{Place}
use Rattle.blocks.proofs.Loaded.{used_block}
use Rattle.blocks.proofs.Places.{uses-row, level-used}
use Rattle.searches.specs.Starts.{estimates_size, Nowhere, Cell, Meets, MetAt, Started, Merged, Gathered}
use Rattle.searches.proofs.Edges.{row-meets}
use Rattle.searches.proofs.Starts.{merged_same, each-begin, each_on, started_first, started_same}
use Rattle.searches.proofs.Parts.{lent_at, put_before, put_in, put_behind}
use Rattle.searches.specs.Edges.{cue_count}
use Rattle.searches.specs.Joins.{JoinsAt, AtJoins, passed, RowKept, JoinsKept}
use Rattle.searches.specs.Copies.{kept_at, Source, inner, here, FromKept, FromAbove, Common}

-- The joins of a block.
pub joins-begin : (p : ℕ) (e d : List ℕ) → Merged (JoinsAt p e 0) d d
unfolding JoinsAt
joins-begin p e d = each-begin (λ i. Cell (p + i) (get_or e i 0)) d

pub joins-on : (p : ℕ) (e : List ℕ) (i : ℕ) {k : ℕ} {d g f : List ℕ} → Merged (JoinsAt p e i) d g → Merged (Cell k (get_or e i 0)) g f → k ≡ p + i
    → Merged (JoinsAt p e (i + 1)) d f
unfolding JoinsAt
joins-on p e i s t ek = each_on (λ i. Cell (p + i) (get_or e i 0)) i s (rw ek at t)

-- In a part of the estimates, as it is lent, with numbers of a front: in all of them.
module _ (p m : ℕ) (d e v : List ℕ) (size : length v ≡ m) (fits : p + m ≤ length d) where
  abbrev w : List ℕ
  w = take p d ++ (v ++ drop (p + m - p) (drop p d))

  within_part : (x i : ℕ) → i < m → x ≡ p + i → (get_or (take (p + m - p) (drop p d)) i 0 ≡ get_or d x 0) × (get_or w x 0 ≡ get_or v i 0)
  within_part x i h ex = (lent_at (p + m - p) p d i x (omega arith) ex, put_in p (p + m - p) d v (omega arith) (omega arith) i (omega arith) ex)

  out_of_part : (x : ℕ) → (x < p) ⊎ (p + m ≤ x) → get_or w x 0 ≡ get_or d x 0
  out_of_part x (inl h) = put_before p (p + m - p) d v (omega arith) (omega arith) x h
  out_of_part x (inr h) = put_behind p (p + m - p) d v (omega arith) (omega arith) x (omega arith)

  pub joins_lent : Merged (JoinsAt 0 (take m e) m) (take (p + m - p) (drop p d)) v → Merged (JoinsAt p e m) d w
  unfolding JoinsAt
  joins_lent s =
      record {
        fallen = λ x y b. fallen x y b;
        lower = λ x. lower x (dec_lt x p) (dec_lt x (p + m));
        from = λ x. from x (dec_lt x p) (dec_lt x (p + m));
      }
    where
      fallen : (x y : ℕ) → JoinsAt p e m x y → get_or w x 0 ≤ y
      fallen x y (i, h, (ex, ey)) =
          let k : get_or v i 0 ≤ y = s.fallen i y (i, h, (omega arith, ey ∙ sym (get_or-take m e i 0 h))) in
          omega (arith, within_part x i h ex)

      lower : (x : ℕ) → Dec (x < p) → Dec (x < p + m) → get_or w x 0 ≤ get_or d x 0
      lower x (yes a) b = omega (arith, out_of_part x (inl a))
      lower x (no a) (no b) = omega (arith, out_of_part x (inr (omega arith)))
      lower x (no a) (yes b) = omega (arith, within_part x (x - p) (omega arith) (omega arith), s.lower (x - p))

      made : (x i : ℕ) → i < m → x ≡ p + i → (get_or v i 0 ≡ get_or (take (p + m - p) (drop p d)) i 0) ⊎ JoinsAt 0 (take m e) m i (get_or v i 0)
          → (get_or w x 0 ≡ get_or d x 0) ⊎ JoinsAt p e m x (get_or w x 0)
      made x i h ex (inl q) = let (old, new) = within_part x i h ex in inl (new ∙ q ∙ old)
      made x i h ex (inr (j, k, (ej, ev))) =
          let (old, new) = within_part x i h ex in inr (j, k, (omega arith, new ∙ ev ∙ get_or-take m e j 0 k))

      from : (x : ℕ) → Dec (x < p) → Dec (x < p + m) → (get_or w x 0 ≡ get_or d x 0) ⊎ JoinsAt p e m x (get_or w x 0)
      from x (yes a) b = inl (out_of_part x (inl a))
      from x (no a) (no b) = inl (out_of_part x (inr (omega arith)))
      from x (no a) (yes b) = made x (x - p) (omega arith) (omega arith) (s.from (x - p))

-- A row of numbers.
pub row-begin : (v : List ℕ) (i : ℕ) (d : List ℕ) (p : ℕ) → RowKept v i d p 0 v
row-begin v i d p = record { at = λ j h. absurd (omega arith); else = λ x h. refl }

pub row_on : {v e : List ℕ} (i : ℕ) {d : List ℕ} (m : ℕ) → summary_width * i + m < length e → RowKept v i d 0 m e → RowKept v i d 0 (m + 1) (set e (summary_width * i + m) (get_or d m 0))
row_on {v} {e} i {d} m long r = record { at = λ j l. at j l (ℕ_discrete j m); else = λ x l. else x l }
  where
    first : (j : ℕ) → get_or d (0 + j) 0 ≡ get_or d j 0
    first j = let z : 0 + j ≡ j = omega arith in ap (λ (n : ℕ). get_or d n 0) z

    at : (j : ℕ) → j < m + 1 → Dec (j ≡ m)
        → get_or (set e (summary_width * i + m) (get_or d m 0)) (summary_width * i + j) 0 ≡ get_or d (0 + j) 0
    at j l (yes q) = rw q (get_or-set_same e (summary_width * i + m) (get_or d m 0) 0 (omega arith) ∙ sym (first m))
    at j l (no n) =
        get_or-set_other e (summary_width * i + m) (summary_width * i + j) (get_or d m 0) 0 (λ q. n (omega arith)) ∙ r.at j
        (omega arith)

    else : (x : ℕ) → (x < summary_width * i) ⊎ (summary_width * i + (m + 1) ≤ x)
        → get_or (set e (summary_width * i + m) (get_or d m 0)) x 0 ≡ get_or v x 0
    else x (inl l) = get_or-set_other e (summary_width * i + m) x (get_or d m 0) 0 (λ q. omega arith) ∙ r.else x (inl l)
    else x (inr l) = get_or-set_other e (summary_width * i + m) x (get_or d m 0) 0 (λ q. omega arith) ∙ r.else x (inr (omega arith))

-- With the estimates of a part, as it is lent: with those from its place on.
pub row_lent : {v e : List ℕ} {i : ℕ} (d : List ℕ) (p m : ℕ) → RowKept v i (take (p + m - p) (drop p d)) 0 m e → RowKept v i d p m e
row_lent d p m r =
    record { at = λ j h. r.at j h ∙ lent_at (p + m - p) p d (0 + j) (p + j) (omega arith) (omega arith); else = r.else }

-- The row has the estimates at a block's joins, by the numbers that the code has of the block.
pub joins-kept : (bs : List Block) (k : ℕ) {w o m : ℕ} {v : List ℕ} {l : ℕ} {d e : List ℕ} → RowKept v l d (o + 1) m e → o ≡ w
    → w ≡ own_of bs k → m ≡ joins_of bs k → JoinsKept bs k v l d e
joins-kept bs k r eo ew em = rw (eo ∙ ew, em) at r

-- The cues of a use, by its row.
module _ {xs : List ℕ} {k r : ℕ} (row : UseRow xs k r) where
  abbrev bs : List Block
  bs = blocks_of xs

  abbrev u : Use
  u = use_at xs bs r

  names : (i : ℕ) → i < joins_of bs u.block → column_at xs r i ≡ met_by u (suc i)
  names i h = let s : suc i - 1 ≡ i = omega arith in rw s (sym (row.columns i h))

  -- What was kept for a level, put in at the use that leads there.
  put-part : (kept : List ℕ) (l b m : ℕ) {d e : List ℕ} → b ≡ u.block → m ≡ joins_of bs b
      → Merged (MetAt xs r kept (summary_width * l) m) d e
      → Merged (FromPart bs u (kept_at kept l)) d e
  unfolding MetAt
  put-part kept l b m eb em s = merged_same (λ a x i. into a x i) (λ a x i. back a x i) s
    where
      count : m ≡ joins_of bs u.block
      count = em ∙ ap (joins_of bs) eb

      into : (a x : ℕ) → MetAt xs r kept (summary_width * l) m a x → FromPart bs u (kept_at kept l) a x
      into a x (i, h, (ea, ex)) =
          let s : suc i - 1 ≡ i = omega arith in
          (suc i, omega (arith, count), sym (ea ∙ names i (omega (arith, count))), (rw s ex))

      back : (a x : ℕ) → FromPart bs u (kept_at kept l) a x → MetAt xs r kept (summary_width * l) m a x
      back a x (i, j, ea, ex) =
          let s : suc (i - 1) ≡ i = omega arith in
          (i - 1, omega (arith, count), (sym ea ∙ sym (rw s at (names (i - 1) (omega arith))), ex))

  -- What the block that a use names begins with at its joins.
  entered : {inf : ℕ} (b o m : ℕ) (d₀ v : List ℕ) {z f e : List ℕ} → b ≡ u.block → o ≡ own_of bs b → m ≡ joins_of bs b → Gathered xs r d₀ m z v
      → Started inf (o + m) Nowhere f → Merged (JoinsAt (o + 1) v m) f e → Started inf (cue_count bs b) (AtJoins (block_at bs b) (passed u d₀)) e
  unfolding JoinsAt
  entered {inf} b o m d₀ v {e = e} eb eo em got s j =
      let all : Started inf (o + m) (AtJoins (block_at bs b) (passed u d₀)) e =
      started_same (λ a x i. into a x i) (λ a x i. back a x i) (started_first s j) in
      rw (eo, em) at all
    where
      count : m ≡ joins_of bs u.block
      count = em ∙ ap (joins_of bs) eb

      told : (i : ℕ) → i < m → get_or v i 0 ≡ passed u d₀ (suc i)
      told i h = got.at i h ∙ ap (λ (c : ℕ). get_or d₀ c 0) (names i (omega (arith, count)))

      into : (a x : ℕ) → JoinsAt (o + 1) v m a x → AtJoins (block_at bs b) (passed u d₀) a x
      into a x (i, h, (ea, ex)) =
          (suc i, omega arith, omega (arith, em, joins_of-at bs b), omega (arith, eo, own_of_at bs b), ex ∙ told i h)

      back : (a x : ℕ) → AtJoins (block_at bs b) (passed u d₀) a x → JoinsAt (o + 1) v m a x
      back a x (i, low, high, ea, ex) =
          let s : suc (i - 1) ≡ i = omega arith in
          let h : i - 1 < m = omega (arith, em, joins_of-at bs b) in
          (i - 1, h, (omega (arith, eo, own_of_at bs b), ex ∙ sym (rw s at (told (i - 1) h))))

-- The same by the rows that lead to a level.
module _ {xs rows : List ℕ} (l : ℕ) (uses : UsesTo xs rows (l + 1)) (r : ℕ) (er : r ≡ get_or rows l 0) where
  use_row_on : UseRow xs (block_on xs rows l) r
  use_row_on = uses-row l r uses (omega arith) er

  pub put-kept : (kept : List ℕ) (b m : ℕ) {d e : List ℕ} → b ≡ (use_at xs (blocks_of xs) r).block → m ≡ joins_of (blocks_of xs) b
      → Merged (MetAt xs r kept (summary_width * (l + 1)) m) d e
      → Merged (FromKept xs rows l kept) d e
  put-kept kept b m eb em s = rw er at (put-part use_row_on kept (l + 1) b m eb em s)

-- What the use that leads to a level asks for: its row, the block that it names, the cues that it meets.
pub use_there : {xs rows : List ℕ} (l : ℕ) {r : ℕ} → UsesTo xs rows (l + 1) → r ≡ get_or rows l 0 → IsRow xs r
use_there l {r} uses er = (use_row_on l uses r er).there

module _ {xs t rows : List ℕ} (l : ℕ) {r b : ℕ} (g : Loaded xs t) (uses : UsesTo xs rows (l + 1)) (er : r ≡ get_or rows l 0)
    (eb : b ≡ (use_at xs (blocks_of xs) r).block) where
  pub level-block : IsBlock xs b
  level-block = used_block _ (use_row_on l uses r er) eb

  pub level-meets : {m n : ℕ} → m ≡ joins_of (blocks_of xs) b → n ≡ estimates_size → Meets xs r m n
  level-meets {m} {n} em en = row-meets g (use_row_on l uses r er) b m eb em n en

-- What the block at the next level begins with: at its joins, what the cues have that they meet.
pub entered_on : {xs rows : List ℕ} (l : ℕ) {inf r b w o m : ℕ} {d v z f e : List ℕ} → UsesTo xs rows (l + 1) → Gathered xs r d m z v
    → r ≡ get_or rows l 0 → b ≡ (use_at xs (blocks_of xs) r).block → m ≡ joins_of (blocks_of xs) b → w ≡ own_of (blocks_of xs) b → o ≡ w
    → Started inf (o + m) Nowhere f → Merged (JoinsAt (o + 1) v m) f e
    → Started inf (cue_count (blocks_of xs) (block_on xs rows (l + 1))) (FromAbove xs rows l d) e
entered_on {xs} {rows} l {r = r} {b} uses got er eb em ew eo s j =
    let k : b ≡ block_on xs rows (l + 1) = level-used xs rows l r b er eb in
    rw (k, er) at (entered (use_row_on l uses r er) b _ _ _ _ eb (eo ∙ ew) em got s j)

-- What estimates begin with on account of the cue of a place.
module _ (xs rows : List ℕ) (q : Place) (l : ℕ) (kept : List ℕ) {d e : List ℕ} where
  pub source_inner : l < q.depth → Merged (FromKept xs rows l kept) d e
      → Merged (Source xs rows q l kept) d e
  source_inner h m = merged_same (λ a x i. inner h i) (λ a x i. back a x i) m
    where
      back : (a x : ℕ) → Source xs rows q l kept a x
          → FromKept xs rows l kept a x
      back a x (inner k i) = i
      back a x (here k i) = absurd (omega arith)

  pub source_here : (c : ℕ) → q.depth ≤ l → c ≡ q.own → Merged (Cell c 0) d e → Merged (Source xs rows q l kept) d e
  source_here c h ec m = merged_same (λ a x i. here h i) (λ a x i. back a x i) (rw ec at m)
    where
      back : (a x : ℕ) → Source xs rows q l kept a x → Cell q.own 0 a x
      back a x (inner k i) = absurd (omega arith)
      back a x (here k i) = i

-- Rows in common: the first i of two lists are the same.
pub record SameRows (a b : List ℕ) (i : ℕ) : Type 0 where
  pub at : (j : ℕ) → j < i → get_or a j 0 ≡ get_or b j 0

pub same-begin : (a b : List ℕ) → SameRows a b 0
same-begin a b = record { at = λ j h. absurd (omega arith) }

pub same-on : {a b : List ℕ} {i : ℕ} → SameRows a b i → get_or a i 0 ≡ get_or b i 0 → SameRows a b (i + 1)
same-on {a} {b} {i} s e = record { at = λ j h. go j h (ℕ_discrete j i) }
  where
    go : (j : ℕ) → j < i + 1 → Dec (j ≡ i) → get_or a j 0 ≡ get_or b j 0
    go j h (yes p) = rw p e
    go j h (no n) = s.at j (omega arith)

-- No more of them are.
module _ {a b : List ℕ} {n m i : ℕ} (s : SameRows a b i) (h : i ≤ n) (k : i ≤ m) where
  pub common_all : i ≡ min n m → Common a n b m i
  common_all l = record { first = h; second = k; same = s.at; differ = λ x y. absurd (omega arith) }

  pub common_differ : get_or a i 0 ≢ get_or b i 0 → Common a n b m i
  common_differ d = record { first = h; second = k; same = s.at; differ = λ x y. d }
