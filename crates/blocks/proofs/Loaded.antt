-- What the rows and the index of a loaded show say of its blocks.
use Prim.Native.Nat.{ℕ, zero, suc, ◌+◌, ◌*◌, ◌-◌, ◌≤◌, ◌<◌}
use native.Mathlib.Omega.{arith}
use mathlib.Core.Path.{◌≡◌, refl, sym, ◌∙◌, ap}
use mathlib.Core.Logic.{◌⊎◌, inl, inr}
use mathlib.Core.List.{List, [], ◌∷◌, ◌++◌, Memᴰ}
use lib.ListN.{length, get_or}
use lib.Seq.{get_or-take}
use Rattle.model.specs.Limits.{row_size, max_rows, max_joins, max_own, max_blocks, max_total}
use Rattle.model.specs.Rows.{cell, row_at, row_count}
use Rattle.model.specs.Blocks.{Link, Use, Block, block_at, joins_of, own_of, total, blocks_of, last_block, count}
use Rattle.shows.specs.Accepted.{Show}
use Rattle.shows.proofs.Accepted.{accepted-show}
use Rattle.shows.proofs.AtBlock.{joins-small, own-small}
use Rattle.shows.proofs.BlockAt.{good-at, lower-at, joins_of-at, own_of_at}
use Rattle.verdicts.specs.Index.{link_at, links_from, use_at, uses_from, block_from, IndexedBlock}
use Rattle.blocks.specs.Loaded.{Loaded, IsBlock, LinkRows, UseRows, column_at, LinkRow, UseRow}
use Rattle.shows.proofs.LastRow.{last_row}

-- The links of rows: how many, the one of a row, one more.
pub links_from-length : (xs : List ℕ) (a n : ℕ) → length (links_from xs a n) ≡ n
unfolding links_from
links_from-length xs a zero = refl
links_from-length xs a (suc n) = ap suc (links_from-length xs (a + 1) n)

pub links_from-mem : (xs : List ℕ) (a n i : ℕ) → i < n → Memᴰ (link_at xs (a + i)) (links_from xs a n)
unfolding links_from
links_from-mem xs a zero i h = absurd (omega arith)
links_from-mem xs a (suc n) zero h = let e : a + 0 ≡ a = omega arith in rw e (mathlib.Core.List.Memᴰ.head refl)
links_from-mem xs a (suc n) (suc i) h = let e : a + suc i ≡ a + 1 + i = omega arith in rw e (mathlib.Core.List.Memᴰ.tail (links_from-mem xs (a + 1) n i (omega arith)))

pub mem-links_from : (xs : List ℕ) (a n : ℕ) (x : Link) → Memᴰ x (links_from xs a n) → (r : ℕ) × (a ≤ r) × (r < a + n) × (x ≡ link_at xs r)
unfolding links_from
mem-links_from xs a zero x m = absurd (mathlib.Core.List.Memᴰ.not-nil m)
mem-links_from xs a (suc n) x m = go (λ i. mem-links_from xs (a + 1) n x i) (mathlib.Core.List.Memᴰ.cases_cons m)
  where
    go : (Memᴰ x (links_from xs (a + 1) n) → (r : ℕ) × (a + 1 ≤ r) × (r < a + 1 + n) × (x ≡ link_at xs r))
        → (x ≡ link_at xs a) ⊎ Memᴰ x (links_from xs (a + 1) n) → (r : ℕ) × (a ≤ r) × (r < a + suc n) × (x ≡ link_at xs r)
    go rest (inl e) = (a, omega arith, omega arith, e)
    go rest (inr i) = let (r, h, l, e) = rest i in (r, omega arith, omega arith, e)

-- The uses of rows.
pub uses_from-length : (xs : List ℕ) (bs : List Block) (a n : ℕ) → length (uses_from xs bs a n) ≡ n
unfolding uses_from
uses_from-length xs bs a zero = refl
uses_from-length xs bs a (suc n) = ap suc (uses_from-length xs bs (a + 1) n)

pub uses_from-at : (xs : List ℕ) (bs : List Block) (a n i : ℕ) (d : Use) → i < n → get_or (uses_from xs bs a n) i d ≡ use_at xs bs (a + i)
unfolding uses_from
uses_from-at xs bs a zero i d h = absurd (omega arith)
uses_from-at xs bs a (suc n) zero d h = let e : a + 0 ≡ a = omega arith in rw e refl
uses_from-at xs bs a (suc n) (suc i) d h = let e : a + suc i ≡ a + 1 + i = omega arith in rw e (uses_from-at xs bs (a + 1) n i d (omega arith))

pub uses_from-snoc : (xs : List ℕ) (bs : List Block) (a n : ℕ) → uses_from xs bs a (suc n) ≡ uses_from xs bs a n ++ use_at xs bs (a + n) ∷ []
unfolding uses_from
uses_from-snoc xs bs a zero = let e : a + 0 ≡ a = omega arith in rw e refl
uses_from-snoc xs bs a (suc n) = let e : a + suc n ≡ a + 1 + n = omega arith in rw e (ap (λ zs. use_at xs bs a ∷ zs) (uses_from-snoc xs bs (a + 1) n))

pub uses_from-mem : (xs : List ℕ) (bs : List Block) (a n i : ℕ) → i < n → Memᴰ (use_at xs bs (a + i)) (uses_from xs bs a n)
unfolding uses_from
uses_from-mem xs bs a zero i h = absurd (omega arith)
uses_from-mem xs bs a (suc n) zero h = let e : a + 0 ≡ a = omega arith in rw e (mathlib.Core.List.Memᴰ.head refl)
uses_from-mem xs bs a (suc n) (suc i) h = let e : a + suc i ≡ a + 1 + i = omega arith in rw e (mathlib.Core.List.Memᴰ.tail (uses_from-mem xs bs (a + 1) n i (omega arith)))

pub mem-uses_from : (xs : List ℕ) (bs : List Block) (a n : ℕ) (x : Use) → Memᴰ x (uses_from xs bs a n) → (r : ℕ) × (a ≤ r) × (r < a + n) × (x ≡ use_at xs bs r)
unfolding uses_from
mem-uses_from xs bs a zero x m = absurd (mathlib.Core.List.Memᴰ.not-nil m)
mem-uses_from xs bs a (suc n) x m = go (λ i. mem-uses_from xs bs (a + 1) n x i) (mathlib.Core.List.Memᴰ.cases_cons m)
  where
    go : (Memᴰ x (uses_from xs bs (a + 1) n) → (r : ℕ) × (a + 1 ≤ r) × (r < a + 1 + n) × (x ≡ use_at xs bs r))
        → (x ≡ use_at xs bs a) ⊎ Memᴰ x (uses_from xs bs (a + 1) n) → (r : ℕ) × (a ≤ r) × (r < a + suc n) × (x ≡ use_at xs bs r)
    go rest (inl e) = (a, omega arith, omega arith, e)
    go rest (inr i) = let (r, h, l, e) = rest i in (r, omega arith, omega arith, e)

pub uses_from-next : (xs : List ℕ) (bs : List Block) (i e : ℕ) → i < e → uses_from xs bs i (e - i) ≡ use_at xs bs i ∷ uses_from xs bs (i + 1) (e - (i + 1))
unfolding uses_from
uses_from-next xs bs i e h = let q : e - i ≡ suc (e - (i + 1)) = omega arith in rw q

pub links_from-next : (xs : List ℕ) (i e : ℕ) → i < e → links_from xs i (e - i) ≡ link_at xs i ∷ links_from xs (i + 1) (e - (i + 1))
unfolding links_from
links_from-next xs i e h = let q : e - i ≡ suc (e - (i + 1)) = omega arith in rw q

-- The columns of a use's row.
column-at : (xs : List ℕ) (r j : ℕ) → j < max_joins → get_or (row_at xs r).columns j 0 ≡ column_at xs r j
unfolding row_at
column-at xs r zero h = refl
column-at xs r (suc zero) h = refl
column-at xs r (suc (suc zero)) h = refl
column-at xs r (suc (suc (suc zero))) h = refl
column-at xs r (suc (suc (suc (suc zero)))) h = refl
column-at xs r (suc (suc (suc (suc (suc zero))))) h = refl
column-at xs r (suc (suc (suc (suc (suc (suc zero)))))) h = refl
column-at xs r (suc (suc (suc (suc (suc (suc (suc zero))))))) h = refl
column-at xs r (suc (suc (suc (suc (suc (suc (suc (suc j)))))))) h = absurd (omega arith)

pub use_block : (xs : List ℕ) (bs : List Block) (r : ℕ) → (use_at xs bs r).block ≡ cell xs r 2
unfolding use_at
use_block xs bs r = refl

use_column : (xs : List ℕ) (bs : List Block) (r j : ℕ) → j < joins_of bs (use_at xs bs r).block → j < max_joins → get_or (use_at xs bs r).at j 0 ≡ column_at xs r j
unfolding use_at
use_column xs bs r j h l = get_or-take (joins_of bs (cell xs r 2)) (row_at xs r).columns j 0 h ∙ column-at xs r j l

-- A loaded show is a show.
pub loaded-show : {xs t : List ℕ} → Loaded xs t → Show xs
loaded-show {xs} g = accepted-show xs g.accepted

module _ {xs t : List ℕ} (g : Loaded xs t) (k : ℕ) (h : IsBlock xs k) where
  abbrev bs : List Block
  bs = blocks_of xs

  at : IndexedBlock xs t k
  at = g.index.at k h

  pub block-few : k < max_blocks
  block-few = omega (arith, (loaded-show g).blocks)

  first : 4 * k + 0 ≡ 4 * k
  first = omega arith

  pub opening-there : get_or t (4 * k + 0) 0 < row_count xs
  opening-there = rw first (omega (arith, at.opens, at.links, at.ends))

  pub own-cell : cell xs (get_or t (4 * k + 0) 0) 3 ≡ own_of bs k
  unfolding block_from
  own-cell = rw first (sym (own_of_at bs k ∙ ap (λ (b : Block). b.own) at.block))

  pub joins-cell : cell xs (get_or t (4 * k + 0) 0) 2 ≡ joins_of bs k
  unfolding block_from
  joins-cell = rw first (sym (joins_of-at bs k ∙ ap (λ (b : Block). b.joins) at.block))

  pub own-few : own_of bs k ≤ max_own
  own-few = own-small k (loaded-show g).small

  pub joins-few : joins_of bs k ≤ max_joins
  joins-few = joins-small k (loaded-show g).small

  pub total-few : total bs k ≤ max_total
  total-few = (loaded-show g).totals k

  rows_few : row_count xs ≤ max_rows
  rows_few = (loaded-show g).rows.1

  -- As results of functions.
  pub own_read : (a b v : ℕ) → a ≡ get_or t (4 * k + 0) 0 → b ≡ a → v ≡ cell xs b 3 → (v ≡ own_of bs k) × (v ≤ max_own)
  own_read a b v x y z =
      let r : v ≡ own_of bs k = z ∙ ap (λ n. cell xs n 3) (y ∙ x) ∙ own-cell in
      (r, omega (arith, own-few))

  pub joins-read : (a b c v : ℕ) → a ≡ get_or t (4 * k + 0) 0 → b ≡ a → c ≡ cell xs b 2 → v ≡ c → (v ≡ joins_of bs k) × (v ≤ max_joins)
  joins-read a b c v x y z w =
      let r : v ≡ joins_of bs k = w ∙ z ∙ ap (λ n. cell xs n 2) (y ∙ x) ∙ joins-cell in
      (r, omega (arith, joins-few))

  pub opening-read : (a b : ℕ) → a ≡ get_or t (4 * k + 0) 0 → b ≡ a → b < row_count xs
  opening-read a b x y = omega (arith, opening-there)

  pub total-read : (v : ℕ) → v ≡ get_or t (4 * k + 3) 0 → (v ≡ total bs k) × (v ≤ max_total)
  total-read v e = let r : v ≡ total bs k = e ∙ at.total in (r, omega (arith, total-few))

  pub link-rows : (a b c d : ℕ) → a ≡ get_or t (4 * k + 0) 0 → b ≡ a → c ≡ get_or t (4 * k + 1) 0 → d ≡ c → LinkRows xs k (b + 1) d
  unfolding block_from
  link-rows a b c d x y z w =
      let p : b ≡ get_or t (4 * k) 0 = y ∙ x ∙ (rw first refl) in
      let q : d ≡ get_or t (4 * k + 1) 0 = w ∙ z in
      record {
        opened = omega (arith, at.opening);
        order = omega (arith, at.opens);
        there = omega (arith, at.links, at.ends);
        few = omega (arith, at.links, at.ends, rows_few);
        links = rw (p, q) (ap (λ (b : Block). b.links) at.block);
      }

  pub use_rows : (a b c d : ℕ) → a ≡ get_or t (4 * k + 1) 0 → b ≡ a → c ≡ get_or t (4 * k + 2) 0 → d ≡ c → UseRows xs t k b d
  unfolding block_from
  use_rows a b c d x y z w =
      let p : b ≡ get_or t (4 * k + 1) 0 = y ∙ x in
      let q : d ≡ get_or t (4 * k + 2) 0 = w ∙ z in
      record {
        begin = p;
        order = omega (arith, at.links);
        there = omega (arith, at.ends);
        few = omega (arith, at.ends, rows_few);
        uses = rw (p, q) (ap (λ (b : Block). b.uses) at.block);
      }

  -- A row among those of the links, and of the uses.
  pub link_row : {a e : ℕ} (r : ℕ) → LinkRows xs k a e → a ≤ r → r < e → LinkRow xs k r
  link_row {a} {e} r rows x y =
      let z : a + (r - a) ≡ r = omega arith in
      let m : Memᴰ (link_at xs r) (block_at bs k).links =
      rw rows.links (rw z at (links_from-mem xs a (e - a) (r - a) (omega arith))) in
      record {
        there = omega (arith, rows.there);
        few = omega (arith, rows.few);
        member = m;
        good = (good-at bs (loaded-show g).good k).links (link_at xs r) m;
      }

  pub use_row : {a e : ℕ} (r : ℕ) → UseRows xs t k a e → a ≤ r → r < e → UseRow xs k r
  use_row {a} {e} r rows x y =
      let z : a + (r - a) ≡ r = omega arith in
      let m : Memᴰ (use_at xs bs r) (block_at bs k).uses =
      rw rows.uses (rw z at (uses_from-mem xs bs a (e - a) (r - a) (omega arith))) in
      record {
        there = omega (arith, rows.there);
        few = omega (arith, rows.few);
        block = h;
        member = m;
        good = (good-at bs (loaded-show g).good k).uses (use_at xs bs r) m;
        lower = lower-at bs (loaded-show g).good k (use_at xs bs r) m;
        columns = λ j l. use_column xs bs r j l (omega (arith, joins-small (use_at xs bs r).block (loaded-show g).small));
      }

-- The use of row r names a block of the show.
pub used_block : {xs : List ℕ} {k r : ℕ} (u : ℕ) → UseRow xs k r → u ≡ (use_at xs (blocks_of xs) r).block → IsBlock xs u
used_block u o e = omega (arith, o.lower, o.block)

-- The last block, by the last row.
pub last-cell : {xs t : List ℕ} → Loaded xs t → (11 ≤ length xs) × (get_or xs (length xs - 11) 0 ≡ last_block (blocks_of xs))
unfolding cell row_count
last-cell {xs} g =
    let show : Show xs = loaded-show g in
    let p : length xs - 11 ≡ (row_count xs - 1) * row_size + 0 = omega (arith, show.whole, show.rows) in
    (omega (arith, show.rows), rw p (last_row xs g.accepted))

pub last-read : {xs t : List ℕ} (n v : ℕ) → Loaded xs t → n ≡ get_or xs (length xs - 11) 0 → v ≡ n → (v ≡ last_block (blocks_of xs)) × IsBlock xs v
unfolding last_block
last-read n v g x y =
    let r : v ≡ last_block (blocks_of _) = y ∙ x ∙ (last-cell g).1 in
    (r, omega (arith, (loaded-show g).blocks))

pub count-read : (xs : List ℕ) (k v : ℕ) → k ≡ last_block (blocks_of xs) → v ≡ total (blocks_of xs) k → v ≡ count (blocks_of xs)
unfolding count
count-read xs k v x y = y ∙ ap (total (blocks_of xs)) x
