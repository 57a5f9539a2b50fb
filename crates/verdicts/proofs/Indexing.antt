-- The table that the pass leaves is the index of the blocks.
use Prim.Native.Nat.{ℕ, zero, suc, ◌+◌, ◌*◌, ◌-◌, ◌≤◌, ◌<◌}
use native.Mathlib.Omega.{arith}
use native.Mathlib.Decide.{ℕ_discrete, dec_lt}
use mathlib.Core.Path.{◌≡◌, refl, sym, ◌∙◌, ap}
use mathlib.Core.Bool.{true}
use mathlib.Core.List.Memᴰ
use mathlib.Core.List.{List, [], ◌∷◌, ◌++◌}
use lib.ListN.{length, get_or, take}
use Rattle.model.specs.Choice.{if_eq, if_lt}
use Rattle.model.specs.Limits.{row_size, max_own, max_blocks}
use Rattle.model.specs.Rows.{Row, cell, row_at}
use Rattle.model.specs.Rules.{Seen, start, goes_on, may_follow, fault, after}
use Rattle.model.specs.Blocks.{Link, Use, Block, joins_of, add_link, add_use, add_row}
use Rattle.shows.specs.WellFormed.{Good, more}
use Rattle.basics.proofs.Choices.{eq_then, eq_else, lt_then, lt_else, passed, passed-lt}
use Rattle.shows.proofs.AtBlock.{joins-hit, joins-skip, joins-beyond, joins-small, head_small}
use Rattle.shows.proofs.Accepted.{opening-length, other_length}
use Rattle.shows.proofs.Passed.{Passed, faultless, Kind, opens, links, uses, kind-of}
use Rattle.shows.proofs.Tracks.{Tracks, tracks_step}
use Rattle.rules.specs.Faults.{fault_of}
use Rattle.rules.proofs.Model.{fault-law}
use Rattle.verdicts.specs.Index.{link_at, use_at, block_from}
use Rattle.verdicts.specs.Passing.{put_at, open_indexed, use_indexed, row_indexed, joins_at, many_of, Many, seen_to, state_to, table_to, blocks_to, Fine}
use Rattle.verdicts.proofs.Known.{KnownRows, known, after-before}
use Rattle.verdicts.proofs.Tables.{TableFor, table-start, open_table, link-table, use_table}

-- The joins of a block stay as they are when rows are added.
joins-first : (b b' : Block) (bs : List Block) (k : ℕ) → b.joins ≡ b'.joins → joins_of (b ∷ bs) k ≡ joins_of (b' ∷ bs) k
joins-first b b' bs k e = go (ℕ_discrete k (length bs))
  where
    go : Dec (k ≡ length bs) → joins_of (b ∷ bs) k ≡ joins_of (b' ∷ bs) k
    go (yes q) = joins-hit b bs k q ∙ e ∙ sym (joins-hit b' bs k q)
    go (no n) = joins-skip b bs k n ∙ sym (joins-skip b' bs k n)

joins-link : (bs : List Block) (l : Link) (k : ℕ) → joins_of (add_link l bs) k ≡ joins_of bs k
unfolding add_link
joins-link [] l k = refl
joins-link (b ∷ bs) l k = joins-first _ b bs k refl

joins-use : (bs : List Block) (u : Use) (k : ℕ) → joins_of (add_use u bs) k ≡ joins_of bs k
unfolding add_use
joins-use [] u k = refl
joins-use (b ∷ bs) u k = joins-first _ b bs k refl

joins-add : (bs : List Block) (w : Row) (k : ℕ) → k < length bs → joins_of (add_row bs w) k ≡ joins_of bs k
unfolding add_row
joins-add bs w k h = go (ℕ_discrete w.kind 0) (ℕ_discrete w.kind 1)
  where
    l : Link
    l = record { from = get_or w.columns 0 0; to = get_or w.columns 1 0; label = w.label }

    u : Use
    u = record { block = w.label; at = take (joins_of bs w.label) w.columns }

    b : Block
    b = record { joins = w.label; own = get_or w.columns 0 0; links = []; uses = [] }

    go : Dec (w.kind ≡ 0) → Dec (w.kind ≡ 1) → joins_of (if_eq w.kind 0 (b ∷ bs) (if_eq w.kind 1 (add_link l bs) (add_use u bs))) k ≡ joins_of bs k
    go (yes q) d = rw (eq_then w.kind 0 (b ∷ bs) (if_eq w.kind 1 (add_link l bs) (add_use u bs)) q) (joins-skip b bs k (λ e. omega arith))
    go (no n) (yes q) = rw (eq_else w.kind 0 (b ∷ bs) (if_eq w.kind 1 (add_link l bs) (add_use u bs)) n, eq_then w.kind 1 (add_link l bs) (add_use u bs) q) (joins-link bs l k)
    go (no n) (no m) = rw (eq_else w.kind 0 (b ∷ bs) (if_eq w.kind 1 (add_link l bs) (add_use u bs)) n, eq_else w.kind 1 (add_link l bs) (add_use u bs) m) (joins-use bs u k)

-- So the blocks of all rows have the joins that the blocks so far have.
length-add : (bs : List Block) (w : Row) → length bs ≤ length (add_row bs w)
length-add bs w = go (ℕ_discrete w.kind 0)
  where
    go : Dec (w.kind ≡ 0) → length bs ≤ length (add_row bs w)
    go (yes q) = omega (arith, opening-length bs w q)
    go (no n) = omega (arith, other_length bs w n)

pub kept : (xs : List ℕ) (n r k : ℕ) → k < length (blocks_to xs r) → joins_of (blocks_to xs (r + n)) k ≡ joins_of (blocks_to xs r) k
unfolding blocks_to
kept xs zero r k h = let e : r + 0 ≡ r = omega arith in rw e
kept xs (suc n) r k h =
    let e : r + suc n ≡ suc r + n = omega arith in
    rw e (kept xs n (suc r) k (omega (arith, length-add (blocks_to xs r) (row_at xs r))) ∙ joins-add (blocks_to xs r) (row_at xs r) k h)

-- The row's kind, once it has passed, and what the table holds after it.
table-cast : {xs : List ℕ} {all : List Block} {t t' : List ℕ} {r : ℕ} {bs bs' : List Block} {kind kind' : ℕ} → t ≡ t' → bs ≡ bs' → kind ≡ kind'
    → TableFor xs all t r bs kind → TableFor xs all t' r bs' kind'
table-cast e f g x = rw (e, f, g) at x

module _ (xs : List ℕ) (all : List Block) (r : ℕ) (k : KnownRows xs r) (ok : fault (seen_to xs r) (row_at xs r) ≡ 0)
    (same : (j : ℕ) → j < length (blocks_to xs r) → joins_of all j ≡ joins_of (blocks_to xs r) j) where
  abbrev pub s : Seen
  s = seen_to xs r

  abbrev pub w : Row
  w = row_at xs r

  abbrev pub bs : List Block
  bs = blocks_to xs r

  p : Passed s w
  p = faultless s w ok

  block-is : get_or xs (r * row_size) 0 ≡ w.block
  unfolding row_at cell
  block-is = let e : r * row_size ≡ r * row_size + 0 = omega arith in ap (λ (i : ℕ). get_or xs i 0) e

  kind-is : get_or xs (r * row_size + 1) 0 ≡ w.kind
  unfolding row_at cell
  kind-is = refl

  eight : length w.columns ≡ 8
  unfolding row_at
  eight = refl

  tracked : Tracks (after s w) (add_row bs w)
  tracked = tracks_step s w bs eight ok k.tracks

  -- A link comes before the uses.
  before-uses : w.kind ≡ 1 → s.before.kind < 2
  unfolding may_follow
  before-uses q =
      let n : w.kind ≡ 0 → ⊥ = λ e. omega arith in
      let e = rw (eq_then w.kind 1 _ _ q) at (rw (eq_else w.kind 0 _ _ n) at p.follows) in
      (passed-lt s.before.kind 2 true (passed (goes_on s w) _ e).1).0

  -- What the table holds after the row, by its kind.
  pub open_indexed_lem : w.kind ≡ 0 → table_to xs (suc r) ≡ open_indexed (table_to xs r) (w.block * 4) r (cell xs r 3)
  unfolding table_to row_indexed row_at cell
  open_indexed_lem q = rw block-is (eq_then _ _ _ _ q)

  pub link-indexed : w.kind ≡ 1 → table_to xs (suc r) ≡ put_at (put_at (table_to xs r) (w.block * 4 + 2) (r + 1)) (w.block * 4 + 1) (r + 1)
  unfolding table_to row_indexed row_at cell
  link-indexed q = rw block-is (eq_else _ _ _ _ (λ e. omega arith) ∙ eq_then _ _ _ _ q)

  pub use_indexed_lem : w.kind ≡ 2 → table_to xs (suc r) ≡ use_indexed (put_at (table_to xs r) (w.block * 4 + 2) (r + 1)) (w.block * 4) w.label
  unfolding table_to row_indexed row_at cell
  use_indexed_lem q = rw block-is (eq_else _ _ _ _ (λ e. omega arith) ∙ eq_else _ _ _ _ (λ e. omega arith))

  blocks-open : w.kind ≡ 0 → add_row bs w ≡ record { joins = cell xs r 2; own = cell xs r 3; links = []; uses = [] } ∷ bs
  unfolding add_row row_at
  blocks-open q = eq_then _ _ _ _ q

  blocks-link : w.kind ≡ 1 → add_row bs w ≡ add_link (link_at xs r) bs
  unfolding add_row row_at link_at
  blocks-link q = eq_else _ _ _ _ (λ e. omega arith) ∙ eq_then _ _ _ _ q

  blocks-use : w.kind ≡ 2 → add_row bs w ≡ add_use (record { block = w.label; at = take (joins_of bs w.label) w.columns }) bs
  unfolding add_row
  blocks-use q = eq_else _ _ _ _ (λ e. omega arith) ∙ eq_else _ _ _ _ (λ e. omega arith)

  last-lower : {b : Block} {cs : List Block} (us : List Use) (u : Use) → b.uses ≡ us ++ (u ∷ []) → Good (b ∷ cs) → u.block < length cs
  last-lower us u e (more g gs) = (g.uses u (rw e (Memᴰ.append_right us (Memᴰ.head refl)))).lower

  count-is : length s.joins ≡ length bs
  count-is = k.tracks.count

  abbrev Now : Type 0
  Now = TableFor xs all (table_to xs r) r bs s.before.kind

  abbrev Next : Type 0
  Next = TableFor xs all (table_to xs (suc r)) (suc r) (add_row bs w) w.kind

  next-open : Now → w.kind ≡ 0 → w.block ≡ length s.joins → length s.joins < max_blocks → Next
  next-open T q h few =
      let own : cell xs r 3 ≤ max_own = (head_small (rw (blocks-open q) at tracked.small)).0 in
      let room : length bs < max_blocks = omega (arith, count-is) in
      let at : w.block ≡ length bs = h ∙ count-is in
      table-cast (sym (rw at at (open_indexed_lem q))) (sym (blocks-open q)) (sym q) (open_table xs all (table_to xs r) r bs s.before.kind T room own)

  -- The row's own block is the last one opened.
  current : (b : Block) (earlier : List Block) → bs ≡ b ∷ earlier → w.block + 1 ≡ length s.joins → w.block ≡ length earlier
  current b earlier e h = let f : length bs ≡ suc (length earlier) = ap length e in omega (arith, count-is)

  next-link : (b : Block) (earlier : List Block) → bs ≡ b ∷ earlier → Now → w.kind ≡ 1 → w.block + 1 ≡ length s.joins → Next
  unfolding add_link
  next-link b earlier e T q h =
      let at : w.block ≡ length earlier = current b earlier e h in
      let few : length bs ≤ max_blocks = k.tracks.few in
      let f : length bs ≡ suc (length earlier) = ap length e in
      let room : length earlier < max_blocks = omega arith in
      table-cast (sym (rw at at (link-indexed q))) (sym (blocks-link q ∙ ap (add_link (link_at xs r)) e)) (sym q)
      (link-table xs all (table_to xs r) r b earlier s.before.kind (rw e at T) room (before-uses q))

  use_cues : w.label < length bs → take (joins_of bs w.label) w.columns ≡ (use_at xs all r).at
  unfolding use_at row_at cell
  use_cues h = ap (λ (n : ℕ). take n w.columns) (sym (same w.label h))

  label_is : w.label ≡ cell xs r 2
  unfolding row_at
  label_is = refl

  next-use : (b : Block) (earlier : List Block) → bs ≡ b ∷ earlier → Now → w.kind ≡ 2 → w.block + 1 ≡ length s.joins → Next
  unfolding add_use use_indexed
  next-use b earlier e T q h =
      let at : w.block ≡ length earlier = current b earlier e h in
      let few : length bs ≤ max_blocks = k.tracks.few in
      let f : length bs ≡ suc (length earlier) = ap length e in
      let room : length earlier < max_blocks = omega arith in
      let u : Use = record { block = w.label; at = take (joins_of bs w.label) w.columns } in
      let g : add_row bs w ≡ add_use u (b ∷ earlier) = blocks-use q ∙ ap (add_use u) e in
      let lower : w.label < length earlier = last-lower b.uses u refl (rw g at tracked.good) in
      table-cast (sym (rw at at (use_indexed_lem q))) (sym g) (sym q)
      (use_table xs all (table_to xs r) r b earlier s.before.kind (rw e at T) room w.label lower (take (joins_of bs w.label) w.columns)
      (use_cues (omega arith)) label_is)

  none_open : (n : ℕ) → bs ≡ [] → n + 1 ≡ length s.joins → ⊥
  none_open n e h = let f : length bs ≡ 0 = ap length e in omega (arith, count-is)

  some_block : (cs : List Block) → bs ≡ cs → Now → Kind s w → Next
  some_block cs e T (opens q h few) = next-open T q h few
  some_block [] e T (links q h) = absurd (none_open _ e h)
  some_block [] e T (uses q h) = absurd (none_open _ e h)
  some_block (b ∷ earlier) e T (links q h) = next-link b earlier e T q h
  some_block (b ∷ earlier) e T (uses q h) = next-use b earlier e T q h

  pub next-table : Now → Next
  next-table T = some_block bs refl T (kind-of s w p.follows)

-- The table after each row; n is how many rows follow.
pub tables : (xs : List ℕ) (n r : ℕ) → Fine xs r → TableFor xs (blocks_to xs (r + n)) (table_to xs r) r (blocks_to xs r) (seen_to xs r).before.kind
unfolding table_to blocks_to seen_to start
tables xs n zero f = table-start xs (blocks_to xs (0 + n))
tables xs n (suc r) f =
    let e : r + suc n ≡ suc r + n = omega arith in
    let g : Fine xs r = λ q h. f q (omega arith) in
    let k : KnownRows xs r = known xs r g in
    let ok = f r (omega arith) in
    table-cast refl refl (ap (λ (v : Row). v.kind) (sym (after-before xs r k ok)))
    (rw e at (next-table xs (blocks_to xs (r + suc n)) r k ok (λ j h. kept xs (suc n) r j h) (tables xs (suc n) r g)))

-- The joins of a block that was opened, by the table.
joins-by_table : (xs : List ℕ) (all bs : List Block) (t : List ℕ) (r kind k : ℕ) → TableFor xs all t r bs kind → k < length bs → joins_at xs t k ≡ joins_of bs k
unfolding joins_at joins_of block_from cell
joins-by_table xs all bs t r kind k T h = ap (λ (b : Block). b.joins) (sym (T.each k h).block)

-- How many cues a use names, as the code finds it and as the checks know it.
module _ (xs : List ℕ) (r : ℕ) (f : Fine xs r) where
  k : KnownRows xs r
  k = known xs r f

  T : TableFor xs (blocks_to xs (r + 0)) (table_to xs r) r (blocks_to xs r) (seen_to xs r).before.kind
  T = tables xs 0 r f

  abbrev many : ℕ
  many = many_of xs (table_to xs r) (r * row_size) (state_to xs r).blocks

  many-use : (row_at xs r).kind ≡ 2 → many ≡ get_or (seen_to xs r).joins (row_at xs r).label 0
  unfolding many_of row_at cell
  many-use q = eq_then _ _ _ _ q ∙ go (dec_lt (get_or xs (r * row_size + 2) 0) (state_to xs r).blocks)
    where
      label : ℕ
      label = get_or xs (r * row_size + 2) 0

      go : Dec (label < (state_to xs r).blocks)
          → if_lt label (state_to xs r).blocks (if_lt 8 (joins_at xs (table_to xs r) label) 0 (joins_at xs (table_to xs r) label)) 0
          ≡ get_or (seen_to xs r).joins label 0
      go (yes h) =
          let b : label < length (blocks_to xs r) = omega (arith, k.blocks, k.tracks.count) in
          let j : joins_at xs (table_to xs r) label ≡ joins_of (blocks_to xs r) label = joins-by_table xs _ _ _ r _ label T b in
          let small : joins_of (blocks_to xs r) label ≤ 8 = joins-small label k.tracks.small in
          lt_then _ _ _ _ h ∙ lt_else _ _ _ _ (rw j small) ∙ j ∙ sym (k.tracks.joins label)
      go (no h) =
          let b : length (blocks_to xs r) ≤ label = omega (arith, k.blocks, k.tracks.count) in
          lt_else _ _ _ _ (omega arith) ∙ sym (k.tracks.joins label ∙ joins-beyond (blocks_to xs r) label b)

  -- What the code finds at row r is what the model's checks say of it.
  pub fault-is : (m : ℕ) → Many many m
      → fault_of xs (r * row_size) ((r - 1) * row_size) (state_to xs r).blocks (state_to xs r).cues (state_to xs r).kind m ≡ fault (seen_to xs r) (row_at xs r)
  fault-is m x =
      rw (k.blocks, k.cues, k.kind)
      (fault-law (seen_to xs r) xs r (r - 1) k.same m x.few (λ q. x.same ∙ many-use q))
