-- The blocks that rows make, when the rows have passed: each block has the joins and the own cues of the row that opens it, and its links
-- and uses are its link rows and use rows.
use Prim.Native.Nat.{ℕ, suc, ◌+◌, ◌-◌, ◌<◌}
use native.Mathlib.Omega.{arith}
use native.Mathlib.Decide.{ℕ_discrete}
use mathlib.Core.Path.{◌≡◌, refl, sym, ◌∙◌, ap}
use mathlib.Core.List.{List, [], ◌∷◌}
use lib.ListN.{length, take}
use Rattle.model.specs.Rows.{Row, row_count, rows_of}
use Rattle.model.specs.Blocks.{Link, Use, Block, block_at, joins_of, add_link, add_use, add_row, add_rows, blocks_of}
use Rattle.basics.proofs.Choices.{eq_then, eq_else}
use Rattle.shows.proofs.BlockAt.{joins_of-at}
use Rattle.demands.specs.Acceptance.{nth_row, IsRow, column, opening_in, joins_in, own_in, Opens, Links, Uses}
use Rattle.demands.specs.Blocks.{AreBlocks}
use Rattle.demands.proofs.Openings.{OpenedBefore, Comes, opening, link, later-use, from_place, opened-next}
use Rattle.demands.proofs.Stages.{by_rows}
use Rattle.demands.proofs.RowByRow.{RowsPassed}
use Rattle.demands.proofs.PartsOfRows.{
  block-hit,
  block-skip,
  link-part,
  use_part,
  Goes,
  part-opens,
  part-grows,
  part_stays,
  part-whole,
}

-- A row that opens block k, which is b.
pub record OpenedBy (xs : List ℕ) (k : ℕ) (b : Block) : Type 0 where
  pub row : ℕ
  pub is : IsRow xs row
  pub opens : Opens (nth_row xs row)
  pub block : (nth_row xs row).block ≡ k
  pub joins : b.joins ≡ (nth_row xs row).label
  pub own : b.own ≡ column (nth_row xs row) 1

-- Every block has one.
abbrev AllOpened : List ℕ → List Block → Type 0
AllOpened xs bs = (k : ℕ) → k < length bs → OpenedBy xs k (block_at bs k)

-- Another last block with the same joins and own cues is opened by the same row.
opened-still : (xs : List ℕ) (b c : Block) (earlier : List Block) → AllOpened xs (b ∷ earlier) → c.joins ≡ b.joins → c.own ≡ b.own
    → AllOpened xs (c ∷ earlier)
opened-still xs b c earlier all j o k h = at (ℕ_discrete k (length earlier))
  where
    at : Dec (k ≡ length earlier) → OpenedBy xs k (block_at (c ∷ earlier) k)
    at (yes z) =
        let by : OpenedBy xs k b = rw (block-hit b earlier k z) at (all k h) in
        rw (block-hit c earlier k z)
        (record { row = by.row; is = by.is; opens = by.opens; block = by.block; joins = j ∙ by.joins; own = o ∙ by.own })
    at (no n) = rw (block-skip c earlier k n) (rw (block-skip b earlier k n) at (all k h))

-- The blocks bs become cs, and of the rows ws that are to come vs are left.
record Makes (xs : List ℕ) (bs : List Block) (ws : List Row) (cs : List Block) (vs : List Row) : Type 0 where
  opened : AllOpened xs cs
  links : Goes link-part bs ws cs vs
  uses : Goes (use_part (joins_in xs)) bs ws cs vs

-- Of rows that have passed.
module _ (xs : List ℕ) (passed : RowsPassed xs) where
  -- The row that opens a block is the first that does, so the block's joins and own cues are those that the rows say.
  module _ (k : ℕ) (b : Block) (o : OpenedBy xs k b) where
    opening-is : opening_in (rows_of xs) k ≡ nth_row xs o.row
    opening-is =
        ap (opening_in (rows_of xs)) (sym o.block) ∙ passed.knows.first o.row o.is.0 (omega (arith, o.is)) o.opens

    joins-is : b.joins ≡ joins_in xs k
    unfolding joins_in
    joins-is = o.joins ∙ ap (λ (w : Row). w.label) (sym opening-is)

    own_is : b.own ≡ own_in xs k
    unfolding own_in
    own_is = o.own ∙ ap (λ (w : Row). column w 1) (sym opening-is)

  -- What row p makes of the blocks before it.
  module _ (p : ℕ) (i : IsRow xs p) (ws : List Row) where
    abbrev w : Row
    w = nth_row xs p

    -- The blocks up to its own.
    abbrev Next : List Block → List Block → Type 0
    Next bs cs = (length cs ≡ suc w.block) × Makes xs bs (w ∷ ws) cs ws

    -- A new block.
    makes_block : (b : Block) (bs : List Block) → AllOpened xs bs → Opens w → w.block ≡ length bs → b.joins ≡ w.label → b.own ≡ column w 1
        → b.links ≡ [] → b.uses ≡ [] → Next bs (b ∷ bs)
    unfolding link-part use_part
    makes_block b bs all q e j o no_links no-uses = (
      omega arith,
      record {
        opened = λ k h. at k h (ℕ_discrete k (length bs));
        links = part-opens link-part w ws b bs (λ z. omega arith) no_links;
        uses = part-opens (use_part (joins_in xs)) w ws b bs (λ z. omega arith) no-uses;
      },
    )
      where
        at : (k : ℕ) → k < length (b ∷ bs) → Dec (k ≡ length bs) → OpenedBy xs k (block_at (b ∷ bs) k)
        at k h (yes z) = rw (block-hit b bs k z) (record { row = p; is = i; opens = q; block = e ∙ sym z; joins = j; own = o })
        at k h (no n) = rw (block-skip b bs k n) (all k (omega arith))

    -- A link more in the last block,
    makes_link : (l : Link) (bs : List Block) → AllOpened xs bs → Links w → w.block + 1 ≡ length bs → l ≡ link-part.item w
        → Next bs (add_link l bs)
    unfolding add_link link-part use_part
    makes_link l [] all q h e = absurd (omega arith)
    makes_link l (b ∷ earlier) all q h e = (
      omega arith,
      record {
        opened = opened-still xs b _ earlier all refl refl;
        links = part-grows link-part w ws b _ earlier (omega arith) q (rw e);
        uses = part_stays (use_part (joins_in xs)) w ws b _ earlier (omega arith) (λ z. omega arith) refl;
      },
    )

    -- or a use more.
    makes_use : (u : Use) (bs : List Block) → AllOpened xs bs → Uses w → w.block + 1 ≡ length bs → u ≡ (use_part (joins_in xs)).item w
        → Next bs (add_use u bs)
    unfolding add_use link-part use_part
    makes_use u [] all q h e = absurd (omega arith)
    makes_use u (b ∷ earlier) all q h e = (
      omega arith,
      record {
        opened = opened-still xs b _ earlier all refl refl;
        links = part_stays link-part w ws b _ earlier (omega arith) (λ z. omega arith) refl;
        uses = part-grows (use_part (joins_in xs)) w ws b _ earlier (omega arith) q (rw e);
      },
    )

    -- A use names a lower block, whose joins are known.
    use_is : (bs : List Block) → AllOpened xs bs → Uses w → w.block + 1 ≡ length bs
        → ◌≡◌ {A = Use} (record { block = w.label; at = take (joins_of bs w.label) w.columns }) ((use_part (joins_in xs)).item w)
    unfolding use_part
    use_is bs all q h =
        let l : w.label < length bs = omega (arith, passed.lower p i q) in
        ap (λ (n : ℕ). record { block = w.label; at = take n w.columns })
        (joins_of-at bs w.label ∙ joins-is w.label (block_at bs w.label) (all w.label l))

    -- What it makes since it stands in its place.
    row_makes : (bs : List Block) → AllOpened xs bs → Comes xs p (length bs) → Next bs (add_row bs w)
    unfolding add_row link-part
    row_makes bs all (opening q h) = rw (eq_then w.kind 0 _ _ q) (makes_block _ bs all q h refl refl refl refl)
    row_makes bs all (link q h l m) =
        rw (eq_else w.kind 0 _ _ (λ z. omega arith), eq_then w.kind 1 _ _ q) (makes_link _ bs all q h refl)
    row_makes bs all (later-use q h l) =
        rw (eq_else w.kind 0 _ _ (λ z. omega arith), eq_else w.kind 1 _ _ (λ z. omega arith)) (makes_use _ bs all q h (use_is bs all q h))

  -- The rows from row p on.
  abbrev MakesFrom : ℕ → List Row → Type 0
  MakesFrom p ws = (bs : List Block) → AllOpened xs bs → OpenedBefore xs p (length bs) → Makes xs bs ws (add_rows bs ws) []

  -- Row p and those behind it,
  row_first : (p : ℕ) (ws : List Row) → IsRow xs p → MakesFrom (suc p) ws → MakesFrom p (nth_row xs p ∷ ws)
  unfolding add_rows
  row_first p ws i below bs all o =
      let (n, m) = row_makes p i ws bs all (from_place xs p (length bs) i.0 o (passed.place p i)) in
      let t = below (add_row bs (nth_row xs p)) m.opened (opened-next xs p _ i.0 n) in
      record { opened = t.opened; links = λ k. t.links k ∙ m.links k; uses = λ k. t.uses k ∙ m.uses k }

  -- no rows,
  rows-done : (p : ℕ) → MakesFrom p []
  unfolding add_rows
  rows-done p bs all o = record { opened = all; links = λ k. refl; uses = λ k. refl }

  -- and all rows, from no blocks.
  rows-make : Makes xs [] (rows_of xs) (blocks_of xs) []
  unfolding blocks_of
  rows-make = by_rows xs MakesFrom (rows-done _) row_first [] (λ k h. absurd (omega arith)) (λ e. refl, λ l. absurd (omega arith))

  -- Every block has a row that opens it.
  pub opening_of : AllOpened xs (blocks_of xs)
  opening_of = rows-make.opened

  -- A block that a row opens is one of them.
  pub opened-lower : (r : ℕ) → IsRow xs r → Opens (nth_row xs r) → (nth_row xs r).block < length (blocks_of xs)
  opened-lower r i o = omega (arith, passed.knows.lower r i.0 (omega (arith, i)) o, passed.knows.tracks.count)

  -- The blocks are those of the rows.
  pub blocks-are : AreBlocks xs (blocks_of xs)
  unfolding link-part use_part
  blocks-are =
      record {
        many = let e : suc (row_count xs) - 1 ≡ row_count xs = omega arith in
            sym passed.knows.tracks.count ∙ rw e at (passed.knows.count.1 (omega (arith, passed.some)));
        joins = λ k h. joins-is k _ (opening_of k h);
        own = λ k h. own_is k _ (opening_of k h);
        links = λ k h. part-whole link-part (rows_of xs) (blocks_of xs) rows-make.links k;
        uses = λ k h. part-whole (use_part (joins_in xs)) (rows_of xs) (blocks_of xs) rows-make.uses k;
      }
