-- What a block has of one kind of row: its links, or its uses. What it has so far and what the rows to come give it stay the same
-- together, row by row.
use Prim.Native.Nat.{ℕ, ◌+◌, ◌≤◌}
use native.Mathlib.Omega.{arith}
use native.Mathlib.Decide.{ℕ_discrete}
use mathlib.Core.Path.{◌≡◌, refl, sym, ◌∙◌, ap}
use mathlib.Core.Logic.{◌≢◌}
use mathlib.Core.List.{List, [], ◌∷◌, ◌++◌, append-nil}
use lib.ListN.{length, take}
use lib.Seq.{append_snoc}
use borrow.Author.Tests.{eq-eqb, ne_eqb}
use Rattle.model.specs.Choice.{if_eq}
use Rattle.model.specs.Rows.{Row}
use Rattle.model.specs.Blocks.{Link, Use, Block, no_block, block_at, sum_over}
use Rattle.basics.proofs.Choices.{eq_then, eq_else}
use Rattle.shows.proofs.AtBlock.{block_at_hit, block_at_skip}
use Rattle.demands.specs.Acceptance.{column, uses_total}
use Rattle.demands.specs.Blocks.{links_in, uses_in}

-- The last block, one before it, and one that is not there.
module _ (b : Block) (earlier : List Block) (k : ℕ) where
  pub block-hit : k ≡ length earlier → block_at (b ∷ earlier) k ≡ b
  block-hit e = block_at_hit b earlier k (eq-eqb k (length earlier) e)

  pub block-skip : k ≢ length earlier → block_at (b ∷ earlier) k ≡ block_at earlier k
  block-skip n = block_at_skip b earlier k (ne_eqb k (length earlier) n)

block-beyond : (bs : List Block) (k : ℕ) → length bs ≤ k → block_at bs k ≡ no_block
unfolding block_at
block-beyond [] k h = refl
block-beyond (b ∷ earlier) k h = block-skip b earlier k (λ e. omega arith) ∙ block-beyond earlier k (omega arith)

-- Whether two numbers are what they should be; and one thing if they are, else another.
pub both_known : (a m b n : ℕ) → Dec ((a ≡ m) × (b ≡ n))
both_known a m b n = go (ℕ_discrete a m) (ℕ_discrete b n)
  where
    go : Dec (a ≡ m) → Dec (b ≡ n) → Dec ((a ≡ m) × (b ≡ n))
    go (yes e) (yes h) = yes (e, h)
    go (yes e) (no k) = no (λ h. k h.1)
    go (no k) d = no (λ h. k h.0)

module _ {A : Type 0} (a m b n : ℕ) (x y : A) where
  pub both_then : a ≡ m → b ≡ n → if_eq a m (if_eq b n x y) y ≡ x
  both_then e h = eq_then a m _ _ e ∙ eq_then b n _ _ h

  pub both_else : ((a ≡ m) × (b ≡ n) → ⊥) → if_eq a m (if_eq b n x y) y ≡ y
  both_else z = go (ℕ_discrete a m)
    where
      go : Dec (a ≡ m) → if_eq a m (if_eq b n x y) y ≡ y
      go (yes e) = eq_then a m _ _ e ∙ eq_else b n _ _ (λ h. z (e, h))
      go (no k) = eq_else a m _ _ k

-- A row is of kind n and of block k.
abbrev pub picked : {A : Type 0} → Row → ℕ → ℕ → A → A → A
picked w n k x y = if_eq w.kind n (if_eq w.block k x y) y

module _ {A : Type 0} (w : Row) (n k : ℕ) (x y : A) where
  this-row : w.kind ≡ n → w.block ≡ k → picked w n k x y ≡ x
  this-row e h = both_then w.kind n w.block k x y e h

  other_kind : w.kind ≢ n → picked w n k x y ≡ y
  other_kind m = both_else w.kind n w.block k x y (λ h. m h.0)

  other_block : w.block ≢ k → picked w n k x y ≡ y
  other_block m = both_else w.kind n w.block k x y (λ h. m h.1)

-- A part of the blocks: what a block has of it, the kind of its rows, what each of them gives, and what block k has of it among some rows.
pub record Part (A : Type 0) : Type 0 where
  pub of : Block → List A
  pub kind : ℕ
  pub item : Row → A
  pub among : ℕ → List Row → List A
  no_block_lem : of no_block ≡ []
  no_rows : (k : ℕ) → among k [] ≡ []
  row : (k : ℕ) (w : Row) (ws : List Row) → among k (w ∷ ws) ≡ picked w kind k (item w ∷ among k ws) (among k ws)

-- The links,
unfoldable pub link-part : Part Link
unfolding no_block links_in
link-part =
    record {
      of = λ b. b.links;
      kind = 1;
      item = λ w. record { from = column w 1; to = column w 2; label = w.label };
      among = links_in;
      no_block_lem = refl;
      no_rows = λ k. refl;
      row = λ k w ws. refl;
    }

-- and the uses, where J gives the joins of blocks.
unfoldable pub use_part : (ℕ → ℕ) → Part Use
unfolding no_block uses_in
use_part J =
    record {
      of = λ b. b.uses;
      kind = 2;
      item = λ w. record { block = w.label; at = take (J w.label) w.columns };
      among = uses_in J;
      no_block_lem = refl;
      no_rows = λ k. refl;
      row = λ k w ws. refl;
    }

-- The blocks bs become cs, and of the rows ws that are to come vs are left.
abbrev pub Goes : {A : Type 0} → Part A → List Block → List Row → List Block → List Row → Type 0
Goes P bs ws cs vs = (k : ℕ) → P.of (block_at cs k) ++ P.among k vs ≡ P.of (block_at bs k) ++ P.among k ws

-- What a row does.
module _ {A : Type 0} (P : Part A) (w : Row) (ws : List Row) where
  -- A row of another kind, or of another block, gives block k nothing.
  no_kind : (k : ℕ) → w.kind ≢ P.kind → P.among k (w ∷ ws) ≡ P.among k ws
  no_kind k n = P.row k w ws ∙ other_kind w P.kind k _ _ n

  no_item : (k : ℕ) → w.block ≢ k → P.among k (w ∷ ws) ≡ P.among k ws
  no_item k n = P.row k w ws ∙ other_block w P.kind k _ _ n

  -- It opens a block, which has nothing of the part,
  pub part-opens : (b : Block) (bs : List Block) → w.kind ≢ P.kind → P.of b ≡ [] → Goes P bs (w ∷ ws) (b ∷ bs) ws
  part-opens b bs n none k = go (ℕ_discrete k (length bs))
    where
      go : Dec (k ≡ length bs) → P.of (block_at (b ∷ bs) k) ++ P.among k ws ≡ P.of (block_at bs k) ++ P.among k (w ∷ ws)
      go (yes e) = rw (block-hit b bs k e, none, block-beyond bs k (omega arith), P.no_block_lem, no_kind k n)
      go (no m) = rw (block-skip b bs k m, no_kind k n)

  -- or changes the last block, of which it is:
  part-last : (b c : Block) (earlier : List Block) → w.block ≡ length earlier
      → P.of c ++ P.among w.block ws ≡ P.of b ++ P.among w.block (w ∷ ws)
      → Goes P (b ∷ earlier) (w ∷ ws) (c ∷ earlier) ws
  part-last b c earlier e here k = go (ℕ_discrete w.block k)
    where
      go : Dec (w.block ≡ k) → P.of (block_at (c ∷ earlier) k) ++ P.among k ws ≡ P.of (block_at (b ∷ earlier) k) ++ P.among k (w ∷ ws)
      go (yes z) = rw (← z, block-hit c earlier w.block e, block-hit b earlier w.block e) here
      go (no n) = let m : k ≢ length earlier = λ z. n (omega arith) in rw (block-skip c earlier k m, block-skip b earlier k m, no_item k n)

  -- the part, to which it adds what it gives,
  pub part-grows : (b c : Block) (earlier : List Block) → w.block ≡ length earlier → w.kind ≡ P.kind → P.of c ≡ P.of b ++ (P.item w ∷ [])
      → Goes P (b ∷ earlier) (w ∷ ws) (c ∷ earlier) ws
  part-grows b c earlier e q h =
      let one : P.among w.block (w ∷ ws) ≡ P.item w ∷ P.among w.block ws =
      P.row w.block w ws ∙ this-row w P.kind w.block _ _ q refl in
      part-last b c earlier e (rw (h, one) (append_snoc (P.of b) (P.item w) (P.among w.block ws)))

  -- or something else.
  pub part_stays : (b c : Block) (earlier : List Block) → w.block ≡ length earlier → w.kind ≢ P.kind → P.of c ≡ P.of b
      → Goes P (b ∷ earlier) (w ∷ ws) (c ∷ earlier) ws
  part_stays b c earlier e n h = part-last b c earlier e (rw (h, no_kind w.block n))

-- From no blocks to all blocks, and from all rows to none.
pub part-whole : {A : Type 0} (P : Part A) (ws : List Row) (bs : List Block) → Goes P [] ws bs [] → (k : ℕ) → P.of (block_at bs k) ≡ P.among k ws
part-whole P ws bs g k =
    sym (append-nil (P.of (block_at bs k)))
    ∙ ap (λ (xs : List _). P.of (block_at bs k) ++ xs) (sym (P.no_rows k))
    ∙ g k
    ∙ ap (λ (c : Block). P.of c ++ P.among k ws) (block-beyond [] k (omega arith))
    ∙ ap (λ (xs : List _). xs ++ P.among k ws) P.no_block_lem

-- The total of some use rows is that of the uses.
pub total-of_uses : (J f : ℕ → ℕ) (k : ℕ) (ws : List Row) → sum_over f (uses_in J k ws) ≡ uses_total f k ws
unfolding uses_in uses_total sum_over
total-of_uses J f k [] = refl
total-of_uses J f k (w ∷ ws) = go (total-of_uses J f k ws) (ℕ_discrete w.kind 2) (ℕ_discrete w.block k)
  where
    go : sum_over f (uses_in J k ws) ≡ uses_total f k ws → Dec (w.kind ≡ 2) → Dec (w.block ≡ k)
        → sum_over f (uses_in J k (w ∷ ws)) ≡ uses_total f k (w ∷ ws)
    go below (yes e) (yes h) =
        ap (sum_over f) (this-row w 2 k _ _ e h) ∙ ap (λ (n : ℕ). f w.label + n) below ∙ sym (this-row w 2 k _ _ e h)
    go below (yes e) (no m) = ap (sum_over f) (other_block w 2 k _ _ m) ∙ below ∙ sym (other_block w 2 k _ _ m)
    go below (no n) d = ap (sum_over f) (other_kind w 2 k _ _ n) ∙ below ∙ sym (other_kind w 2 k _ _ n)
