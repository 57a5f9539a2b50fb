-- The uses of a block, by their rows.
use Prim.Native.Nat.{ℕ, ◌+◌, ◌*◌, ◌-◌, ◌≤◌, ◌<◌}
use native.Mathlib.Omega.{arith}
use mathlib.Core.Path.{◌≡◌, refl, ◌∙◌, ap}
use mathlib.Core.List.{List}
use lib.ListN.{length, get_or}
use Rattle.model.specs.Blocks.{Use, block_at, joins_of, own_of, blocks_of}
use Rattle.shows.specs.WellFormed.{Cue}
use Rattle.shows.proofs.BlockAt.{joins_of-at, own_of_at}
use Rattle.basics.specs.Members.{Apart}
use Rattle.basics.proofs.Members.{get_d_mem}
use Rattle.verdicts.specs.Index.{use_at}
use Rattle.blocks.specs.Loaded.{Loaded, IsBlock, uses_begin, UseRows, UseRow, column_at}
use Rattle.blocks.proofs.Loaded.{use_rows, uses_from-length, uses_from-at}

-- How many, and the one of a row.
module _ {xs t : List ℕ} {k a e : ℕ} (rows : UseRows xs t k a e) where
  pub use_rows_length : length (block_at (blocks_of xs) k).uses ≡ e - a
  use_rows_length = ap length rows.uses ∙ uses_from-length xs (blocks_of xs) a (e - a)

  pub use_rows_at : (r : ℕ) (d : Use) → a ≤ r → r < e → get_or (block_at (blocks_of xs) k).uses (r - a) d ≡ use_at xs (blocks_of xs) r
  use_rows_at r d x y =
      let z : a + (r - a) ≡ r = omega arith in
      rw rows.uses (uses_from-at xs (blocks_of xs) a (e - a) (r - a) d (omega arith) ∙ ap (use_at xs (blocks_of xs)) z)

-- The rows of the uses of a block, as the index has them.
pub uses-of : {xs t : List ℕ} → Loaded xs t → (k : ℕ) → IsBlock xs k → UseRows xs t k (uses_begin t k) (uses_begin t k + length (block_at (blocks_of xs) k).uses)
uses-of {xs} {t} g k h =
    let rows : UseRows xs t k (get_or t (4 * k + 1) 0) (get_or t (4 * k + 2) 0) = use_rows g k h _ _ _ _ refl refl refl refl in
    let e : uses_begin t k + length (block_at (blocks_of xs) k).uses ≡ get_or t (4 * k + 2) 0 = omega (arith, use_rows_length rows, rows.order) in
    rw e rows

-- The cues that a use names: those of its block, none twice.
module _ {xs : List ℕ} {k r : ℕ} (o : UseRow xs k r) where
  pub use_row_cue : (j : ℕ) → j < joins_of (blocks_of xs) (use_at xs (blocks_of xs) r).block → column_at xs r j ≤ own_of (blocks_of xs) k + joins_of (blocks_of xs) k
  use_row_cue j h =
      let c : Cue (block_at (blocks_of xs) k) (get_or (use_at xs (blocks_of xs) r).at j 0) =
      o.good.cues _ (get_d_mem (use_at xs (blocks_of xs) r).at j (omega (arith, o.good.arity))) in
      omega (arith, c, o.columns j h, own_of_at (blocks_of xs) k, joins_of-at (blocks_of xs) k)

  pub use_row_apart : Apart (use_at xs (blocks_of xs) r).at
  use_row_apart = o.good.apart
