-- The block at a level of a place.
use Prim.Native.Nat.{ℕ, suc, ◌+◌, ◌-◌, ◌≤◌, ◌<◌}
use native.Mathlib.Omega.{arith}
use mathlib.Core.Path.{◌≡◌, ◌∙◌, ap}
use mathlib.Core.Logic.{◌≢◌}
use mathlib.Core.List.{List}
use lib.ListN.{length, get_or}
use Rattle.model.specs.Blocks.{blocks_of, last_block}
use Rattle.verdicts.specs.Index.{use_at}
use Rattle.blocks.specs.Loaded.{IsBlock, IsRow, UseRow}
use Rattle.blocks.specs.Places.{block_on, UsesTo}

pub level-first : (xs rows : List ℕ) (l k : ℕ) → l ≡ 0 → k ≡ last_block (blocks_of xs) → k ≡ block_on xs rows l
unfolding block_on
level-first xs rows l k e h = rw e h

-- The row that leads to a level, and the block that it names.
module _ (xs rows : List ℕ) (l : ℕ) (u : UsesTo xs rows l) (some : l ≢ 0) where
  before : UseRow xs (block_on xs rows (l - 1)) (get_or rows (l - 1) 0)
  before = u.at (l - 1) (omega arith)

  pub level-row : (n r : ℕ) → n ≡ get_or rows (l - 1) 0 → r ≡ n → IsRow xs r
  level-row n r x y = rw (y ∙ x) before.there

  pub level-there : l - 1 < length rows
  level-there = omega (arith, u.long)

  pub level-next : (n r k : ℕ) → n ≡ get_or rows (l - 1) 0 → r ≡ n → k ≡ (use_at xs (blocks_of xs) r).block → (k ≡ block_on xs rows l) × IsBlock xs k
  unfolding block_on
  level-next n r k x y z =
      let e : l ≡ suc (l - 1) = omega arith in
      let p : k ≡ (use_at xs (blocks_of xs) (get_or rows (l - 1) 0)).block = z ∙ ap (λ (i : ℕ). (use_at xs (blocks_of xs) i).block) (y ∙ x) in
      (rw e p, rw p (omega (arith, before.lower, before.block)))

-- Fewer rows, and one of them.
pub uses-fewer : {xs rows : List ℕ} {n : ℕ} (l : ℕ) → UsesTo xs rows n → l ≤ n → UsesTo xs rows l
uses-fewer l u h = record { long = omega (arith, u.long); at = λ j k. u.at j (omega arith) }

pub uses-row : {xs rows : List ℕ} {n : ℕ} (l r : ℕ) → UsesTo xs rows n → l < n → r ≡ get_or rows l 0 → UseRow xs (block_on xs rows l) r
uses-row l r u h e = rw e (u.at l h)

-- The use that a row takes leads to the block at the next level.
pub level-used : (xs rows : List ℕ) (l r b : ℕ) → r ≡ get_or rows l 0 → b ≡ (use_at xs (blocks_of xs) r).block → b ≡ block_on xs rows (l + 1)
unfolding block_on
level-used xs rows l r b er eb = let s : l + 1 ≡ suc l = omega arith in rw s (eb ∙ ap (λ (i : ℕ). (use_at xs (blocks_of xs) i).block) er)
