-- The levels of a block, made from those of the blocks below it.
use Prim.Native.Nat.{ℕ, zero, suc, ◌+◌, ◌*◌, ◌≤◌, ◌<◌}
use native.Mathlib.Omega.{arith}
use native.Mathlib.Decide.{ℕ_discrete}
use mathlib.Core.Path.{◌≡◌, refl, sym, ◌∙◌, ap}
use mathlib.Core.List.{List}
use lib.ListN.{length, get_or, replicate, length-replicate}
use Rattle.model.specs.Limits.{max_joins}
use Rattle.model.specs.Blocks.{joins_of, own_of, blocks_of}
use Rattle.shows.proofs.AtBlock.{joins-small}
use Rattle.shows.proofs.BlockAt.{own_of_at, joins_of-at}
use Rattle.blocks.specs.Loaded.{Loaded, IsBlock}
use Rattle.blocks.proofs.Loaded.{loaded-show}
use Rattle.levels.specs.Levels.{pairs_size, table_size, level_at}
use Rattle.levels.specs.Tables.{IsLevel, join_cue, Levels, Fresh, Going, Changed, HasPairs, links_put, uses_lift}
use Rattle.levels.proofs.Best.{copy-level}

pub has-pairs : {xs t m : List ℕ} (k : ℕ) → Loaded xs t → IsBlock xs k → Levels xs m k → HasPairs m k
has-pairs k g h right = omega (arith, right.long, (loaded-show g).blocks)

-- While levels of block k change, those of the blocks below stay right, and those of the blocks above stay none.
pub levels-kept : {xs t m w : List ℕ} {k own : ℕ} {rest whole : ℕ → ℕ → ℕ → ℕ} → Loaded xs t → Levels xs m k → Going k own rest whole m w → Levels xs w k
levels-kept {xs} {k = k} g right c =
    record {
      long = c.long ∙ right.long;
      at = λ b i j h x y.
          let few : joins_of (blocks_of xs) b ≤ max_joins = joins-small b (loaded-show g).small in
          rw (c.else b i j (λ e. omega arith) (omega arith) (omega arith)) (right.at b i j h x y);
    }

pub made : {xs t m w v : List ℕ} {k : ℕ} (own : ℕ) → Loaded xs t → IsBlock xs k → own ≡ own_of (blocks_of xs) k → Levels xs m k → Fresh m k
    → Changed k own (links_put xs k) m w → Changed k own (uses_lift xs w k) w v → Levels xs v (k + 1) × Fresh v (k + 1)
made {xs} {t} {m} {w} {v} {k} own g h e right fresh c d = (
  record { long = d.long ∙ c.long ∙ right.long; at = λ b i j l x y. at b i j l x y (ℕ_discrete b k) },
  record { at = λ b i j l x y. d.else b i j (λ z. omega arith) x y ∙ c.else b i j (λ z. omega arith) x y ∙ fresh.at b i j (omega arith) x y },
)
  where
    below : Levels xs w k
    below = levels-kept g right c

    few : (b : ℕ) → joins_of (blocks_of xs) b ≤ max_joins
    few b = joins-small b (loaded-show g).small

    here : (i j : ℕ) → i < joins_of (blocks_of xs) k → j < joins_of (blocks_of xs) k
        → IsLevel xs k (join_cue (own_of (blocks_of xs) k) i) (join_cue (own_of (blocks_of xs) k) j) (level_at v k i j)
    here i j x y =
        let ix : i < max_joins = omega (arith, few k) in
        let jx : j < max_joins = omega (arith, few k) in
        rw (← e)
        (record {
          at = λ base met s.
              d.here i j ix jx
              ∙ ap (uses_lift xs w k (join_cue own i) (join_cue own j))
              (c.here i j ix jx ∙ ap (links_put xs k (join_cue own i) (join_cue own j)) (fresh.at k i j (omega arith) ix jx))
              ∙ sym (copy-level xs k base met s (join_cue own i) (join_cue own j)
              (omega (arith, e, own_of_at (blocks_of xs) k, joins_of-at (blocks_of xs) k))
              (omega (arith, e, own_of_at (blocks_of xs) k, joins_of-at (blocks_of xs) k)) w below);
        })

    at : (b i j : ℕ) → b < k + 1 → i < joins_of (blocks_of xs) b → j < joins_of (blocks_of xs) b → Dec (b ≡ k)
        → IsLevel xs b (join_cue (own_of (blocks_of xs) b) i) (join_cue (own_of (blocks_of xs) b) j) (level_at v b i j)
    at b i j l x y (yes z) = rw z (here i j (rw z at x) (rw z at y))
    at b i j l x y (no z) =
        rw (d.else b i j z (omega (arith, few b)) (omega (arith, few b))) (below.at b i j (omega arith) x y)

-- A table without any levels.
zeros : (n i : ℕ) → ◌≡◌ {A = ℕ} (get_or (replicate n 0) i 0) 0
zeros zero i = refl
zeros (suc n) zero = refl
zeros (suc n) (suc i) = zeros n i

pub none-long : {m : List ℕ} → m ≡ replicate table_size 0 → length m ≡ table_size
none-long e = ap length e ∙ length-replicate {A = ℕ} table_size 0

pub none_made : {xs m : List ℕ} → m ≡ replicate table_size 0 → Levels xs m 0 × Fresh m 0
none_made e = (
  record { long = none-long e; at = λ k i j h x y. absurd (omega arith) },
  record { at = λ b i j h x y. rw e (zeros table_size (pairs_size * b + max_joins * i + j)) },
)
