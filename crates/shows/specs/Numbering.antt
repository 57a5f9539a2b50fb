-- What it means that numbers and places name each other. Document 01, "Unfolding": paths and numbers.
use Rattle.std.specs.Prelude.{ℕ, ◌+◌, ◌-◌, ◌≤◌, ◌<◌, ◌≡◌, List, [], ◌∷◌, length}
use Rattle.model.specs.Choice.{if_eq}
use Rattle.model.specs.Blocks.{Use, Block, block_at, own_of, total, last_block, count}
use Rattle.model.specs.Paths.{Place, number_in, place_in}

-- The block of the p-th of some uses, p counted from 1; 0 if there is none.
unfoldable pub used_by : List Use → ℕ → ℕ
used_by [] p = 0
used_by (u ∷ us) p = if_eq p 1 u.block (used_by us (p - 1))

-- "the list of use positions (1 for the block's first use) .. down to the copy that owns it": the block that a path from block k leads to.
unfoldable pub block_after : List Block → ℕ → List ℕ → ℕ
block_after bs k [] = k
block_after bs k (p ∷ path) = block_after bs (used_by (block_at bs k).uses p) path

-- Cue n of a copy of block k has this place: its number is n again wherever the copy begins, its path is no longer than k, and the path
-- leads to the block that has the own cue.
pub record Located (bs : List Block) (k n : ℕ) (q : Place) : Type 0 where
  pub number : (base : ℕ) → number_in bs k base q.path q.own ≡ base + n
  pub depth : length q.path ≤ k
  pub leads : block_after bs k q.path ≡ q.block
  pub known : q.block < length bs
  pub owned : (1 ≤ q.own) × (q.own ≤ own_of bs q.block)

-- A path and an own cue have the number m in a copy of block k after base: m is a number of the copy, and its place is just this one.
pub record Named (bs : List Block) (k base : ℕ) (path : List ℕ) (c m : ℕ) : Type 0 where
  pub low : base < m
  pub high : m ≤ base + total bs k
  pub path-back : (place_in bs k (m - base)).path ≡ path
  pub own_back : (place_in bs k (m - base)).own ≡ c

-- Cue n of the show has this place, and no other path and own cue have its number.
pub record IsPlace (bs : List Block) (n : ℕ) (q : Place) : Type 0 where
  pub located : Located bs (last_block bs) n q
  pub number : number_in bs (last_block bs) 0 q.path q.own ≡ n
  pub only : (path : List ℕ) (c : ℕ) → number_in bs (last_block bs) 0 path c ≡ n → (path ≡ q.path) × (c ≡ q.own)

-- The numbers 1 to the count each have their one place, and what a path and an own cue have is one of these numbers, or 0, which is none.
pub record Numbered (bs : List Block) : Type 0 where
  pub each : (n : ℕ) → 1 ≤ n → n ≤ count bs → IsPlace bs n (place_in bs (last_block bs) n)
  pub range : (path : List ℕ) (c : ℕ) → number_in bs (last_block bs) 0 path c ≤ count bs
