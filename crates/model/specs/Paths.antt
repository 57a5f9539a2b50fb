-- Paths and numbers. Document 01, "Unfolding": "The path of a cue is the list of use positions (1 for the block's first use) from the
-- show down to the copy that owns it". In the field's terms: an address in the derivation tree.
use Rattle.std.specs.Prelude.{ℕ, suc, ◌+◌, ◌-◌, true, false, List, [], ◌∷◌, length, eqb}
use Rattle.model.specs.Choice.{if_lt, if_eq}
use Rattle.model.specs.Blocks.{Use, Block, total}

-- "Number of a path and an own cue: the number." 0 stands for none, since numbers begin at 1. "001's formula for the vertex number
-- decides": base is what 001 calls first, the numbers given before the copy.

-- Own cue c of a copy whose own cues follow base.
unfoldable pub own_number : ℕ → ℕ → ℕ → ℕ
own_number own base c = if_lt c 1 0 (if_lt own c 0 (base + c))

-- The path enters the p-th of some uses, the first of which begins after base.
unfoldable pub uses_number : (ℕ → ℕ) → (ℕ → ℕ → List ℕ → ℕ → ℕ) → ℕ → List Use → ℕ → List ℕ → ℕ → ℕ
uses_number size below base [] p path c = 0
uses_number size below base (u ∷ us) p path c =
    if_eq p 1 (below u.block base path c) (uses_number size below (base + size u.block) us (p - 1) path c)

unfoldable pub copy_number : (ℕ → ℕ) → (ℕ → ℕ → List ℕ → ℕ → ℕ) → Block → ℕ → List ℕ → ℕ → ℕ
copy_number size below b base [] c = own_number b.own base c
copy_number size below b base (p ∷ path) c = uses_number size below (base + b.own) b.uses p path c

-- The number of own cue c at the end of a path that begins in the copy of block k after base.
unfoldable pub number_in : List Block → ℕ → ℕ → List ℕ → ℕ → ℕ
number_in [] k base path c = 0
number_in (b ∷ earlier) k base path c =
    elim (eqb k (length earlier)) [
      | true ↦ copy_number (total earlier) (number_in earlier) b base path c
      | false ↦ number_in earlier k base path c
    ]

-- "Locate n: depth, block and own cue; the path".
pub record Place : Type 0 where
  pub path : List ℕ
  pub block : ℕ
  pub own : ℕ

unfoldable pub nowhere : Place
nowhere = record { path = []; block = 0; own = 0 }

-- One step more in front of a path.
unfoldable pub step_then : ℕ → Place → Place
step_then p q = record { path = p ∷ q.path; block = q.block; own = q.own }

-- Cue n of the copies of some uses, the first of which is the p-th of its block.
unfoldable pub uses_place : (ℕ → ℕ) → (ℕ → ℕ → Place) → ℕ → ℕ → List Use → Place
uses_place size below p n [] = nowhere
uses_place size below p n (u ∷ us) =
    if_lt (size u.block) n (uses_place size below (suc p) (n - size u.block) us) (step_then p (below u.block n))

-- Where cue n of a copy of block k is, n counted from 1 in the copy: among its own cues, which come first, or in one of its uses. (The
-- last own cue is one too: "less than" in Algorithm 2 of source document 000 loses it.)
unfoldable pub place_in : List Block → ℕ → ℕ → Place
place_in [] k n = nowhere
place_in (b ∷ earlier) k n =
    elim (eqb k (length earlier)) [
      | true ↦ if_lt b.own n (uses_place (total earlier) (place_in earlier) 1 (n - b.own) b.uses) (record { path = []; block = k; own = n })
      | false ↦ place_in earlier k n
    ]
