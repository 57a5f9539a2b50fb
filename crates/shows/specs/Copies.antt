-- Copies of blocks in the unfolding: which numbers a copy has, which copies are its parts, and the copy at the end of a path.
-- In the field's terms: occurrences of rules in a derivation.
use Rattle.std.specs.Prelude.{ℕ, ◌+◌, ◌-◌, ◌≤◌, ◌<◌, ◌≡◌, ◌⊎◌, length, get_or, take}
use mathlib.Core.List.{List, [], ◌∷◌, ◌++◌, map, Memᴰ}
use Rattle.model.specs.Blocks.{Link, Use, Block, block_at, sum_over, total, last_block}
use Rattle.model.specs.Unfolding.{cue_at, renamed, uses_links, links}
use Rattle.basics.specs.Members.{Apart}
use Rattle.shows.specs.WellFormed.{GoodBlock, Good}

-- The copies that stand for some uses, each with the number that its own cues follow.
pub record Part : Type 0 where
  pub of : Use
  pub base : ℕ

unfoldable pub parts_from : (ℕ → ℕ) → ℕ → List Use → List Part
parts_from size base [] = []
parts_from size base (u ∷ us) = record { of = u; base = base } ∷ parts_from size (base + size u.block) us

-- A copy of a block: the block, the blocks that its uses name, the number that its own cues follow, and the cues that its joins meet.
pub record Copy : Type 0 where
  pub block : Block
  pub blocks : List Block
  pub base : ℕ
  pub met : List ℕ

abbrev pub number : Copy → ℕ → ℕ
number z = cue_at z.block.own z.base z.met

abbrev pub own-links : Copy → List Link
own-links z = map (renamed (number z)) z.block.links

-- The copies of its uses are its parts.
abbrev pub parts : Copy → List Part
parts z = parts_from (total z.blocks) (z.base + z.block.own) z.block.uses

abbrev pub part-links : Copy → List Link
part-links z = uses_links (total z.blocks) (links z.blocks) (number z) (z.base + z.block.own) z.block.uses

abbrev pub all-links : Copy → List Link
all-links z = own-links z ++ part-links z

abbrev pub extent : Copy → ℕ
extent z = z.block.own + sum_over (total z.blocks) z.block.uses

-- The cues that the joins of a part meet.
abbrev pub meets : Copy → Part → List ℕ
meets z p = map (number z) p.of.at

abbrev pub size : Copy → Part → ℕ
size z p = total z.blocks p.of.block

-- The block is well formed, and each of its joins meets a cue.
pub record Fit (z : Copy) : Type 0 where
  pub good : GoodBlock z.blocks z.block
  pub fits : length z.met ≡ z.block.joins

-- The cues that joins meet lie outside a range.
abbrev pub Clear : ℕ → ℕ → List ℕ → Type 0
Clear base size met = (v : ℕ) → Memᴰ v met → (v ≤ base) ⊎ (base + size < v)

-- A copy of a well-formed block whose joins meet different cues, none of them a number of the copy.
pub record Sound (z : Copy) : Type 0 where
  pub fit : Fit z
  pub good : Good z.blocks
  pub clear : Clear z.base (extent z) z.met
  pub apart : Apart z.met

-- p is one of the parts; v is one of the copy's numbers; the copy that a part is.
abbrev pub IsPart : Copy → Part → Type 0
IsPart z p = Memᴰ p (parts z)

abbrev pub InCopy : Copy → ℕ → Type 0
InCopy z v = (z.base < v) × (v ≤ z.base + extent z)

-- The copy of block k.
abbrev pub copy_of : List Block → ℕ → ℕ → List ℕ → Copy
copy_of bs k base met = record { block = block_at bs k; blocks = bs; base = base; met = met }

abbrev pub part-copy : Copy → Part → Copy
part-copy z p = copy_of z.blocks p.of.block p.base (meets z p)

-- The show's copy, and the copy of a block that stands alone.
abbrev pub show_copy : List Block → Copy
show_copy bs = copy_of bs (last_block bs) 0 []

-- The cues that joins meet have numbers at or below base.
abbrev pub Low : Copy → Type 0
Low z = (v : ℕ) → Memᴰ v z.met → v ≤ z.base

-- The p-th of some uses, from 1, and a use of nothing where there is none.
unfoldable pub nth_use : List Use → ℕ → Use
nth_use us p = get_or us (p - 1) (record { block = 0; at = [] })

-- The copy that stands for the p-th use of a copy.
abbrev pub part_at : Copy → ℕ → Part
part_at z p =
    record {
      of = nth_use z.block.uses p;
      base = z.base + z.block.own + sum_over (total z.blocks) (take (p - 1) z.block.uses);
    }

-- The copy at the end of a path, and that each step of the path is a use.
unfoldable pub after : Copy → List ℕ → Copy
after z [] = z
after z (p ∷ path) = after (part-copy z (part_at z p)) path

pub data Steps : Copy → List ℕ → Type 0 where
  ends : {z : Copy} → Steps z []
  goes : {z : Copy} {p : ℕ} {path : List ℕ} → 1 ≤ p → p ≤ length z.block.uses → Steps (part-copy z (part_at z p)) path → Steps z (p ∷ path)
