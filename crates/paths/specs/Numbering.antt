-- The number at the end of a path.
use Rattle.std.specs.Prelude.{ℕ, ◌+◌, ◌≤◌, List}
use Rattle.model.specs.Limits.{max_total}
use Rattle.model.specs.Blocks.{total, blocks_of}
use Rattle.model.specs.Paths.{uses_number, number_in}
use Rattle.blocks.specs.Loaded.{Loaded, IsBlock}
use Rattle.paths.specs.Locating.{uses_of}

-- The number of own cue c at the end of a path that begins in a copy of block k after base, or in the copies of its uses after base.
abbrev pub from_copy : List ℕ → ℕ → ℕ → List ℕ → ℕ → ℕ
from_copy xs k base path c = number_in (blocks_of xs) k base path c

abbrev pub from_uses : List ℕ → ℕ → ℕ → ℕ → List ℕ → ℕ → ℕ
from_uses xs k base p path c = uses_number (total (blocks_of xs)) (number_in (blocks_of xs)) base (uses_of xs k) p path c

-- What is asked for a number after base, where so many cues follow it: the numbers are small.
pub record MayNumber (xs t : List ℕ) (k cues base : ℕ) : Type 0 where
  pub loaded : Loaded xs t
  pub block : IsBlock xs k
  pub fits : base + cues ≤ max_total
