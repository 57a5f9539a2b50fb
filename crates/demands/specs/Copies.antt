-- Copies by their paths: what the words of crates/shows/specs/Copies and `block_after` mean, by the steps of replacement. Document 02, Paper 2: "the depth and
-- path of the copy it stands in"; document 01: "The path of a cue is the list of use positions .. from the show down to the copy that owns it".
use Rattle.std.specs.Prelude.{ℕ, ◌+◌, ◌≤◌, ◌≡◌, ◌↔◌, Ok}
use mathlib.Core.List.{List, Memᴰ}
use Rattle.model.specs.Answers.{NumberAnswer}
use Rattle.model.specs.Blocks.{Block, block_at, blocks_of, last_block}
use Rattle.model.specs.Asking.{AsksNumber}
use Rattle.shows.specs.Copies.{Copy, number, show_copy, after, Steps}
use Rattle.shows.specs.Numbering.{block_after}
use Rattle.demands.specs.Acceptance.{own_in}
use Rattle.demands.specs.Replacement.{Standing, Graph, Run, begin, nodes_of, nth, end_number}

-- The block and the copy that a path leads to, down from the show.
abbrev pub block_at_path : List ℕ → List ℕ → ℕ
block_at_path xs path = block_after (blocks_of xs) (last_block (blocks_of xs)) path

abbrev pub copy_at : List ℕ → List ℕ → Copy
copy_at xs path = after (show_copy (blocks_of xs)) path

-- A use stands in the show after some steps of replacement, whatever use was replaced at each.
pub record StandsInShow (bs : List Block) (u : Standing) : Type 0 where
  pub many : ℕ
  pub graph : Graph
  pub run : Run bs many (begin bs (last_block bs)) graph
  pub stands : Memᴰ u graph.uses

pub record CopiesByPath (xs : List ℕ) : Type 0 where
  -- Each step of a path is a use exactly if a use stands there at some time.
  pub steps : (path : List ℕ) → Steps (show_copy (blocks_of xs)) path ↔ ((u : Standing) × StandsInShow (blocks_of xs) u × (u.path ≡ path))
  -- The path leads to the block that this use names; and cue c of that block, own cue or join, has in the copy there the number of the cue that the
  -- replacement makes of it.
  pub block : (u : Standing) → StandsInShow (blocks_of xs) u → block_at_path xs u.path ≡ u.block
  pub cue : (u : Standing) → StandsInShow (blocks_of xs) u
      → (c : ℕ) → 1 ≤ c → c ≤ (block_at (blocks_of xs) u.block).own + (block_at (blocks_of xs) u.block).joins
      → number (copy_at xs u.path) c ≡ end_number (blocks_of xs) (last_block (blocks_of xs)) (nth (nodes_of (block_at (blocks_of xs) u.block) u) c)
  -- The number of an own cue in the copy there is what number answers about the path and that cue.
  pub own-cue : (path : List ℕ) (c : ℕ) (r : NumberAnswer) → Steps (show_copy (blocks_of xs)) path → 1 ≤ c → c ≤ own_in xs (block_at_path xs path)
      → AsksNumber xs path c r → r ≡ Ok (number (copy_at xs path) c)
