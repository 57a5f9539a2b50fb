-- Levels: how many copies a way has from a copy down to the one with a link's row, both counted; 0 where there is no such link. (The levels of a
-- place, in blocks/specs/Places, are counted from the show.)
use Rattle.std.specs.Prelude.{ℕ, suc, ◌+◌, ◌*◌, List, [], ◌∷◌, length, get_or}
use Rattle.model.specs.Choice.{if_lt, if_eq, if_true}
use Rattle.model.specs.Limits.{max_joins, max_blocks}
use Rattle.model.specs.Blocks.{Link, Use, Block}
use Rattle.model.specs.Behind.{Origin, traced, origins, depth_wins, Behind, Stands, Missing}
use Rattle.shows.specs.Copies.{number, copy_of}

unfoldable pub level : Behind → ℕ
level (Stands o) = suc (length o.path)
level Missing = 0

-- The better of two levels, and the level of a link that lies one copy deeper.
unfoldable pub better_level : ℕ → ℕ → ℕ
better_level a b = if_eq b 0 a (if_eq a 0 b (if_true (depth_wins b a) b a))

unfoldable pub one_more : ℕ → ℕ
one_more n = if_eq n 0 0 (suc n)

-- The origins of the links from cue x to cue y of a copy of block k.
abbrev pub origins_in : (ℕ → ℕ) → List Block → ℕ → ℕ → List ℕ → ℕ → ℕ → List Origin
origins_in opening bs k base met x y =
    origins (number (copy_of bs k base met) x) (number (copy_of bs k base met) y) (traced opening bs k base met)

-- Where among the cues that a use names c stands, from 0; as many as there are if it is none of them.
unfoldable pub position_of : List ℕ → ℕ → ℕ
position_of [] c = 0
position_of (a ∷ at) c = if_eq a c 0 (suc (position_of at c))

-- A table of levels: the one from join i to join j of block k, both from 0.
abbrev pub pairs_size : ℕ
pairs_size = max_joins * max_joins

abbrev pub table_size : ℕ
table_size = pairs_size * max_blocks

abbrev pub level_at : List ℕ → ℕ → ℕ → ℕ → ℕ
level_at m k i j = get_or m (pairs_size * k + max_joins * i + j) 0

-- What a link of a block says of its cues x and y, and what some links make of a level that is known.
unfoldable pub link_level : Link → ℕ → ℕ → ℕ
link_level l x y = if_eq l.from x (if_eq l.to y 1 0) 0

unfoldable pub links_level : List Link → ℕ → ℕ → ℕ → ℕ
links_level [] x y n = n
links_level (l ∷ ls) x y n = links_level ls x y (better_level n (link_level l x y))

-- What a use says of them, by the levels of the block that it names, and what some uses make of a level.
unfoldable pub use_level : List ℕ → Use → ℕ → ℕ → ℕ
use_level m u x y =
    if_lt (position_of u.at x) (length u.at)
    (if_lt (position_of u.at y) (length u.at) (one_more (level_at m u.block (position_of u.at x) (position_of u.at y))) 0)
    0

unfoldable pub uses_level : List ℕ → List Use → ℕ → ℕ → ℕ → ℕ
uses_level m [] x y n = n
uses_level m (u ∷ us) x y n = uses_level m us x y (better_level n (use_level m u x y))
