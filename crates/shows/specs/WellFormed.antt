-- Well-formed blocks: what checks 5 to 8 of document 01 leave of the rows of a show, said of its blocks.
use Rattle.std.specs.Prelude.{ℕ, ◌+◌, ◌≤◌, ◌<◌, ◌≡◌, ◌≢◌, length}
use mathlib.Core.List.{List, [], ◌∷◌, Memᴰ}
use Rattle.model.specs.Limits.{max_joins, max_own, max_label}
use Rattle.model.specs.Blocks.{Link, Use, Block, joins_of}
use Rattle.basics.specs.Members.{Apart}

-- c is one of a block's cues: an own one or a join.
abbrev pub Cue : Block → ℕ → Type 0
Cue b c = (1 ≤ c) × (c ≤ b.own + b.joins)

pub record GoodLink (b : Block) (l : Link) : Type 0 where
  pub from : Cue b l.from
  pub to : Cue b l.to
  pub apart : l.from ≢ l.to
  pub label : (1 ≤ l.label) × (l.label ≤ max_label)

-- A use names a lower block, and as many of its own block's cues as that has joins, none twice.
pub record GoodUse (earlier : List Block) (b : Block) (u : Use) : Type 0 where
  pub lower : u.block < length earlier
  pub arity : length u.at ≡ joins_of earlier u.block
  pub cues : (c : ℕ) → Memᴰ c u.at → Cue b c
  pub apart : Apart u.at

pub record GoodBlock (earlier : List Block) (b : Block) : Type 0 where
  pub links : (l : Link) → Memᴰ l b.links → GoodLink b l
  pub uses : (u : Use) → Memᴰ u b.uses → GoodUse earlier b u

pub data Good : List Block → Type 0 where
  none : Good []
  more : {b : Block} {earlier : List Block} → GoodBlock earlier b → Good earlier → Good (b ∷ earlier)

-- How many joins and own cues blocks may have. Being well formed does not depend on it.
pub data Small : List Block → Type 0 where
  small-none : Small []
  small-more : {b : Block} {earlier : List Block} → b.joins ≤ max_joins → b.own ≤ max_own → Small earlier → Small (b ∷ earlier)
