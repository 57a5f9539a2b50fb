-- Links between the cues of one block, and what the table says of them. In the record of join i of
-- block k, flag j is 1 if a link that the question picks joins join i to join j somewhere inside,
-- and the flag for what is inside if one joins it to a cue numbered there; the bits are those of
-- the own cues that one joins it to.
use Rattle.std.specs.Prelude.{ℕ, ◌+◌, ◌≤◌, ◌<◌, ◌≡◌, ◌↔◌, true, length, get_or}
use mathlib.Core.List.{List, Memᴰ}
use Rattle.model.specs.Limits.{max_joins}
use Rattle.model.specs.Blocks.{Link, Use, Block, block_at, joins_of, own_of, total}
use Rattle.model.specs.Unfolding.{links}
use Rattle.shows.specs.Copies.{number, copy_of, Sound}
use Rattle.neighbours.specs.declared.Ask.{Ask}
use Rattle.neighbours.specs.Picks.{here, there, fits, Picked}
use Rattle.blocks.specs.Loaded.{column_at}
use Rattle.neighbours.specs.Records.{record_size, inside_at, bits_at, record_at, own_bit, On, HasMark, Coarse, Added}

abbrev pub Flag : List ℕ → ℕ → ℕ → ℕ → Type 0
Flag m k i j = get_or m (record_at k i + j) 0 ≡ 1

-- A link of the block joins its cue c to its cue d, or a use that meets both at joins which are
-- linked inside.
pub data Near (q : Ask) (m : List ℕ) (b : Block) (c d : ℕ) : Type 0 where
  by-link : (l : Link) → Memᴰ l b.links → fits q l.label ≡ true → here q l ≡ c → there q l ≡ d → Near q m b c d
  by-use : (u : Use) → Memᴰ u b.uses → (i j : ℕ) → i < length u.at → j < length u.at → get_or u.at i 0 ≡ c
      → get_or u.at j 0 ≡ d → Flag m u.block i j → Near q m b c d

-- The same of one use.
pub record ByUse (m : List ℕ) (u : Use) (c d : ℕ) : Type 0 where
  pub i : ℕ
  pub j : ℕ
  pub in_i : i < length u.at
  pub in_j : j < length u.at
  pub at_i : get_or u.at i 0 ≡ c
  pub at_j : get_or u.at j 0 ≡ d
  pub flag : Flag m u.block i j

pub record ByUses (m : List ℕ) (us : List Use) (c d : ℕ) : Type 0 where
  pub use_of : Use
  pub member : Memᴰ use_of us
  pub by : ByUse m use_of c d

-- Those columns of a use's row of which the table has the flags from `at` on.
pub record ByRow (xs m : List ℕ) (r at joins d : ℕ) : Type 0 where
  pub j : ℕ
  pub in_j : j < joins
  pub at_j : column_at xs r j ≡ d
  pub flag : get_or m (at + j) 0 ≡ 1

-- The table has no cue inside the copy of a use for the join that meets cue c; and so for some
-- uses.
pub record Quiet (m : List ℕ) (c : ℕ) (u : Use) : Type 0 where
  pub at : (n : ℕ) → n < length u.at → get_or u.at n 0 ≡ c → Flag m u.block n inside_at → ⊥

pub record QuietAll (m : List ℕ) (c : ℕ) (us : List Use) : Type 0 where
  pub at : (u : Use) → Memᴰ u us → Quiet m c u

-- After the marks of a use, and of some uses: where the flag for what is inside is not set, nothing
-- inside them is linked to cue c.
pub record UseMarked (own : ℕ) (m : List ℕ) (u : Use) (c : ℕ) (s w : List ℕ) : Type 0 where
  pub added : Added own (ByUse m u c) s w
  pub quiet : (get_or w inside_at 0 ≡ 1 → ⊥) → Quiet m c u

pub record UsesMarked (own : ℕ) (m : List ℕ) (us : List Use) (c : ℕ) (s w : List ℕ) : Type 0 where
  pub added : Added own (ByUses m us c) s w
  pub quiet : (get_or w inside_at 0 ≡ 1 → ⊥) → QuietAll m c us

-- The record s marks the cues of the block that are linked to its cue c.
pub record Marks (q : Ask) (m : List ℕ) (b : Block) (c : ℕ) (s : List ℕ) : Type 0 where
  pub long : length s ≡ record_size
  pub coarse : Coarse b.own s
  pub at : (d : ℕ) → HasMark b.own d → On b.own s d ↔ Near q m b c d
  pub quiet : (get_or s inside_at 0 ≡ 1 → ⊥) → QuietAll m c b.uses

-- The record in the table from `at` on has the bits of the own cues that are linked to cue c
-- of block k, whatever cues the joins meet.
pub record KnownOwn (q : Ask) (bs : List Block) (m : List ℕ) (at k c : ℕ) : Type 0 where
  pub own : (base : ℕ) (met : List ℕ) → Sound (copy_of bs k base met) → (d : ℕ) → 1 ≤ d → d ≤ own_of bs k
      → (own_bit m (at + bits_at) d ≡ 1) ↔ Picked q (links bs k base met) (number (copy_of bs k base met) c) (base + d)

-- The table is right for join i of block k, whatever cues the joins meet.
pub record Exact (q : Ask) (bs : List Block) (m : List ℕ) (k i : ℕ) : Type 0 where
  pub across : (base : ℕ) (met : List ℕ) → Sound (copy_of bs k base met) → (j : ℕ) → j < joins_of bs k
      → Flag m k i j ↔ Picked q (links bs k base met) (get_or met i 0) (get_or met j 0)
  pub inside : (base : ℕ) (met : List ℕ) → Sound (copy_of bs k base met) → (Flag m k i inside_at → ⊥)
      → (u : ℕ) → base < u → u ≤ base + total bs k → Picked q (links bs k base met) (get_or met i 0) u → ⊥
  pub known : KnownOwn q bs m (record_at k i) k (own_of bs k + 1 + i)

-- The record of join i of block k is made; and those of the joins that meet cue c in a use, and in
-- some uses.
abbrev pub Done : List ℕ → ℕ → ℕ → Type 0
Done m k i = get_or m (record_at k i + inside_at) 0 ≡ 0 → ⊥

pub record DoneUse (m : List ℕ) (c : ℕ) (u : Use) : Type 0 where
  pub few : length u.at ≤ max_joins
  pub at : (n : ℕ) → n < length u.at → get_or u.at n 0 ≡ c → Done m u.block n

pub record DoneUses (m : List ℕ) (c : ℕ) (us : List Use) : Type 0 where
  pub at : (u : Use) → Memᴰ u us → DoneUse m c u

-- The records that are made are right, and so are those made that they rest on.
pub record Table (q : Ask) (bs : List Block) (m : List ℕ) : Type 0 where
  pub exact : (k i : ℕ) → i < joins_of bs k → Done m k i → Exact q bs m k i
  pub closed : (k i : ℕ) → i < joins_of bs k → Done m k i → DoneUses m (own_of bs k + 1 + i) (block_at bs k).uses

-- And those that cue c of block k rests on.
pub record RecordsReady (q : Ask) (bs : List Block) (m : List ℕ) (k c : ℕ) : Type 0 where
  pub table : Table q bs m
  pub done : DoneUses m c (block_at bs k).uses

-- Records that were made are as they were.
pub record RecordsKept (m w : List ℕ) : Type 0 where
  pub at : (k i n : ℕ) → i < max_joins → n < record_size → Done m k i → get_or w (record_at k i + n) 0 ≡ get_or m (record_at k i + n) 0

pub record Settled (flag r : ℕ) : Type 0 where
  pub made : r ≡ 0 → ⊥
  pub set : flag ≡ 1 → r ≡ 1

-- After the marks of a use, of some uses and of a cue, and after a record was made: the table is as
-- right as before.
pub record UseStep (q : Ask) (bs : List Block) (own c : ℕ) (u : Use) (m s w v : List ℕ) : Type 0 where
  pub marked : UseMarked own w u c s v
  pub table : Table q bs w
  pub kept : RecordsKept m w
  pub done : DoneUse w c u

pub record UsesStep (q : Ask) (bs : List Block) (own c : ℕ) (us : List Use) (m s w v : List ℕ) : Type 0 where
  pub marked : UsesMarked own w us c s v
  pub table : Table q bs w
  pub kept : RecordsKept m w
  pub done : DoneUses w c us

pub record MarksStep (q : Ask) (bs : List Block) (k c : ℕ) (m w s : List ℕ) : Type 0 where
  pub marks : Marks q w (block_at bs k) c s
  pub ready : RecordsReady q bs w k c
  pub kept : RecordsKept m w

pub record RecordMade (q : Ask) (bs : List Block) (k i : ℕ) (m w : List ℕ) : Type 0 where
  pub table : Table q bs w
  pub kept : RecordsKept m w
  pub done : Done w k i
