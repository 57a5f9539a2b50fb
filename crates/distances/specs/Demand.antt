-- Demand 3: what a chain is, and what the fewest answer and the summaries promise, in the words of document 01.
use Rattle.std.specs.Prelude.{ℕ, suc, ◌+◌, ◌≤◌, ◌<◌, ◌≡◌, ◌⊎◌, ◌≢◌}
use mathlib.Core.List.{List, Memᴰ}
use Rattle.model.specs.Blocks.{Link}
use Rattle.model.specs.Chains.{Distance, Far, Unreachable}

-- Chain E t s n is a chain from s to t that has n of the links E. "A chain from s to t in an unfolding is a list of its links: the
-- first starts at s, each next one where the one before ended, and the last ends at t. Its length is how many links the list has. The
-- empty list is a chain from each cue to itself, and never from one cue to a different one."
pub data Chain (E : List Link) (t : ℕ) : ℕ → ℕ → Type 0 where
  here : Chain E t t 0
  link : {n : ℕ} (l : Link) → Memᴰ l E → Chain E t l.to n → Chain E t l.from (suc n)

-- No chain of these links leads from s to t.
abbrev pub NoChain : List Link → ℕ → ℕ → Type 0
NoChain E s t = (n : ℕ) → Chain E t s n → ⊥

-- "Fewest from s to t: a number, or none": d is the length of the shortest chain of these links.
pub record Shortest (E : List Link) (s t : ℕ) (d : Distance) : Type 0 where
  -- A number exactly if a chain exists, and then a chain of this length does.
  pub chain : (n : ℕ) → d ≡ Far n → Chain E t s n
  pub found : (m : ℕ) → Chain E t s m → (n : ℕ) × (d ≡ Far n)
  -- None is shorter.
  pub least : (n m : ℕ) → d ≡ Far n → Chain E t s m → n ≤ m
  -- None exactly if no chain exists.
  pub none : d ≡ Unreachable → NoChain E s t
  pub lost : NoChain E s t → d ≡ Unreachable
  -- 0 exactly where s is t.
  pub still : d ≡ Far 0 → s ≡ t
  pub stays : s ≡ t → d ≡ Far 0

-- "for block k, join i to join j .. the fewest follow-ons inside that block's own unfolding": n is this number, for a block that has so many joins, and cues
-- in its own unfolding; E are the links there that a chain may have. The joins have the numbers behind those of the cues.
pub record Summarised (E : List Link) (cues joins i j n : ℕ) : Type 0 where
  -- "It is 4,294,967,295 where the block lacks either join or has no chain", and only there.
  pub lacking : (joins < i) ⊎ (joins < j) → n ≡ 4294967295
  pub lost : NoChain E (cues + i) (cues + j) → n ≡ 4294967295
  pub none : n ≡ 4294967295 → i ≤ joins → j ≤ joins → NoChain E (cues + i) (cues + j)
  -- Any other number is the length of a chain from a join it has to a join it has, and no chain is shorter.
  pub joined : n ≢ 4294967295 → (i ≤ joins) × (j ≤ joins)
  pub chain : n ≢ 4294967295 → Chain E (cues + j) (cues + i) n
  pub least : i ≤ joins → j ≤ joins → (m : ℕ) → Chain E (cues + j) (cues + i) m → (n ≤ m) × (n < 4294967295)
  -- "and 0 from a join it has to itself."
  pub itself : i ≤ joins → i ≡ j → n ≡ 0
