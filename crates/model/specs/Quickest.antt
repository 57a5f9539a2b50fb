-- The quickest way. Document 02, Paper 5: "The quickest answer is the smallest sum of waits over all chains". In the field's terms: the least weight of a
-- path, where a link weighs its label's wait, which may be 0. What the sum of a chain is, of which nothing is computed, stands in
-- crates/demands/specs/Quickest, with what the quickest is proved to be.
use Rattle.std.specs.Prelude.{ℕ, zero, suc, ◌+◌, ◌-◌, List, [], ◌∷◌, get_or}
use Rattle.model.specs.Choice.{if_lt, if_eq}
use Rattle.model.specs.Blocks.{Link}
use Rattle.model.specs.Chains.{Distance, Far, Unreachable, followed}

-- The smaller of two sums; none counts as larger than all.
unfoldable pub quicker : Distance → Distance → Distance
quicker Unreachable d = d
quicker (Far n) Unreachable = Far n
quicker (Far n) (Far m) = Far (if_lt m n m n)

-- A sum with a wait before it.
unfoldable pub with_wait : ℕ → Distance → Distance
with_wait w Unreachable = Unreachable
with_wait w (Far n) = Far (w + n)

-- The smallest of d and of the sums of chains that begin with one of these links, from cue v, and go on as quickly as rest says. waits has the wait of each
-- label.
unfoldable pub quickest_over : List ℕ → (ℕ → Distance) → ℕ → List Link → Distance → Distance
quickest_over waits rest v [] d = d
quickest_over waits rest v (l ∷ E) d =
    if_eq l.from v (quicker (with_wait (get_or waits l.label 0) (rest l.to)) (quickest_over waits rest v E d)) (quickest_over waits rest v E d)

-- The smallest sum over the chains of at most so many of these links from cue v to t: "0 where s is t".
unfoldable pub quickest_within : List ℕ → List Link → ℕ → ℕ → ℕ → Distance
quickest_within waits E t zero v = if_eq v t (Far 0) Unreachable
quickest_within waits E t (suc n) v = quickest_over waits (quickest_within waits E t n) v E (if_eq v t (Far 0) Unreachable)

-- From s to t among so many cues. A chain that comes back to a cue is no quicker for it, and one that doesn't has fewer links than there are cues. That it
-- is the sum of a chain, and none is smaller, is a theorem (crates/demands).
unfoldable pub quickest : List ℕ → List Link → ℕ → ℕ → ℕ → Distance
quickest waits E cues s t = quickest_within waits (followed E) t (cues - 1) s
