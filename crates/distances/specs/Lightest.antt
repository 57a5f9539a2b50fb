-- The least of the numbers that have a property, and the least weight of a walk: a number, or none.
use Rattle.std.specs.Prelude.{ℕ, ◌≤◌, ◌≡◌, List}
use Rattle.model.specs.Blocks.{Link}
use Rattle.model.specs.Chains.{Distance, Far}
use Rattle.distances.specs.Walks.{Walk, Price, Linked}

-- d is the least number with a property, or none where no number has it.
pub record LeastOf (P : ℕ → Type 0) (d : Distance) : Type 0 where
  -- A number exactly if some number has it, and then this one does.
  pub has : (n : ℕ) → d ≡ Far n → P n
  pub found : (m : ℕ) → P m → (n : ℕ) × (d ≡ Far n)
  -- None is less.
  pub least : (n m : ℕ) → d ≡ Far n → P m → n ≤ m

-- The least weight of a walk from s to t over some links, whatever they weigh; a weight may be 0.
abbrev pub Lightest : Price → List Link → ℕ → ℕ → Distance → Type 0
Lightest price E s t d = LeastOf (Walk (Linked price E) t s) d
