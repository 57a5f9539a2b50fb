-- Demand 3: what fewest answers about cues s and t. Document 01, "Questions": "Fewest from s to t: a number, or none." What a chain is: `Chain` of
-- crates/distances/specs/Demand.
use Rattle.std.specs.Prelude.{ℕ, ◌≤◌, ◌≡◌, List, Ok, Some, None}
use Rattle.model.specs.Answers.{FewestAnswer}
use Rattle.model.specs.Blocks.{Link}
use Rattle.distances.specs.Demand.{Chain, NoChain}

-- The answer r from cue s to cue t, where E are the links that a chain may have.
pub record IsFewest (E : List Link) (s t : ℕ) (r : FewestAnswer) : Type 0 where
  -- A number exactly when there is a chain from s to t: then it is the length of such a chain.
  pub found : (m : ℕ) → Chain E t s m → (n : ℕ) × (r ≡ Ok (Some n))
  pub chain : (n : ℕ) → r ≡ Ok (Some n) → Chain E t s n
  -- Otherwise none.
  pub none : r ≡ Ok None → NoChain E s t
  pub lost : NoChain E s t → r ≡ Ok None
  -- No such chain is shorter.
  pub least : (n m : ℕ) → r ≡ Ok (Some n) → Chain E t s m → n ≤ m
  -- 0 exactly where s is t.
  pub still : r ≡ Ok (Some 0) → s ≡ t
  pub stays : s ≡ t → r ≡ Ok (Some 0)
