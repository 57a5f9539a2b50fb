-- Walks over a relation with weights: W u v w says that an edge of weight w leads from u to v. The weight of a walk is the sum of
-- the weights of its edges; a chain is a walk whose edges are followed links and weigh 1 each.
use Rattle.std.specs.Prelude.{ℕ, ◌+◌, ◌≤◌, ◌≡◌}
use mathlib.Core.List.{List, Memᴰ}
use Rattle.model.specs.Limits.{max_followed}
use Rattle.model.specs.Blocks.{Link}

-- Walk W t s n is a walk of weight n from s to t. Every index is a variable and the equations are arguments, so that each case of a
-- match goes through.
pub data Walk (W : ℕ → ℕ → ℕ → Type 0) (t : ℕ) : ℕ → ℕ → Type 0 where
  stop : {s n : ℕ} → s ≡ t → n ≡ 0 → Walk W t s n
  step : {s n : ℕ} (u w m : ℕ) → W s u w → Walk W t u m → n ≡ w + m → Walk W t s n

-- What links weigh: price label w says that a link with this label may be taken for w.
abbrev pub Price : Type 1
Price = ℕ → ℕ → Type 0

-- "Its length is how many links the list has": every link that a chain may have counts 1. A note can't be taken.
abbrev pub each-one : Price
each-one label w = (label ≤ max_followed) × (w ≡ 1)

-- A link of E leads from u to v and is taken for w.
abbrev pub Linked : Price → List Link → ℕ → ℕ → ℕ → Type 0
Linked price E u v w = (l : Link) × Memᴰ l E × (l.from ≡ u) × (l.to ≡ v) × price l.label w
