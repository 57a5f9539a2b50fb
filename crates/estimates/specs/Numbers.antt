-- Two numbers that estimates are, and what bounds a list of them.
use Rattle.std.specs.Prelude.{ℕ, ◌≤◌, ◌<◌, ◌≡◌, Bool, true, false, ◌⊎◌, List, get_or, map}
use mathlib.Core.Path.{sym}
use Rattle.std.proofs.lemmas.List.{map-id}

-- r is the lesser of z and y.
abbrev pub Lesser : ℕ → ℕ → ℕ → Type 0
Lesser z y r = ((z < y) × (r ≡ z)) ⊎ ((y ≤ z) × (r ≡ y))

-- c says whether z is less than y.
abbrev pub Falls : ℕ → ℕ → Bool → Type 0
Falls z y c = ((z < y) × (c ≡ true)) ⊎ ((y ≤ z) × (c ≡ false))

-- No number of a list is above n.
abbrev pub AtMost : ℕ → List ℕ → Type 0
AtMost n d = (a : ℕ) → get_or d a 0 ≤ n

-- Numbers that say what they are.
pub all_same : (d : List ℕ) → d ≡ map (λ x. x) d
all_same d = sym (map-id d)
