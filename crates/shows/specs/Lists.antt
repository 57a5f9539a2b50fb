-- What the laws of the lists of linked cues are stated with. Document 01, "Questions": "the smallest linked cues greater than n, each
-- once, rising".
use Rattle.std.specs.Prelude.{ℕ, ◌<◌, ◌≡◌}
use mathlib.Core.List.{List, [], ◌∷◌, Memᴰ}
use Rattle.model.specs.Blocks.{Link}

-- Some link leads from u to v, whatever its label.
abbrev pub Leads : List Link → ℕ → ℕ → Type 0
Leads E u v = (l : Link) × Memᴰ l E × (l.from ≡ u) × (l.to ≡ v)

-- "each once, rising": every number is less than all that follow it.
pub data Rising : List ℕ → Type 0 where
  none : Rising []
  more : {x : ℕ} {xs : List ℕ} → ((y : ℕ) → Memᴰ y xs → x < y) → Rising xs → Rising (x ∷ xs)
