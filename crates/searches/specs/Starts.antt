-- What estimates begin with, and the estimates of some cues.
use Rattle.std.specs.Prelude.{ℕ, ◌+◌, ◌≤◌, ◌<◌, ◌≡◌, ◌⊎◌, List, get_or}
use Rattle.model.specs.Limits.{max_joins, max_own}
use Rattle.blocks.specs.Loaded.{IsRow, column_at}

-- An estimate for each cue of a block, own or join, and one at 0.
abbrev pub estimates_size : ℕ
estimates_size = max_own + max_joins + 1

-- begun a x: estimates begin with x at cue a.
abbrev pub Beginnings : Type 1
Beginnings = ℕ → ℕ → Type 0

-- At no cue; with y at v; with one or the other; with each of the first n.
abbrev pub Nowhere : Beginnings
Nowhere a x = ⊥

abbrev pub Cell : ℕ → ℕ → Beginnings
Cell v y a x = (a ≡ v) × (x ≡ y)

abbrev pub Either : Beginnings → Beginnings → Beginnings
Either S T a x = S a x ⊎ T a x

abbrev pub EachOf : (ℕ → Beginnings) → ℕ → Beginnings
EachOf S n a x = (i : ℕ) × (i < n) × S i a x

-- Row r names at least m cues, and each of these has an estimate among the n of a list.
pub record Meets (xs : List ℕ) (r m n : ℕ) : Type 0 where
  pub there : IsRow xs r
  pub few : m ≤ max_joins
  pub within : (i : ℕ) → i < m → column_at xs r i < n

-- At the first m cues that row r names, with the numbers from place q on.
unfoldable pub MetAt : List ℕ → ℕ → List ℕ → ℕ → ℕ → Beginnings
MetAt xs r kept q m = EachOf (λ i. Cell (column_at xs r i) (get_or kept (q + i) 0)) m

-- The estimates of cues up to n are just what they begin with; from inf on a number is no estimate.
pub record Started (inf n : ℕ) (begun : Beginnings) (d : List ℕ) : Type 0 where
  pub fallen : (a x : ℕ) → a ≤ n → begun a x → get_or d a 0 ≤ x
  pub attained : (a : ℕ) → a ≤ n → get_or d a 0 < inf → begun a (get_or d a 0)

-- d with each estimate that is begun put in where it is less than what is there.
pub record Merged (S : Beginnings) (d e : List ℕ) : Type 0 where
  pub fallen : (a x : ℕ) → S a x → get_or e a 0 ≤ x
  pub lower : (a : ℕ) → get_or e a 0 ≤ get_or d a 0
  pub from : (a : ℕ) → (get_or e a 0 ≡ get_or d a 0) ⊎ S a (get_or e a 0)

-- The estimates of the first m cues that row r names; the other numbers are as they were.
pub record Gathered (xs : List ℕ) (r : ℕ) (d : List ℕ) (m : ℕ) (e₀ e : List ℕ) : Type 0 where
  pub at : (i : ℕ) → i < m → get_or e i 0 ≡ get_or d (column_at xs r i) 0
  pub else : (i : ℕ) → m ≤ i → get_or e i 0 ≡ get_or e₀ i 0
