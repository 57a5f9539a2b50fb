-- The fewest follow-ons. Document 01, "Unfolding", and 02, Paper 3. In the field's terms: the distance from s to t. What a chain is, of which nothing is
-- computed, stands in crates/distances/specs/Demand, with what the fewest is proved to be.
use Rattle.std.specs.Prelude.{ℕ, zero, suc, Bool, true, false, List, [], ◌∷◌, eqb}
use Rattle.model.specs.Choice.{if_lt}
use Rattle.model.specs.Limits.{max_followed}
use Rattle.model.specs.Blocks.{Link}

-- The links that a chain may have. 02, Paper 3: "From now on a chain has only links with labels 1 to 254". Those of label 255 are notes, which
-- lists and the unfolding program show (01: "All labels count as follow-ons").
unfoldable pub followed : List Link → List Link
followed [] = []
followed (l ∷ E) = if_lt max_followed l.label (followed E) (l ∷ followed E)

-- "Fewest from s to t: a number, or none."
pub data Distance : Type 0 where
  Far : ℕ → Distance
  Unreachable : Distance

unfoldable pub is_in : ℕ → List ℕ → Bool
is_in v [] = false
is_in v (x ∷ xs) = elim (eqb v x) [ true ↦ true | false ↦ is_in v xs ]

-- The cues that links lead to from some cues.
unfoldable pub successors : List Link → List ℕ → List ℕ
successors [] cs = []
successors (l ∷ E) cs = elim (is_in l.from cs) [ true ↦ l.to ∷ successors E cs | false ↦ successors E cs ]

-- The least of the lengths n, n + 1, .. (so many are tried) that a chain to t has, where cs are the cues that chains of length n lead to.
unfoldable pub search_from : List Link → ℕ → ℕ → ℕ → List ℕ → Distance
search_from E t zero n cs = Unreachable
search_from E t (suc many) n cs = elim (is_in t cs) [ true ↦ Far n | false ↦ search_from E t many (suc n) (successors E cs) ]

-- The length of the shortest chain from s to t among so many cues. A chain that repeats no cue has fewer links than there are cues,
-- so longer ones need no search. That it is the length of a chain, and none is shorter, is a theorem (crates/distances).
unfoldable pub fewest : List Link → ℕ → ℕ → ℕ → Distance
fewest E cues s t = search_from (followed E) t cues 0 (s ∷ [])
