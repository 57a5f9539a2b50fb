-- Linked cues. Document 01, "Questions": "the smallest linked cues greater than n, each once, rising, as many as fit".
use Rattle.std.specs.Prelude.{ℕ, zero, suc, ◌-◌, Bool, true, false, List, [], ◌∷◌, ◌++◌, length, drop}
use Rattle.model.specs.Choice.{if_eq, if_true}
use Rattle.model.specs.Blocks.{Link}

-- Some link leads from u to v. "All labels count as follow-ons."
unfoldable pub is_linked : List Link → ℕ → ℕ → Bool
is_linked [] u v = false
is_linked (l ∷ E) u v = if_eq l.from u (if_eq l.to v true (is_linked E u v)) (is_linked E u v)

-- The numbers from n on, so many of them.
unfoldable pub range : ℕ → ℕ → List ℕ
range n zero = []
range n (suc many) = n ∷ range (suc n) many

-- Those numbers of a list that pass a test.
unfoldable pub keep : (ℕ → Bool) → List ℕ → List ℕ
keep test [] = []
keep test (x ∷ xs) = if_true (test x) (x ∷ keep test xs) (keep test xs)

-- "the smallest linked cues greater than n, each once, rising": those of the numbers n + 1 to the count that pass a test.
unfoldable pub cues_after : (ℕ → Bool) → ℕ → ℕ → List ℕ
cues_after test cues n = keep test (range (suc n) (cues - n))

-- "List out, or in, of cue v": the cues that a link leads to from v, or from to v. In the field's terms: successors and predecessors.
unfoldable pub is_out : List Link → ℕ → ℕ → Bool
is_out E v u = is_linked E v u

unfoldable pub is_into : List Link → ℕ → ℕ → Bool
is_into E v u = is_linked E u v

-- "Only the needed beginning of the lent output changes"; "the rest unchanged".
unfoldable pub overwrite : List ℕ → List ℕ → List ℕ
overwrite xs lent = xs ++ drop (length xs) lent
