-- The lines of one cue's links, place by place of its table of marks.
use Rattle.std.specs.Prelude.{ℕ, suc, ◌-◌, ◌≤◌, ◌<◌, ◌/◌, ◌%◌, ◌≡◌, Bool, true, false, length, get_or, take}
use mathlib.Core.List.{List, [], ◌∷◌, ◌++◌, flat_map}
use Rattle.model.specs.Choice.{if_eq}
use Rattle.model.specs.Blocks.{Link}
use Rattle.model.specs.Lists.{range, keep}
use Rattle.model.specs.Printed.{number_text, values_text, triples_of}
use Rattle.triples.specs.Marks.{label_places}

-- A number and the byte behind it.
unfoldable pub ended_text : ℕ → ℕ → List ℕ
ended_text n end = number_text 10 n ++ (end ∷ [])

-- The line of a link.
abbrev pub link_line : Link → List ℕ
link_line l = values_text (l.from ∷ l.to ∷ l.label ∷ [])

-- The lines of the links from cue u, of n cues.
abbrev pub cue_lines : List Link → ℕ → ℕ → List ℕ
cue_lines E u n = flat_map (λ v. flat_map link_line (triples_of E u v)) (range 1 n)

-- The line of the link from cue u that place p stands for: it leads to cue p / label_places with label p % label_places.
unfoldable pub line_of : ℕ → ℕ → List ℕ
line_of u p = values_text (u ∷ p / label_places ∷ p % label_places ∷ [])

-- Place p is marked.
unfoldable pub marked : List ℕ → ℕ → Bool
marked m p = if_eq (get_or m p 0) 1 true false

-- The marked places from p up to e.
unfoldable pub marks_from : List ℕ → ℕ → ℕ → List ℕ
marks_from m p e = keep (marked m) (range p (e - p))

-- Their lines.
unfoldable pub lines_from : List ℕ → ℕ → ℕ → ℕ → List ℕ
lines_from m u p e = flat_map (line_of u) (marks_from m p e)

-- Lines from place p on were put at the start of a list, which changed from `out` to `after`: those before the place that was come to.
pub record Fills (m : List ℕ) (u p e : ℕ) (out : List ℕ) (place used : ℕ) (after : List ℕ) : Type 0 where
  pub from : p ≤ place
  pub upto : place ≤ e
  pub fits : used ≤ length after
  pub long : length after ≡ length out
  pub text : lines_from m u p e ≡ take used after ++ lines_from m u place e
  pub gets_on : 33 ≤ length out → p < e → p < place

-- A text stands at the start of a list.
pub record StartsWith (w : List ℕ) (used : ℕ) (out : List ℕ) : Type 0 where
  pub fits : used ≤ length out
  pub text : take used out ≡ w
