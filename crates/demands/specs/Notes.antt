-- Notes: which links a chain may have, and what fewest answers about a show without notes. Document 02, Paper 3: "The trade now uses label 255 for a note
-- between two cues, and GO never takes it." Rows are counted from 1.
use Rattle.std.specs.Prelude.{ℕ, ◌≤◌, ◌<◌, ◌≡◌, ◌↔◌, length}
use mathlib.Core.List.{List, Memᴰ}
use Rattle.model.specs.Answers.{FewestAnswer}
use Rattle.model.specs.Rows.{Row}
use Rattle.model.specs.Blocks.{Link, blocks_of}
use Rattle.model.specs.Unfolding.{show_links}
use Rattle.model.specs.Chains.{followed}
use Rattle.model.specs.Summaries.{block_links}
use Rattle.demands.specs.Acceptance.{nth_row, IsRow, Links}
use Rattle.demands.specs.Fewest.{IsFewest}
use Rattle.demands.specs.WorkArea.{IsWorkArea}

-- "label 255 for a note between two cues": a row that is one, and "a show without notes".
abbrev pub IsNote : Row → Type 0
IsNote w = Links w × (w.label ≡ 255)

abbrev pub NoNotes : List ℕ → Type 0
NoNotes xs = (r : ℕ) → IsRow xs r → IsNote (nth_row xs r) → ⊥

-- The links that a chain may have, of the unfolded show and of a block's own unfolding; and which those are.
abbrev pub followed_links : List ℕ → List Link
followed_links xs = followed (show_links (blocks_of xs))

abbrev pub followed_inside : List ℕ → ℕ → List Link
followed_inside xs k = followed (block_links (blocks_of xs) k)

-- "From now on a chain has only links with labels 1 to 254": F has just these of the links E.
abbrev pub ChainsHave : List Link → List Link → Type 0
ChainsHave E F = (l : Link) → Memᴰ l F ↔ (Memᴰ l E × (1 ≤ l.label) × (l.label ≤ 254))

-- "in the fewest answer and the summaries": of the links of the unfolded show, and of those of each block's own unfolding.
pub record ChainLinks (xs : List ℕ) : Type 0 where
  pub of-show : ChainsHave (show_links (blocks_of xs)) (followed_links xs)
  pub of-block : (k : ℕ) → k < length (blocks_of xs) → ChainsHave (block_links (blocks_of xs) k) (followed_inside xs k)

-- The old figure, of rows xs: what was answered while "All labels count as follow-ons." (01), in the fewest answer and the summaries too. So a chain may have
-- every link of the unfolded show, and of a block's own unfolding. (Refusals know nothing of notes: Refusals.)
-- "A user who asks for the fewest follow-ons over a show without notes must see the old figure": the answer, and the work area afterwards.
pub record OldFigure (xs : List ℕ) (s t : ℕ) (work : List ℕ) (r : FewestAnswer) (after : List ℕ) : Type 0 where
  pub fewest : IsFewest (show_links (blocks_of xs)) s t r
  pub work-area : IsWorkArea xs (block_links (blocks_of xs)) work after
