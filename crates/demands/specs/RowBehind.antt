-- The row behind a follow-on: what row answers about cues s and t, and leaves in the lent list. Document 02, Paper 2: "For s and t, give the number of one
-- link row, and the depth and path of the copy it stands in, the path into a path list as for locating." What a copy at a path is: Copies. Rows are
-- counted from 1.
use Rattle.std.specs.Prelude.{ℕ, ◌≤◌, ◌<◌, ◌≡◌, ◌⊎◌, ◌↔◌, length, Ok, Err}
use mathlib.Core.List.{List, Memᴰ}
use Rattle.model.specs.Answers.{RowAnswer, row_at_depth}
use Rattle.model.specs.Limits.{max_depth}
use Rattle.model.specs.Blocks.{Link, blocks_of}
use Rattle.model.specs.Verdicts.{refusal}
use Rattle.model.specs.Unfolding.{show_links}
use Rattle.shows.specs.Copies.{number, show_copy, Steps}
use Rattle.demands.specs.Buffers.{Leaves}
use Rattle.demands.specs.Acceptance.{nth_row, IsRow, column, Links, Below}
use Rattle.demands.specs.Lists.{LinkLeads}
use Rattle.demands.specs.Copies.{block_at_path, copy_at}

-- "The row given must stand in the unfolded show as a link from s to t": a row, and the path of the copy that it stands in.
pub record StandsAs (xs : List ℕ) (s t : ℕ) (path : List ℕ) (row : ℕ) : Type 0 where
  -- Each step of the path is a use, and the row is a link row of the block that the path leads to;
  pub steps : Steps (show_copy (blocks_of xs)) path
  pub is : IsRow xs row
  pub links : Links (nth_row xs row)
  pub block : (nth_row xs row).block ≡ block_at_path xs path
  -- the cues a and b that the row names have the numbers s and t in the copy there.
  pub from : number (copy_at xs path) (column (nth_row xs row) 1) ≡ s
  pub to : number (copy_at xs path) (column (nth_row xs row) 2) ≡ t

-- Which of two wins.

-- "the shortest path wins".
abbrev pub DepthWins : ℕ → ℕ → Type 0
DepthWins a b = a < b

-- "Where several links join s to t, the shortest path wins. Among equal lengths, the path that is smaller at the first differing step wins, then the
-- smaller row": the row at a path wins over another at its way.
pub data Wins (path : List ℕ) (row : ℕ) (way : List ℕ) (other : ℕ) : Type 0 where
  by-depth : DepthWins (length path) (length way) → Wins path row way other
  by-step : length path ≡ length way → Below path way → Wins path row way other
  by_row : path ≡ way → row < other → Wins path row way other

-- What is answered.

abbrev pub link : ℕ → ℕ → ℕ → Link
link s t label = record { from = s; to = t; label = label }

-- A row and a depth, and what is left in the lent list: the path, "0 to 127" long. The row stands there as a link from s to t, which the unfolded show
-- has. It wins over every other row and path that do, and none of them wins over it.
pub record IsGiven (xs : List ℕ) (s t : ℕ) (lent : List ℕ) (row depth : ℕ) (after : List ℕ) : Type 0 where
  pub path : List ℕ
  pub long : length path ≡ depth
  pub leaves : Leaves path lent after
  pub deep : length path ≤ max_depth
  pub stands : StandsAs xs s t path row
  pub shown : Memᴰ (link s t (nth_row xs row).label) (show_links (blocks_of xs))
  pub wins : (way : List ℕ) (other : ℕ) → StandsAs xs s t way other → ((way ≡ path) × (other ≡ row)) ⊎ Wins path row way other
  pub unbeaten : (way : List ℕ) (other : ℕ) → StandsAs xs s t way other → Wins way other path row → ⊥

-- The answer r, for cues of the show and a list that is long enough.
pub record IsRowBehind (xs : List ℕ) (s t : ℕ) (lent : List ℕ) (r : RowAnswer) (after : List ℕ) : Type 0 where
  -- What stands as a link from s to t is what the unfolded show has, label by label.
  pub stand : (label : ℕ)
      → Memᴰ (link s t label) (show_links (blocks_of xs))
      ↔ ((path : List ℕ) × (row : ℕ) × StandsAs xs s t path row × ((nth_row xs row).label ≡ label))
  -- A row is given exactly if there is such a link, and then it is the one that wins.
  pub exactly : ((row depth : ℕ) × (r ≡ Ok (row_at_depth row depth))) ↔ LinkLeads xs s t
  pub given : (row depth : ℕ) → r ≡ Ok (row_at_depth row depth) → IsGiven xs s t lent row depth after
  -- "14, place 0, where no link from s to t exists". (That a refusal leaves the list as it was: `Refusals.Refuses`.)
  pub none : (r ≡ Err (refusal 14 0)) ↔ (LinkLeads xs s t → ⊥)
