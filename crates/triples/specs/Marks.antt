-- A table of marks for the links from one cue. The byte at label_places × v + label is 1 if a link with this label leads to cue v, and 0 if none does.
use Rattle.std.specs.Prelude.{ℕ, ◌+◌, ◌*◌, ◌≤◌, ◌<◌, ◌≡◌, Bool, false, List, [], ◌∷◌, length, get_or, set}
use Rattle.model.specs.Choice.{if_lt}
use Rattle.model.specs.Limits.{max_label, printed_cues}
use Rattle.model.specs.Answers.{flag}
use Rattle.model.specs.Blocks.{Link, blocks_of, count}
use Rattle.model.specs.Printed.{is_triple}
use Rattle.model.specs.Unfolding.{show_links}
use Rattle.blocks.specs.declared.Place.{Place}
use Rattle.blocks.specs.Loaded.{Loaded}
use Rattle.blocks.specs.Places.{Found}

-- The places of a cue in a table: one for each label, and for label 0. The places of a table: those of each cue of a show whose links are
-- printed, and of cue 0.
abbrev pub label_places : ℕ
label_places = max_label + 1

abbrev pub marks_size : ℕ
marks_size = label_places * (printed_cues + 1)

-- The table is that of cue u, for the cues v up to n.
pub record Marked (E : List Link) (u n : ℕ) (m : List ℕ) : Type 0 where
  pub long : length m ≡ marks_size
  pub none : (v : ℕ) → 1 ≤ v → v ≤ n → get_or m (label_places * v) 0 ≡ 0
  pub at : (v label : ℕ) → 1 ≤ v → v ≤ n → 1 ≤ label → label < label_places → get_or m (label_places * v + label) 0 ≡ flag (is_triple E u v label)

-- The same while it is being made: the labels below a limit are marked.
pub record MarkedTo (E : List Link) (u n limit : ℕ) (m : List ℕ) : Type 0 where
  pub long : length m ≡ marks_size
  pub none : (v : ℕ) → 1 ≤ v → v ≤ n → get_or m (label_places * v) 0 ≡ 0
  pub at : (v label : ℕ) → 1 ≤ v → v ≤ n → 1 ≤ label → label < label_places
      → get_or m (label_places * v + label) 0 ≡ if_lt label limit (flag (is_triple E u v label)) 0

-- The table of cue u of some rows, while it is being made.
abbrev pub TableTo : List ℕ → ℕ → ℕ → List ℕ → Type 0
TableTo xs u limit m = MarkedTo (show_links (blocks_of xs)) u (count (blocks_of xs)) limit m

-- A loaded show of at most 1,000 cues, and the place of one of these.
pub record Aims (xs t rows : List ℕ) (place : Place) : Type 0 where
  pub loaded : Loaded xs t
  pub found : Found xs t rows place
  pub few : count (blocks_of xs) ≤ printed_cues

-- A table without marks.
pub record Blank (m : List ℕ) : Type 0 where
  pub long : length m ≡ marks_size
  pub at : (x : ℕ) → x < marks_size → get_or m x 0 ≡ 0

-- A label marked for some cues.
unfoldable pub marks_all : List ℕ → ℕ → List ℕ → List ℕ
marks_all [] label m = m
marks_all (v ∷ vs) label m = marks_all vs label (set m (label_places * v + label) 1)

-- Each of some numbers has a place in the table.
pub record Within (vs : List ℕ) : Type 0 where
  pub each : (i : ℕ) → i < length vs → get_or vs i 0 ≤ printed_cues

-- Where a test says no, a list is empty.
pub record Says (b : Bool) (vs : List ℕ) : Type 0 where
  pub none : b ≡ false → vs ≡ []

-- The last label of a group that begins with a label.
pub record GroupEnd (lo hi : ℕ) : Type 0 where
  pub order : lo ≤ hi
  pub bound : hi < label_places
