-- What is demanded of a wait file, said of its bytes and in the document's figures. Document 02, Paper 5, which all quotations are from.
use Rattle.std.specs.Prelude.{ℕ, ◌+◌, ◌≤◌, ◌<◌, ◌≡◌, ◌⊎◌}
use mathlib.Core.List.{List, [], ◌∷◌, Memᴰ}
use Rattle.shows.specs.SmallFiles.{SpellsSmall, BreaksAt, LineIs, FirstOf}

-- "the names `label,wait`", in ASCII, and a line feed; the comma and the line feed behind the two values of a line.
abbrev pub wait_names : List ℕ
wait_names = 108 ∷ 97 ∷ 98 ∷ 101 ∷ 108 ∷ 44 ∷ 119 ∷ 97 ∷ 105 ∷ 116 ∷ 10 ∷ []

abbrev pub wait_ends : List ℕ
wait_ends = 44 ∷ 10 ∷ []

-- "then any number of lines of values, written as in Paper 1": file f has the lines vss.
abbrev pub Spells : List ℕ → List (List ℕ) → Type 0
Spells = SpellsSmall wait_names wait_ends

-- "A line gives a label from 1 to 254 and its wait of 0 to 6,000 tenths of a second." These are none, and line n has such.
abbrev pub OutsideRange : ℕ → ℕ → Type 0
OutsideRange label wait = (label ≡ 0) ⊎ (254 < label) ⊎ (6000 < wait)

abbrev pub OutsideAt : List (List ℕ) → ℕ → Type 0
OutsideAt vss n = (label wait : ℕ) × LineIs vss n (label ∷ wait ∷ []) × OutsideRange label wait

-- "Labels rise from line to line." That of line n is not "above the one before".
abbrev pub NotAbove : List (List ℕ) → ℕ → Type 0
NotAbove vss n =
    (m label wait before other : ℕ) × (n ≡ m + 1) × LineIs vss m (before ∷ other ∷ []) × LineIs vss n (label ∷ wait ∷ []) × (label ≤ before)

-- Every sentence holds of every line.
pub record LawfulWaits (f : List ℕ) (vss : List (List ℕ)) : Type 0 where
  pub spells : Spells f vss
  pub in_range_is : (n : ℕ) → OutsideAt vss n → ⊥
  pub rising : (n : ℕ) → NotAbove vss n → ⊥

-- How long a label waits: as its line says, and "A label without a line waits 0."
pub data Waits (vss : List (List ℕ)) (label : ℕ) : ℕ → Type 0 where
  lined : {wait : ℕ} → Memᴰ (label ∷ wait ∷ []) vss → Waits vss label wait
  unlined : ((wait : ℕ) → Memᴰ (label ∷ wait ∷ []) vss → ⊥) → Waits vss label 0

-- "15 with the first malformed line (line 1 for wrong names)".
abbrev pub Malformed : List ℕ → ℕ → Type 0
Malformed = BreaksAt wait_names wait_ends

-- "then 16 with the first line whose label or wait is outside its range".
abbrev pub Outside : List ℕ → ℕ → Type 0
Outside f n = (vss : List (List ℕ)) × Spells f vss × FirstOf (OutsideAt vss) n

-- "then 17 with the first line whose label isn't above the one before".
abbrev pub NotRising : List ℕ → ℕ → Type 0
NotRising f n = (vss : List (List ℕ)) × Spells f vss × ((m : ℕ) → OutsideAt vss m → ⊥) × FirstOf (NotAbove vss) n
