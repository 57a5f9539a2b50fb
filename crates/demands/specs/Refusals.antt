-- Which refusal a question about lent rows gives, exactly, and that a refusal leaves what was lent as it was: the same for every question, over what is
-- returned, with the room that it needs and the cues that it is asked about. Document 01, "Refusals by number". (What is read: Files.)
use Rattle.std.specs.Prelude.{ℕ, ◌≤◌, ◌<◌, ◌≡◌, ◌⊎◌, ◌↔◌, length}
use mathlib.Core.List.{List, Memᴰ}
use Rattle.model.specs.Blocks.{blocks_of, count}
use Rattle.model.specs.Answers.{Returned}
use Rattle.demands.specs.Acceptance.{Lawful, ChecksRows}

-- 11: "lent output, path list or work area too short", where it needs so many places. One that needs none is never too short: "List pages are never too
-- short."
abbrev pub TooShort : ℕ → List ℕ → Type 0
TooShort need lent = length lent < need

-- 12: "cue number 0 or above the count"; and that one of some cues is such.
abbrev pub NoCue : List ℕ → ℕ → Type 0
NoCue xs n = (n ≡ 0) ⊎ (count (blocks_of xs) < n)

abbrev pub SomeNoCue : List ℕ → List ℕ → Type 0
SomeNoCue xs cues = (n : ℕ) × Memᴰ n cues × NoCue xs n

-- A question about rows xs, asked about some cues, returned a; Short says that the lent list is too short; it held lent, and holds after. later has the
-- numbers above 12 that the question can return (13: `Numbers.IsNumber`; 14: `RowBehind.IsRowBehind`; 15 to 17: `Quickest.QuickestExact`).
pub record Refuses (xs : List ℕ) (Short : Type 0) (cues later lent : List ℕ) (a : Returned) (after : List ℕ) : Type 0 where
  -- "Checks run in this order": 4 to 10 are of the rows,
  pub rows : ChecksRows xs a
  -- then each exactly where it is due,
  pub no_room : (a.number ≡ 11) ↔ (Lawful xs × Short)
  pub no_cue : (a.number ≡ 12) ↔ (Lawful xs × (Short → ⊥) × SomeNoCue xs cues)
  pub no_other : 12 < a.number → Memᴰ a.number later
  -- 11 to 14 with place 0.
  pub place : 10 < a.number → a.number < 15 → a.place ≡ 0
  -- "A refusal leaves all lent memory unchanged."
  pub unchanged : 1 ≤ a.number → after ≡ lent

-- A question, by what it promises of an answer and of what the lent list holds afterwards, has an answer. The other statements speak of answers only, and
-- would say nothing where there is none.
pub record HasAnswer {A : Type 0} (Asks : A → List ℕ → Type 0) : Type 0 where
  pub answer : A
  pub after : List ℕ
  pub asks : Asks answer after
