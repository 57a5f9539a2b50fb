-- The text that the unfolding program prints, in parts that fit a lent buffer: what it begins with, and what is still to come.
use Rattle.std.specs.Prelude.{ℕ, suc, ◌+◌, ◌*◌, ◌-◌, ◌≤◌, ◌<◌, ◌≡◌, Bool, true, false, length, take, Some, None}
use mathlib.Core.List.{List, [], ◌++◌, flat_map}
use Rattle.model.specs.Choice.{if_lt}
use Rattle.model.specs.Limits.{printed_cues}
use Rattle.model.specs.Blocks.{Block, blocks_of, count}
use Rattle.model.specs.Lists.{range}
use Rattle.model.specs.Printed.{printed}
use Rattle.model.specs.Unfolding.{show_links}
use Rattle.blocks.specs.Loaded.{Loaded}
use Rattle.triples.specs.Marks.{label_places, marks_size, Marked}
use Rattle.printing.specs.Stream.{cue_lines, lines_from}
use Rattle.printed.specs.declared.Links.{Links}
use Rattle.printed.specs.declared.Begun.{Begun}
use Rattle.printed.specs.declared.At.{At}

-- Where the places of n cues end in a table of marks.
abbrev pub end_of : ℕ → ℕ
end_of n = label_places * n + label_places

-- The lines of the links from the cues after u.
unfoldable pub lines_after : List Block → ℕ → List ℕ
lines_after bs u = flat_map (λ w. cue_lines (show_links bs) w (count bs)) (range (suc u) (count bs - u))

-- What is still to come from a place of the table of cue u on: the lines of that cue's further links, then those of the cues after it.
unfoldable pub rest_of : List Block → List ℕ → ℕ → ℕ → List ℕ
rest_of bs m u p = lines_from m u p (end_of (count bs)) ++ lines_after bs u

-- There is still something to look at.
unfoldable pub is_going : ℕ → ℕ → ℕ → Bool
is_going cues u p = if_lt p (end_of cues) true (if_lt u cues true false)

-- A loaded show of at most 1,000 cues.
pub record Prints (xs t : List ℕ) (cues : ℕ) : Type 0 where
  pub loaded : Loaded xs t
  pub all : cues ≡ count (blocks_of xs)
  pub few : cues ≤ printed_cues

-- A place of the table of cue u, or its end.
pub record Stands (bs : List Block) (m : List ℕ) (u p : ℕ) : Type 0 where
  pub long : length m ≡ marks_size
  pub cue : u ≤ count bs
  pub place : p ≤ end_of (count bs)
  pub marks : p < end_of (count bs) → Marked (show_links bs) u (count bs) m

-- How far the end is, at most.
abbrev pub left : ℕ → ℕ → ℕ
left u p = (printed_cues - u) * 300000 + (300000 - p)

-- A part of the text was put at the start of a list: what was still to come is that part and what is still to come now.
pub record Part (bs : List Block) (u p : ℕ) (m out : List ℕ) (r : At) (m' after : List ℕ) : Type 0 where
  pub stands : Stands bs m' r.from r.place
  pub fits : r.used ≤ length after
  pub long : length after ≡ length out
  pub text : rest_of bs m u p ≡ take r.used after ++ rest_of bs m' r.from r.place
  pub gets_on : 33 ≤ length out → is_going (count bs) u p ≡ true → left r.from r.place < left u p

-- The text of a file has begun: all of it is there, or its title is, and the lines of all links of the show k are still to come.
pub record TextBegun (file rows t out : List ℕ) (r : Begun) : Type 0 where
  pub fits : r.used ≤ length out
  pub whole : r.coming ≡ None → take r.used out ≡ printed file
  pub size : (k : Links) → r.coming ≡ Some k → k.size ≤ length rows
  pub ready : (k : Links) → r.coming ≡ Some k → Prints (take k.size rows) t k.cues
  pub text : (k : Links) → r.coming ≡ Some k → (m : List ℕ) → printed file ≡ take r.used out ++ rest_of (blocks_of (take k.size rows)) m 0 (end_of k.cues)

-- Parts one after the other, from a place until nothing is left; and all that they put out.
pub data Run (bs : List Block) : List ℕ → ℕ → ℕ → List ℕ → Type 0 where
  ends : {m : List ℕ} {u p : ℕ} → is_going (count bs) u p ≡ false → Run bs m u p []
  goes : {m m' out after rest : List ℕ} {u p : ℕ} {r : At} → Part bs u p m out r m' after → Run bs m' r.from r.place rest
      → Run bs m u p (take r.used after ++ rest)
