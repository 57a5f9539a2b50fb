-- Laws of the loop that prints the links.
use Prim.Native.Nat.{ℕ, ◌+◌, ◌*◌, ◌<◌}
use native.Mathlib.Omega.{arith}
use mathlib.Core.Path.{◌≡◌, sym}
use mathlib.Core.Bool.{true}
use mathlib.Core.List.{List}
use lib.ListN.{length}
use Rattle.model.specs.Blocks.{blocks_of}
use Rattle.triples.specs.Marks.{label_places, marks_size}
use Rattle.printed.specs.Parts.{Prints, Stands, Part, is_going, left}
use Rattle.printed.specs.declared.At.{At}

-- It begins at the end of the table of no cue.
pub stands-first : (xs t : List ℕ) (cues : ℕ) (m : List ℕ) → Prints xs t cues → length m ≡ marks_size → Stands (blocks_of xs) m 0 (label_places * cues + label_places)
stands-first xs t cues m g l =
    record { long = l; cue = omega arith; place = omega (arith, g.all); marks = λ h. absurd (omega (arith, g.all)) }

-- And each part gets on.
pub part-less : (xs t : List ℕ) (cues u p : ℕ) (m out : List ℕ) (r : At) (m' after : List ℕ) → Prints xs t cues
    → Part (blocks_of xs) u p m out r m' after → length out ≡ 65536 → true ≡ is_going cues u p → left r.from r.place < left u p
part-less xs t cues u p m out r m' after g a l e = a.gets_on (omega arith) (sym (rw g.all at e))
