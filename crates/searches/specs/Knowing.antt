-- What a search over a whole show asks of the work area.
use Rattle.std.specs.Prelude.{ℕ, ◌*◌, ◌≤◌, List, length}
use Rattle.model.specs.Limits.{summary_size}
use Rattle.model.specs.Blocks.{blocks_of}
use Rattle.distances.specs.Walks.{Price}
use Rattle.distances.specs.Tells.{InTable, ExactTable}
use Rattle.blocks.specs.Loaded.{Loaded}
use Rattle.blocks.specs.Places.{Found}
use Rattle.blocks.specs.declared.Place.{Place}
use Rattle.searches.specs.Edges.{numbers}

-- A loaded show, and numbers in the work area that tell the least weights between the joins of its blocks.
pub record Known (inf : ℕ) (price : Price) (xs t work : List ℕ) : Type 0 where
  pub loaded : Loaded xs t
  pub exact : ExactTable price (blocks_of xs) (length (blocks_of xs)) (InTable inf (numbers work))

-- The same where the work area holds such numbers, with room for each block.
pub record HasTable {A : Type 0} (inf : ℕ) (values : List A → List ℕ) (price : Price) (xs t : List ℕ) (work : List A) : Type 0 where
  pub known : Known inf price xs t (values work)
  pub long : summary_size * length (blocks_of xs) ≤ length work

-- What the way up or down the rows of a place asks for: such a work area, and the rows that lead to the place.
pub record MaySearch {A : Type 0} (inf : ℕ) (values : List A → List ℕ) (price : Price) (xs t : List ℕ) (work : List A) (rows : List ℕ) (q : Place) : Type 0 where
  pub table : HasTable inf values price xs t work
  pub found : Found xs t rows q
