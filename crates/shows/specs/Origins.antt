-- Origins along a path: what the laws of the row behind a follow-on are stated with. Document 02, Paper 2.
use Rattle.std.specs.Prelude.{ℕ, List, [], ◌∷◌}
use Rattle.model.specs.Behind.{step_into, Behind, Stands, Missing}

-- A step more in front of the path, and a whole path.
unfoldable pub into : ℕ → Behind → Behind
into p (Stands o) = Stands (step_into p o)
into p Missing = Missing

unfoldable pub into_all : List ℕ → Behind → Behind
into_all [] b = b
into_all (p ∷ path) b = into p (into_all path b)

-- A row of the copy itself.
abbrev pub own_row : ℕ → Behind
own_row r = Stands (record { path = []; row = r })
