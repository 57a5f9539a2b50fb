-- What is left in a lent list. Document 01, "Questions": "the rest unchanged", "Only the needed beginning of the lent output changes."
use Rattle.std.specs.Prelude.{◌≡◌, List, ℕ, length, take, drop}

-- The lent list has some numbers at its beginning afterwards, and is what it was behind them.
pub record Leaves (numbers lent after : List ℕ) : Type 0 where
  pub first : take (length numbers) after ≡ numbers
  pub rest : drop (length numbers) after ≡ drop (length numbers) lent
  pub size : length after ≡ length lent
