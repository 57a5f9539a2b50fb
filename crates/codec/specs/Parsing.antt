-- What a reading of a file answers, and leaves in the rows that it is lent.
use Rattle.std.specs.Prelude.{ℕ, ◌*◌, ◌≡◌, List, take, Result, Ok, Err}
use Rattle.model.specs.Limits.{row_size}
use Rattle.model.specs.Rows.{row_count}
use Rattle.model.specs.Lists.{overwrite}
use Rattle.model.specs.declared.Refusal.{Refusal}
use Rattle.model.specs.Verdicts.{Reading, Numbers, Unread}

-- Lent rows with a file's numbers in them: as many of its rows as there is room for. What stands behind them stays.
unfoldable pub filled : List ℕ → List ℕ → List ℕ
filled xs lent = overwrite (take (row_count lent * row_size) xs) lent

-- How many rows the file has, and those for which there is room; or the refusal.
unfoldable pub Parses : Reading → Result ℕ Refusal → List ℕ → List ℕ → Type 0
Parses (Numbers xs) p lent after = (p ≡ Ok (row_count xs)) × (after ≡ filled xs lent)
Parses (Unread r) p lent after = p ≡ Err r
