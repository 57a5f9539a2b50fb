-- What is known of the waits that a lawful wait file gives.
use Rattle.std.specs.Prelude.{ℕ, suc, ◌≤◌, ◌≡◌, List, length, get_or}
use Rattle.model.specs.Limits.{max_followed, max_wait}

-- A wait for each of the labels 0 to 254, none of more than 6,000 tenths of a second.
pub record AreWaits (waits : List ℕ) : Type 0 where
  pub size : length waits ≡ suc max_followed
  pub most : (label : ℕ) → get_or waits label 0 ≤ max_wait
