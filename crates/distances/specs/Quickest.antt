-- What links weigh for the quickest question: waits, of which a sum may be 0.
use Rattle.std.specs.Prelude.{ℕ, ◌≤◌, ◌≡◌, List, get_or}
use Rattle.model.specs.Limits.{max_followed}
use Rattle.distances.specs.Walks.{Price}

-- A followed link weighs its label's wait, in tenths of a second. A note can't be taken.
abbrev pub priced : List ℕ → Price
priced waits label w = (label ≤ max_followed) × (w ≡ get_or waits label 0)

-- No sum: from here on a number of 64 bits says nothing.
abbrev pub no_sum : ℕ
no_sum = 18446744073709551615
