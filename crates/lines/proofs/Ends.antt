-- The byte behind a value of a line, by the value's place.
use Prim.Native.Nat.{ℕ, zero, suc, ◌+◌, ◌<◌}
use mathlib.Core.Path.{◌≡◌, refl}
use native.Mathlib.Omega.{arith}
use lib.ListN.{length, get_or}
use Rattle.model.specs.Text.{comma, line_feed}
use Rattle.shows.specs.Files.{ends_of}

-- The last value has a line feed behind it, each other one a comma.
pub feed_at : (c n : ℕ) → c + 1 ≡ n → line_feed ≡ get_or (ends_of n) c line_feed
unfolding ends_of
feed_at c zero e = refl
feed_at zero (suc zero) e = refl
feed_at (suc c) (suc zero) e = refl
feed_at zero (suc (suc n)) e = absurd (omega arith)
feed_at (suc c) (suc (suc n)) e = feed_at c (suc n) (omega arith)

pub comma-at : (c n : ℕ) → c < n → (c + 1 ≡ n → ⊥) → comma ≡ get_or (ends_of n) c line_feed
unfolding ends_of
comma-at c zero h d = absurd (omega arith)
comma-at c (suc zero) h d = absurd (d (omega arith))
comma-at zero (suc (suc n)) h d = refl
comma-at (suc c) (suc (suc n)) h d = comma-at c (suc n) (omega arith) (λ e. d (omega arith))

-- There is one for each value.
pub ends-many : (n : ℕ) → length (ends_of n) ≡ n
unfolding ends_of
ends-many zero = refl
ends-many (suc zero) = refl
ends-many (suc (suc n)) = let e = ends-many (suc n) in omega arith
