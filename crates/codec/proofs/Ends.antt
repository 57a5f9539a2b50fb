-- The byte behind a value of a row's line, by the value's place.
use Prim.Native.Nat.{ℕ, ◌<◌}
use mathlib.Core.Path.{◌≡◌}
use native.Mathlib.Omega.{arith}
use lib.ListN.{get_or}
use Rattle.model.specs.Limits.{row_size}
use Rattle.model.specs.Text.{comma, line_feed, ends}
use Rattle.shows.proofs.Lines.{ends-are}
use Rattle.lines.proofs.Ends as Ends

pub comma-at : (c : ℕ) → c < 10 → comma ≡ get_or ends c line_feed
comma-at c h = rw ends-are (Ends.comma-at c row_size (omega arith) (λ e. omega arith))

pub feed_at : (c : ℕ) → c ≡ 10 → line_feed ≡ get_or ends c line_feed
feed_at c h = rw ends-are (Ends.feed_at c row_size (omega arith))
