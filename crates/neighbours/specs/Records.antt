-- A record of marks, and what it has for the cues of a block: a flag for each join, then one for
-- what is inside, then 32 bytes with a bit for each own cue. A table has a record for each join of
-- each block.
use Rattle.std.specs.Prelude.{ℕ, ◌+◌, ◌-◌, ◌*◌, ◌/◌, ◌%◌, ◌^◌, ◌≤◌, ◌≡◌, ◌↔◌, ◌⊎◌, List, length, get_or}
use Rattle.std.specs.Int.Bits.{bit_or}
use Rattle.model.specs.Choice.{if_lt}
use Rattle.model.specs.Limits.{max_joins, max_own}

-- Where in a record the flag for what is inside stands, and where the bits begin.
abbrev pub inside_at : ℕ
inside_at = max_joins

abbrev pub bits_at : ℕ
bits_at = inside_at + 1

-- The bytes of a record, and of the records of a block's joins.
abbrev pub record_size : ℕ
record_size = bits_at + (max_own + 7) / 8

abbrev pub block_size : ℕ
block_size = max_joins * record_size

-- Where in a table the record of join i of block k begins.
abbrev pub record_at : ℕ → ℕ → ℕ
record_at k i = block_size * k + record_size * i

-- A table is long enough for the record from `at` on, and for the records of block k.
abbrev pub HasRecord : List ℕ → ℕ → Type 0
HasRecord m at = at + record_size ≤ length m

abbrev pub HasBlock : List ℕ → ℕ → Type 0
HasBlock m k = block_size * k + block_size ≤ length m

-- Bit n of a byte, and the byte with that bit set.
abbrev pub bit_at : ℕ → ℕ → ℕ
bit_at b n = b / 2 ^ n % 2

abbrev pub set_bit : ℕ → ℕ → ℕ
set_bit b n = bit_or b ((1 * 2 ^ n) % 256)

-- The bit of own cue d in the bytes of s from `at` on.
unfoldable pub own_bit : List ℕ → ℕ → ℕ → ℕ
own_bit s at d = bit_at (get_or s (at + (d - 1) / 8) 0) ((d - 1) % 8)

-- What a record of marks has for cue d of a block with own own cues: its flag for a join, its bit
-- for an own cue.
unfoldable pub mark_of : ℕ → List ℕ → ℕ → ℕ
mark_of own s d = if_lt own d (get_or s (d - own - 1) 0) (own_bit s bits_at d)

abbrev pub On : ℕ → List ℕ → ℕ → Type 0
On own s d = mark_of own s d ≡ 1

-- The cues that a record has a mark for.
abbrev pub HasMark : ℕ → ℕ → Type 0
HasMark own d = (1 ≤ d) × (d ≤ own + max_joins)

-- Where an own cue is marked, the flag for what is inside is set.
pub record Coarse (own : ℕ) (s : List ℕ) : Type 0 where
  pub at : (d : ℕ) → 1 ≤ d → d ≤ own → On own s d → get_or s inside_at 0 ≡ 1

pub record IsCue (d u : ℕ) : Type 0 where
  pub is : u ≡ d

-- The marks of a record, with those cues added of which P holds.
pub record Added (own : ℕ) (P : ℕ → Type 0) (s w : List ℕ) : Type 0 where
  pub long : length w ≡ length s
  pub coarse : Coarse own s → Coarse own w
  pub stays : get_or s inside_at 0 ≡ 1 → get_or w inside_at 0 ≡ 1
  pub at : (d : ℕ) → HasMark own d → On own w d ↔ (On own s d ⊎ P d)
