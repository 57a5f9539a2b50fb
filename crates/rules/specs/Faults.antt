-- Checks 5 to 8 of the row at place p, test by test as the code makes them; q is the place of the row before, and many the joins of
-- the block that a use names. proofs/Model.antt ties them to the model's checks.
use Rattle.std.specs.Prelude.{ℕ, ◌+◌, ◌-◌, List, get_or}
use Rattle.model.specs.Choice.{if_lt, if_eq, if_true}
use Rattle.model.specs.Limits.{max_joins, max_own, max_label, max_blocks}
use Rattle.model.specs.Rules.{every, is_cue, is_zero, distinct}
use Rattle.rules.specs.Cells.{cells, key_below}

unfoldable pub named_fault : List ℕ → ℕ → ℕ → ℕ → ℕ
named_fault xs p many cues =
    if_true (every (is_cue cues) (cells xs (p + 3) many))
    (if_true (every is_zero (cells xs (p + 3 + many) (8 - many))) (if_true (distinct (cells xs (p + 3) many)) 0 7) 6)
    6

unfoldable pub open_fault : List ℕ → ℕ → ℕ → ℕ
open_fault xs p blocks =
    if_eq (get_or xs p 0) blocks
    (if_lt blocks max_blocks
    (if_lt max_joins (get_or xs (p + 2) 0) 6
    (if_lt max_own (get_or xs (p + 3) 0) 6
    (if_true (every is_zero (cells xs (p + 4) 7)) 0 6)))
    5)
    5

-- A fault that was found, or else what the next check says.
unfoldable pub or_else : ℕ → ℕ → ℕ
or_else k next = if_eq k 0 next k

unfoldable pub link_order : List ℕ → ℕ → ℕ → ℕ → ℕ
link_order xs p q before =
    if_eq before 1 (if_true (key_below xs (q + 3) (p + 3) 2 (get_or xs (q + 2) 0) (get_or xs (p + 2) 0)) 0 8) 0

unfoldable pub use_order : List ℕ → ℕ → ℕ → ℕ → ℕ
use_order xs p q before =
    if_eq before 2 (if_true (key_below xs (p + 3) (q + 3) 8 (get_or xs (p + 2) 0) (get_or xs (q + 2) 0)) 8 0) 0

unfoldable pub link_fault : List ℕ → ℕ → ℕ → ℕ → ℕ → ℕ → ℕ
link_fault xs p q blocks cues before =
    if_lt (get_or xs p 0) blocks
    (if_eq (get_or xs p 0 + 1) blocks
    (if_lt before 2
    (if_lt (get_or xs (p + 2) 0) 1 6
    (if_lt max_label (get_or xs (p + 2) 0) 6 (or_else (named_fault xs p 2 cues) (link_order xs p q before))))
    5)
    5)
    5

unfoldable pub use_fault : List ℕ → ℕ → ℕ → ℕ → ℕ → ℕ → ℕ → ℕ
use_fault xs p q blocks cues before many =
    if_lt (get_or xs p 0) blocks
    (if_eq (get_or xs p 0 + 1) blocks
    (if_lt (get_or xs (p + 2) 0) (get_or xs p 0) (or_else (named_fault xs p many cues) (use_order xs p q before)) 6)
    5)
    5

unfoldable pub fault_of : List ℕ → ℕ → ℕ → ℕ → ℕ → ℕ → ℕ → ℕ
fault_of xs p q blocks cues before many =
    if_eq (get_or xs (p + 1) 0) 0 (open_fault xs p blocks)
    (if_eq (get_or xs (p + 1) 0) 1 (link_fault xs p q blocks cues before)
    (if_eq (get_or xs (p + 1) 0) 2 (use_fault xs p q blocks cues before many) 5))
