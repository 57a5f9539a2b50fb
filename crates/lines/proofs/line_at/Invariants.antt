-- A line at a place. The loop's invariant: the line is the values in the row so far, and what is read for the ends that are left.
use mathlib.Core.Path.{◌≡◌}
use lib.ListN.{length, take, drop}
use Rattle.shows.specs.Files.{ends_of}
use Rattle.lines.specs.Scanning.{behind, line_at}
use Rattle.lines.proofs.line_at.Given as goal

abbrev pub invariant-loop-c : goal.invariant-loop-c
invariant-loop-c l =
    (length l.row ≡ l.n) × (line_at (ends_of l.n) l.text l.from ≡ behind (take l.c l.row) (line_at (drop l.c (ends_of l.n)) l.text l.at))
