-- The links are put one by one. The loop's invariant: what is left of them from cue c on.
use mathlib.Core.List.{flat_map}
use Rattle.model.specs.Rows.{row_values}
use Rattle.codec.proofs.Stores.{Stored}
use Rattle.plain_runs.specs.Putting.{own_links}
use Rattle.plain_runs.proofs.Runs.{own_links_left}
use Rattle.plain_runs.proofs.put_own_links.Given as goal

abbrev pub invariant-loop-c : goal.invariant-loop-c
invariant-loop-c l = Stored (flat_map row_values (own_links l.k 1 l.k)) (own_links_left l.k l.c) l.initial.numbers 0 l.at l.numbers
