-- The text of a wait file: its lines are the same by the model and by its bytes, and so is its first malformed line.
use Prim.Native.Nat.{ℕ}
use mathlib.Core.Path.{◌≡◌, refl, sym, ◌∙◌}
use mathlib.Core.Logic.{◌↔◌}
use mathlib.Core.List.{List}
use native.Mathlib.Omega.{arith}
use lib.ListN.{take}
use Rattle.model.specs.Choice.{if_lt}
use Rattle.model.specs.Values.{is_digit}
use Rattle.model.specs.Tables.{Lines, Breaks, table_read}
use Rattle.model.specs.Waits as model
use Rattle.basics.specs.Members.{Each}
use Rattle.basics.specs.Values.{Other}
use Rattle.shows.specs.Files.{OneLine, ended}
use Rattle.shows.proofs.Lines.{line_behind}
use Rattle.shows.proofs.SmallFiles.{table-reads, table-breaks}
use Rattle.demands.specs.Waits.{wait_names, wait_ends, Spells, Malformed}

-- The names and the ends are lines, and no end is a digit.
names-line : OneLine wait_names
names-line = line_behind (take 10 wait_names) (omega arith) ended

ends-line : OneLine wait_ends
ends-line = line_behind (take 1 wait_ends) (omega arith) ended

ends-other : Each Other wait_ends
unfolding is_digit if_lt
ends-other = (refl, (refl, tt))

-- The file's lines, by the model and by its bytes.
pub lines_are : (f : List ℕ) (vss : List (List ℕ)) → (table_read model.wait_names model.wait_ends f ≡ Lines vss) ↔ Spells f vss
unfolding model.wait_names model.wait_ends
lines_are f vss = table-reads wait_names wait_ends names-line ends-line ends-other f vss

pub breaks_are : (f : List ℕ) (n : ℕ) → (table_read model.wait_names model.wait_ends f ≡ Breaks n) ↔ Malformed f n
unfolding model.wait_names model.wait_ends
breaks_are f n = table-breaks wait_names wait_ends names-line ends-line ends-other f n

-- A file has one list of lines.
pub one-spelling : (f : List ℕ) (vss wss : List (List ℕ)) → Spells f vss → Spells f wss → vss ≡ wss
one-spelling f vss wss s t =
    let e : Lines vss ≡ Lines wss = sym ((lines_are f vss).1 s) ∙ (lines_are f wss).1 t in
    cc
