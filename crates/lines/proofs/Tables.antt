-- What is read at a place of a small file is what the model reads of the lines from there on; n is the number of the first of them.
use Prim.Native.Nat.{ℕ, suc, ◌≤◌, ◌<◌}
use mathlib.Core.Path.{◌≡◌, sym, ◌∙◌, ap}
use mathlib.Core.Bool.{true, false, false≢true}
use mathlib.Core.List.{List, [], ◌++◌}
use lib.ListN.{length, drop, drop_of_length-le}
use Rattle.model.specs.Text.{lines_of}
use Rattle.model.specs.Tables.{Lines, Breaks, line_then, table_lines, table_read}
use Rattle.basics.specs.Members.{Each}
use Rattle.basics.specs.Values.{Other}
use Rattle.shows.specs.Files.{OneLine}
use Rattle.shows.proofs.TableLines.{table-says, table-mute}
use Rattle.shows.proofs.SmallFiles.{named_table, unnamed_table}
use Rattle.lines.specs.Scanning.{Values, Broken, line_at, starts_with}
use Rattle.lines.proofs.Names.{starts_with_lem, starts_is}
use Rattle.lines.proofs.FirstLines.{first_found, first-none}

-- A line, no line, and the end of the file.
module _ (es : List ℕ) (el : OneLine es) (o : Each Other es) (f : List ℕ) (at n : ℕ) where
  pub table_on : (vs : List ℕ) (next : ℕ) → line_at es f at ≡ Values vs next
      → table_lines es n (lines_of (drop at f)) ≡ line_then vs (table_lines es (suc n) (lines_of (drop next f)))
  table_on vs next p =
      let (l, q, v) = first_found es el o f at vs next p in
      ap (table_lines es n) q ∙ table-says es n l (lines_of (drop next f)) vs v

  pub table-off : at < length f → line_at es f at ≡ Broken → table_lines es n (lines_of (drop at f)) ≡ Breaks n
  table-off h p =
      let (l, ls, q, v) = first-none es el o f at h p in
      ap (table_lines es n) q ∙ table-mute es n l ls v

pub table-end : (es f : List ℕ) (at n : ℕ) → length f ≤ at → table_lines es n (lines_of (drop at f)) ≡ Lines []
unfolding table_lines lines_of
table-end es f at n h = rw (drop_of_length-le f {i = at} h)

-- The line of names, and other names.
module _ (names es : List ℕ) (nl : OneLine names) (el : OneLine es) (o : Each Other es) (f : List ℕ) where
  pub table-named : starts_with names f ≡ true → table_read names es f ≡ table_lines es 2 (lines_of (drop (length names) f))
  table-named e = ap (table_read names es) (starts_is names f e) ∙ named_table names es nl el o (drop (length names) f)

  pub table-unnamed : starts_with names f ≡ false → table_read names es f ≡ Breaks 1
  table-unnamed e = unnamed_table names es nl el o f none
    where
      none : (t : List ℕ) → f ≡ names ++ t → ⊥
      none t p = false≢true (sym e ∙ ap (starts_with names) p ∙ starts_with_lem names t)
