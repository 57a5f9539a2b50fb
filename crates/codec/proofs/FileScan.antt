-- What is read at a place of the file is what the model reads of the lines from there on.
use Prim.Native.Nat.{ℕ, suc, ◌<◌}
use mathlib.Core.Path.{◌≡◌, ◌∙◌, ap}
use mathlib.Core.List.{List}
use lib.ListN.{length, drop}
use Rattle.model.specs.Text.{lines_of, ends}
use Rattle.model.specs.Verdicts.{refusal, Unread, row_then, read_lines}
use Rattle.shows.proofs.Lines.{ends-line, ends-other}
use Rattle.shows.proofs.Files.{says_first}
use Rattle.lines.specs.Scanning.{Values, Broken, line_at}
use Rattle.lines.proofs.FirstLines.{first_found, first-none}

pub read-on : (f : List ℕ) (at n : ℕ) (vs : List ℕ) (next : ℕ) → line_at ends f at ≡ Values vs next
    → read_lines n (lines_of (drop at f)) ≡ row_then vs (read_lines (suc n) (lines_of (drop next f)))
read-on f at n vs next p =
    let (l, q, v) = first_found ends ends-line ends-other f at vs next p in
    ap (read_lines n) q ∙ says_first n l vs (lines_of (drop next f)) v

pub read_off : (f : List ℕ) (at n : ℕ) → at < length f → line_at ends f at ≡ Broken
    → read_lines n (lines_of (drop at f)) ≡ Unread (refusal 3 n)
unfolding read_lines
read_off f at n h p =
    let (l, ls, q, v) = first-none ends ends-line ends-other f at h p in
    ap (read_lines n) q ∙ rw (read_lines, v)
